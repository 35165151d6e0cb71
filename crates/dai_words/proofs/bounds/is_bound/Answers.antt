use Rattle.std.proofs.Common.{refl, sym, ◌∙◌, ap}
use Rattle.dai_lex.specs.Words.{is_name}
use Rattle.dai_words.specs.Numbers.{is_number}
use Rattle.dai_words.proofs.Parts.{bound_by_cut, whole_is_no_bound}
use Rattle.dai_words.proofs.bounds.is_bound.Goals as goal

pub returns-then-is_name : goal.returns-then-is_name
returns-then-is_name c =
    let whole = bound_by_cut c.args.part.now c.in-Some.at c.in-Some.ensures.cut in
    let named = c.if-is_name.ensures ∙ ap is_name c.name_before.ensures in
    let counted = c.is_number.ensures ∙ ap is_number c.digits_after.ensures in
    rw (whole, sym named, sym counted) refl

pub returns-else-is_name : goal.returns-else-is_name
returns-else-is_name c =
    let whole = bound_by_cut c.args.part.now c.in-Some.at c.in-Some.ensures.cut in
    let named = c.if-is_name.ensures ∙ ap is_name c.name_before.ensures in
    c.if-is_name.false ∙ rw (whole, sym named) refl

pub returns-in-None : goal.returns-in-None
returns-in-None c = sym (whole_is_no_bound c.args.part.now c.in-None.ensures.whole)
