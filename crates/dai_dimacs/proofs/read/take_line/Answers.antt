use Rattle.std.proofs.Common.{◌≡◌, true, [], ◌∷◌, ◌++◌, subst, sym, ◌∙◌}
use Rattle.dai_dimacs.specs.Files.{is_content}
use Rattle.dai_dimacs.specs.Drafts.{AreRead, AreLinesInto}
use Rattle.dai_dimacs.proofs.Texts.{line_more, no_header, first_header}
use Rattle.dai_dimacs.proofs.read.take_line.Goals as goal

pub returns-in-Some-clause-takes : goal.returns-in-Some-clause-takes
returns-in-Some-clause-takes c =
    let content : is_content c.args.line.now ≡ true = sym c.is_content.ensures ∙ c.if-not-is_content.false in
    line_more c.take_line.result c.args.line.now c.args.draft.now c.in-Some.known c.take_line.new.self c.in-Some.is content c.take_line.ensures.takes c.take_line.ensures.vars

pub returns-in-None-header-clause-takes : goal.returns-in-None-header-clause-takes
returns-in-None-header-clause-takes c =
    let content : is_content c.args.line.now ≡ true = sym c.is_content.ensures ∙ c.if-not-is_content.false in
    λ text h. no_header text c.args.line.now content c.in-None-header.ensures (subst (AreRead text) c.in-None.is h)

pub returns-in-Some-header-clause-takes : goal.returns-in-Some-header-clause-takes
returns-in-Some-header-clause-takes c =
    let line = c.args.line.now in
    let missing = c.in-Some-header.missing in
    let content : is_content line ≡ true = sym c.is_content.ensures ∙ c.if-not-is_content.false in
    λ text h.
    subst (λ xs. AreLinesInto (text ++ line ∷ []) c.new.result missing xs) (sym c.new-in-Some-header.ensures.items)
    (subst (λ f. AreLinesInto (text ++ line ∷ []) f missing []) (sym c.new.ensures)
    (first_header text line c.in-Some-header.vars missing content c.in-Some-header.ensures (subst (AreRead text) c.in-None.is h)))
