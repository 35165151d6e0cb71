use Rattle.std.proofs.Common.{◌≡◌, ◌<◌, List, length, get_or, ◌∙◌, subst}
use Rattle.dai_logic.specs.declared.protocol.Invariant.{Invariant}
use Rattle.dai_print.proofs.Lines.{label_at}
use Rattle.dai_print.proofs.report.label.Goals as goal

pub returns-in-Some : goal.returns-in-Some
returns-in-Some c =
    let found = c.in-Some.ensures.lookup in
    let below = subst (λ (xs : List Invariant). c.args.number < length xs) c.deref.ensures.value found.3.0 in
    let is = subst (λ (xs : List Invariant). c.in-Some.invariant.now ≡ get_or xs c.args.number c.in-Some.invariant.now) c.deref.ensures.value found.1 in
    c.as_bytes.ensures ∙ label_at c.args.protocol.now.invariants.items c.args.number c.in-Some.invariant.now below is
