use Rattle.std.proofs.Common.{◌≡◌, List, length, ◌∙◌, ap, arith, subst, sym}
use Rattle.std.specs.Prelude.{[]}
use Rattle.std.specs.List.{All}
use Rattle.std.proofs.lemmas.List.{length-map, get_or-map}
use Rattle.dai_model.specs.Protocol as Model
use Rattle.dai_model.specs.Template.{Bounds}
use Rattle.dai_model.specs.WellSorted.{IsWellSorted, closed_scope}
use Rattle.dai_logic.specs.Protocols.{protocol_of, invariant_of}
use Rattle.dai_logic.proofs.Accepted.{is_protocol}
use Rattle.dai_template.specs.declared.clause.Clause.{Clause}
use Rattle.dai_template.specs.Spaces.{IsClauseOf}
use Rattle.dai_judge.specs.Premises.{AreSizesFor}
use Rattle.dai_judge.proofs.tests.all_told.Goals as goal

-- without types no size is needed
none_needed : (P : Model.Protocol) → P.sorts ≡ [] → AreSizesFor P []
none_needed P is = record { one_each = ap (λ ss. length ss) (sym is); inhabited = λ k d below. absurd (omega arith) }

abbrev pairs : Bounds
pairs = record { variables = []; literals = 2 }

pub each_told-requires-clause-clauses : goal.each_told-requires-clause-clauses
each_told-requires-clause-clauses c =
    let P = protocol_of c.args.protocol.now in
    (pairs, subst (λ (clauses : List Clause). All (IsClauseOf P pairs c.in_ok-space.space) clauses) (sym c.deref.ensures.value) (c.in_ok-clauses.ensures P pairs c.in_ok-space.ensures).of_the_space)

pub each_told-requires-clause-closed : goal.each_told-requires-clause-closed
each_told-requires-clause-closed c =
    let P = protocol_of c.args.protocol.now in
    let fs = c.args.protocol.now.invariants.items in
    let f = c.index.result.now in
    let long = length-map fs invariant_of in
    let some = c.requires.invariant in
    let at = get_or-map invariant_of fs 0 f (invariant_of f) (omega (arith, long, some)) ∙ ap invariant_of (sym c.index.ensures) in
    subst (λ (i : Model.Invariant). IsWellSorted P closed_scope i.body) at ((is_protocol c.args.protocol.now).invariants 0 (invariant_of f) some)

pub each_told-requires-clause-judge : goal.each_told-requires-clause-judge
each_told-requires-clause-judge c =
    let P = protocol_of c.args.protocol.now in
    c.in_ok-judge.ensures.ready P (none_needed P c.requires.no_types)
