use Rattle.std.proofs.Common.{List, sym, subst}
use Rattle.std.specs.Prelude.{[], ◌∷◌}
use Rattle.std.specs.List.{All}
use Rattle.dai_model.specs.Template.{Bounds}
use Rattle.dai_logic.specs.Protocols.{protocol_of}
use Rattle.dai_template.specs.declared.clause.Clause.{Clause}
use Rattle.dai_template.specs.Spaces.{IsClauseOf}
use Rattle.dai_judge.proofs.tests.sizes_decide.Goals as goal

abbrev two_clients : Bounds
two_clients = record { variables = 2 ∷ 1 ∷ []; literals = 1 }

pub hold_at_first-requires-clause-clauses : goal.hold_at_first-requires-clause-clauses
hold_at_first-requires-clause-clauses g c =
    let P = protocol_of c.in_ok-protocol.protocol in
    (two_clients, subst (λ (clauses : List Clause). All (IsClauseOf P two_clients c.in_ok-space.space) clauses) (sym c.deref.ensures.value) (c.in_ok-clauses.ensures P two_clients c.in_ok-space.ensures).of_the_space)

pub hold_at_first-requires-2-clause-clauses : goal.hold_at_first-requires-2-clause-clauses
hold_at_first-requires-2-clause-clauses g c =
    let P = protocol_of c.in_ok-protocol.protocol in
    (two_clients, subst (λ (clauses : List Clause). All (IsClauseOf P two_clients c.in_ok-space.space) clauses) (sym c.deref-2.ensures.value) (c.in_ok-clauses.ensures P two_clients c.in_ok-space.ensures).of_the_space)
