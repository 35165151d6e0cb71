use Rattle.std.proofs.Common.{List, subst, sym}
use Rattle.std.specs.Prelude.{[], ◌∷◌}
use Rattle.std.specs.List.{All}
use Rattle.dai_model.specs.Template.{Bounds}
use Rattle.dai_logic.specs.Protocols.{protocol_of}
use Rattle.dai_template.specs.declared.clause.Clause.{Clause}
use Rattle.dai_template.specs.Spaces.{IsClauseOf}
use Rattle.dai_print.proofs.tests.count_of_locks.Goals as goal

abbrev within : Bounds
within = record { variables = 2 ∷ 1 ∷ []; literals = 2 }

pub count-requires : goal.count-requires
count-requires c =
    let P = protocol_of c.in_ok-protocol.protocol in
    record {
      bounds = within;
      each = subst (λ (clauses : List Clause). All (IsClauseOf P within c.in_ok-space.space) clauses) (sym c.deref.ensures.value) (c.in_ok-clauses.ensures P within c.in_ok-space.ensures).of_the_space;
    }
