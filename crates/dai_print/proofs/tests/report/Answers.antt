use Rattle.std.proofs.Common.{List, subst, sym}
use Rattle.std.specs.Prelude.{[], ◌∷◌}
use Rattle.std.specs.List.{All}
use Rattle.dai_model.specs.Template.{Bounds}
use Rattle.dai_logic.specs.Protocols.{protocol_of}
use Rattle.dai_template.specs.declared.clause.Clause.{Clause}
use Rattle.dai_template.specs.Spaces.{IsClauseOf}
use Rattle.dai_print.proofs.tests.report.Goals as goal

abbrev within : Bounds
within = record { variables = []; literals = 0 }

pub report_text-requires : goal.report_text-requires
report_text-requires c =
    let P = protocol_of c.in_ok-protocol.protocol in
    record {
      bounds = within;
      each = subst (λ (clauses : List Clause). All (IsClauseOf P within c.in_ok-space.space) clauses) (sym c.deref.ensures.value) (c.in_ok-clauses.ensures P within c.in_ok-space.ensures).of_the_space;
    }
