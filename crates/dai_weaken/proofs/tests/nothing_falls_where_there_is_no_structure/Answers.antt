use Rattle.std.specs.Prelude.{[], ◌∷◌}
use Rattle.dai_logic.specs.Protocols.{protocol_of}
use Rattle.dai_model.specs.Classes.{up_to}
use Rattle.dai_model.specs.Template.{Bounds}
use Rattle.dai_weaken.proofs.tests.nothing_falls_where_there_is_no_structure.Goals as goal

abbrev within : Bounds
within = record { variables = 2 ∷ []; literals = 2 }

pub greatest-requires-clause-start : goal.greatest-requires-clause-start
greatest-requires-clause-start g c = (within, c.in_ok-start.ensures (up_to (0 ∷ [])) (protocol_of c.in_ok-protocol.protocol) within c.in_ok-space.ensures)

pub missing-requires-clause-answered : goal.missing-requires-clause-answered
missing-requires-clause-answered g c = (within, (c.in_ok-weakened.ensures.answer within (c.in_ok-start.ensures (up_to (0 ∷ [])) (protocol_of c.in_ok-protocol.protocol) within c.in_ok-space.ensures)).answered)
