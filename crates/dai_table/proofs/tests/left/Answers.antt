use Rattle.std.specs.Prelude.{[]}
use Rattle.dai_model.specs.Classes.{all_sizes}
use Rattle.dai_model.specs.Template.{Bounds}
use Rattle.dai_logic.specs.Protocols.{protocol_of}
use Rattle.dai_table.proofs.tests.left.Goals as goal

pub greatest-requires-clause-start : goal.greatest-requires-clause-start
greatest-requires-clause-start c =
    let B : Bounds = record { variables = []; literals = c.args.most } in
    (B, c.in_ok-start.ensures all_sizes (protocol_of c.args.protocol.now) B c.in_ok-space.ensures)

pub missing-requires-clause-answered : goal.missing-requires-clause-answered
missing-requires-clause-answered c =
    let B : Bounds = record { variables = []; literals = c.args.most } in
    (B, (c.in_ok-weakened.ensures.answer B (c.in_ok-start.ensures all_sizes (protocol_of c.args.protocol.now) B c.in_ok-space.ensures)).answered)
