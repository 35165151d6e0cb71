use Rattle.dai_logic.specs.Protocols.{protocol_of}
use Rattle.dai_logic.proofs.Accepted.{is_protocol}
use Rattle.dai_table.proofs.Valued.{structure_fits}
use Rattle.dai_table.proofs.judging.satisfies_if.Goals as goal

pub holds-requires-clause-flags : goal.holds-requires-clause-flags
holds-requires-clause-flags c =
    let e = c.in_ok-s.ensures in
    structure_fits (protocol_of c.args.protocol.now) c.in_ok-s.s c.args.flags.now (is_protocol c.args.protocol.now) c.requires.table c.requires.long e.sizes e.tables e.values
