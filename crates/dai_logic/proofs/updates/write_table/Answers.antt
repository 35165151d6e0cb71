use Rattle.std.proofs.Common.{map}
use Rattle.dai_logic.specs.Trees.{term_of, formula_of}
use Rattle.dai_logic.specs.Protocols.{protocol_of}
use Rattle.dai_logic.specs.Environments.{environment_of}
use Rattle.dai_logic.proofs.Accepted.{relation_sorts}
use Rattle.dai_logic.proofs.Updating.{update_writable}
use Rattle.dai_logic.proofs.updates.write_table.Goals as goal

pub write-requires-clause-target : goal.write-requires-clause-target
write-requires-clause-target c =
    update_writable (protocol_of c.args.protocol.now) c.args.s.now (environment_of c.args.env.now) c.args.rel (map term_of c.args.target.now) (formula_of c.args.body.now) c.sorts_of.result.now c.requires.fits (relation_sorts c.args.protocol.now c.args.rel) c.sorts_of.ensures c.requires.statement
