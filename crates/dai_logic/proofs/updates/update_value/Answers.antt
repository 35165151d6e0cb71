use Rattle.dai_logic.specs.Trees.{term_of}
use Rattle.dai_logic.specs.Protocols.{protocol_of}
use Rattle.dai_logic.specs.Environments.{environment_of}
use Rattle.dai_logic.proofs.Updating.{value_fits, value_written}
use Rattle.dai_logic.proofs.updates.update_value.Goals as goal

pub returns-clause-fits : goal.returns-clause-fits
returns-clause-fits c =
    value_fits (protocol_of c.args.protocol.now) c.args.s.now (environment_of c.args.env.now) c.args.ind (term_of c.args.to) c.element_of-element.result c.requires.fits c.requires.statement (c.element_of-element.ensures (protocol_of c.args.protocol.now))

pub returns-clause-after : goal.returns-clause-after
returns-clause-after c =
    value_written (protocol_of c.args.protocol.now) c.args.s.now (environment_of c.args.env.now) c.args.ind (term_of c.args.to) c.element_of-element.result c.requires.fits c.requires.statement (c.element_of-element.ensures (protocol_of c.args.protocol.now))
