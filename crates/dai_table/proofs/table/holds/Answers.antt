use Rattle.dai_logic.specs.Protocols.{protocol_of}
use Rattle.dai_logic.specs.Trees.{formula_of}
use Rattle.dai_logic.specs.Environments.{environment_of}
use Rattle.dai_table.proofs.Fitting.{closed_evaluable}
use Rattle.dai_table.proofs.table.holds.Goals as goal

pub eval-requires-clause-formula : goal.eval-requires-clause-formula
eval-requires-clause-formula c = closed_evaluable (protocol_of c.args.protocol.now) c.args.s.now.sizes.items (environment_of c.in_ok-env.env) (formula_of c.args.formula.now) c.requires.closed
