use Rattle.dai_logic.specs.Protocols.{protocol_of}
use Rattle.dai_logic.specs.Trees.{formula_of}
use Rattle.dai_query.proofs.Marked.{enough_to_look}
use Rattle.dai_query.proofs.tests.leads.Goals as goal

pub consecution-requires-clause-enough : goal.consecution-requires-clause-enough
consecution-requires-clause-enough c = enough_to_look (protocol_of c.args.protocol.now) (formula_of c.args.goal.now) c.args.sizes.now c.requires.protocol c.requires.enough
