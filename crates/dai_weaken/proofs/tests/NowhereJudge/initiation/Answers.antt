use Rattle.dai_logic.specs.Protocols.{protocol_of}
use Rattle.dai_template.specs.Spaces.{clause_of}
use Rattle.dai_weaken.proofs.Nowhere.{holds_at_first}
use Rattle.dai_weaken.proofs.tests.NowhereJudge.initiation.Goals as goal

pub returns-clause-answer : goal.returns-clause-answer
returns-clause-answer c = holds_at_first (protocol_of c.args._protocol.now) (clause_of c.args._space.now c.args._goal.now) c.requires.judge
