use Rattle.dai_logic.specs.Protocols.{protocol_of}
use Rattle.dai_template.specs.Spaces.{clause_of}
use Rattle.dai_weaken.proofs.Nowhere.{holds_after}
use Rattle.dai_weaken.proofs.tests.NowhereJudge.consecution.Goals as goal

pub returns-clause-answer : goal.returns-clause-answer
returns-clause-answer c = λ I _ action _. holds_after (protocol_of c.args._protocol.now) I action (clause_of c.args._space.now c.args._goal.now)
