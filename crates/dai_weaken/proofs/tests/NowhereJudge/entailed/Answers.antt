use Rattle.std.proofs.Common.{refl}
use Rattle.dai_logic.specs.Protocols.{protocol_of}
use Rattle.dai_logic.specs.Trees.{formula_of}
use Rattle.dai_weaken.proofs.Nowhere.{follows}
use Rattle.dai_weaken.proofs.tests.NowhereJudge.entailed.Goals as goal

pub returns-clause-answer : goal.returns-clause-answer
returns-clause-answer c = λ I _. ((λ _. follows (protocol_of c.args._protocol.now) I (formula_of c.args._formula.now)), (λ _. refl))
