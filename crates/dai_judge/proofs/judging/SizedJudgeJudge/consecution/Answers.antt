use Rattle.std.proofs.Common.{List}
use Rattle.std.proofs.lemmas.Result.{IfOk-weaker}
use Rattle.dai_model.specs.Classes.{up_to}
use Rattle.dai_model.specs.Clause.{Clause}
use Rattle.dai_logic.specs.declared.structure.BlockId.TheVariants.{Act}
use Rattle.dai_logic.specs.Protocols.{protocol_of}
use Rattle.dai_template.specs.Spaces.{clause_of}
use Rattle.dai_weaken.specs.Judging.{AnswersAfter}
use Rattle.dai_judge.specs.Memory.{Decides}
use Rattle.dai_judge.specs.Ready.{ArePremisesOf}
use Rattle.dai_judge.proofs.Bridge.{answers_after}
use Rattle.dai_judge.proofs.judging.SizedJudgeJudge.consecution.Goals as goal

pub returns-clause-answer : goal.returns-clause-answer
returns-clause-answer c =
    let P = protocol_of c.args.protocol.now in
    let sizes = c.args.self.now.sizes.items in
    let d = clause_of c.args.space.now c.args.goal.now in
    let n = c.args.action in
    IfOk-weaker c.decide.result (λ answer. (I : List Clause) → ArePremisesOf P I c.args.premises.now → Decides (up_to sizes) P (Act n) I d answer) (λ answer. (I : List Clause) → ArePremisesOf P I c.args.premises.now → AnswersAfter (up_to sizes) P I n d answer)
    (λ answer h I premises. answers_after P sizes I d n answer (h I premises))
    c.decide.ensures.answer
