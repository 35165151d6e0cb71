use Rattle.std.proofs.Common.{List, [], map, ap, arith}
use Rattle.std.proofs.lemmas.Result.{IfOk-weaker}
use Rattle.dai_model.specs.Classes.{up_to}
use Rattle.dai_model.specs.Clause.{Clause}
use Rattle.dai_logic.specs.declared.structure.BlockId.TheVariants.{Init}
use Rattle.dai_logic.specs.Protocols.{protocol_of}
use Rattle.dai_logic.specs.Trees.{formula_of}
use Rattle.dai_template.specs.Spaces.{clause_of}
use Rattle.dai_weaken.specs.Judging.{AnswersAtFirst}
use Rattle.dai_inquiry.specs.Keys.{clauses_in}
use Rattle.dai_judge.specs.Memory.{Decides}
use Rattle.dai_judge.specs.Ready.{ArePremisesOf}
use Rattle.dai_judge.proofs.Bridge.{answers_at_first}
use Rattle.dai_judge.proofs.judging.SizedJudgeJudge.initiation.Goals as goal

pub returns-clause-answer : goal.returns-clause-answer
returns-clause-answer c =
    let P = protocol_of c.args.protocol.now in
    let sizes = c.args.self.now.sizes.items in
    let d = clause_of c.args.space.now c.args.goal.now in
    let premises : ArePremisesOf P [] c.none.result = record {
      bounds = c.requires.goal.bounds;
      templates = λ e there. absurd (let b = there.1 in omega arith);
      formulas = ap (map formula_of) c.none.ensures.formulas;
      keys = ap clauses_in c.none.ensures.keys;
    } in
    IfOk-weaker c.decide.result (λ answer. (I : List Clause) → ArePremisesOf P I c.none.result → Decides (up_to sizes) P Init I d answer) (AnswersAtFirst (up_to sizes) P d)
    (λ answer h. answers_at_first P sizes d answer (h [] premises))
    c.decide.ensures.answer
