use Rattle.std.proofs.Common.{None, map, sym, subst}
use Rattle.std.specs.List.{All}
use Rattle.dai_model.specs.WellSorted.{IsWellSorted, closed_scope}
use Rattle.dai_logic.specs.Protocols.{protocol_of}
use Rattle.dai_logic.specs.Trees.{formula_of}
use Rattle.dai_ground.specs.Answers.{IsAnswerTo}
use Rattle.dai_judge.proofs.Bridge.{answers_entailed}
use Rattle.dai_judge.proofs.Picks.{formulas_of_premises, closed_premises}
use Rattle.dai_judge.proofs.judging.SizedJudgeJudge.entailed.Goals as goal

pub ask-requires-clause-premises : goal.ask-requires-clause-premises
ask-requires-clause-premises c =
    let P = protocol_of c.args.protocol.now in
    subst (λ fs. All (IsWellSorted P closed_scope) (map formula_of fs)) (sym c.deref.ensures.value) (closed_premises P c.requires.premises.0 c.args.premises.now c.requires.premises.1)

pub returns-clause-answer : goal.returns-clause-answer
returns-clause-answer c = λ I premises.
    let P = protocol_of c.args.protocol.now in
    let sizes = c.args.self.now.sizes.items in
    let fs = map formula_of c.args.premises.now.formulas.items in
    let f = formula_of c.args.formula.now in
    let answer = c.in_ok-answer.answer in
    answers_entailed P sizes I fs f answer c.holds.result c.holds.ensures (formulas_of_premises P I c.args.premises.now premises)
    (subst (λ ss. IsAnswerTo P None fs f ss answer) c.deref-2.ensures.value
    (subst (λ bs. IsAnswerTo P None (map formula_of bs) f c.deref-2.result.now answer) c.deref.ensures.value c.in_ok-answer.ensures))
