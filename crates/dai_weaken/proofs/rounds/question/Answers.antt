use Rattle.std.proofs.Common.{◌≡◌, ◌∙◌, ◌≤◌, Option, Some, subst, length, arith}
use Rattle.std.specs.Prelude.{slice_get}
use Rattle.dai_model.specs.Protocol.{Action}
use Rattle.dai_model.specs.Classes.{Class}
use Rattle.std.proofs.lemmas.List.{length-map}
use Rattle.dai_logic.specs.Protocols.{protocol_of, action_of}
use Rattle.dai_template.specs.Spaces.{clause_of}
use Rattle.dai_weaken.specs.declared.judge.Counterexample.{Counterexample}
use Rattle.dai_weaken.specs.Judging.{Refutes, AnswersAfter, HoldsAfter}
use Rattle.dai_weaken.proofs.Asking.{refutes_later, after_next, holds_all}
use Rattle.dai_weaken.proofs.rounds.question.Goals as goal

pub returns-in-Some-2-clause-answer : goal.returns-in-Some-2-clause-answer
returns-in-Some-2-clause-answer g c = λ I h.
    let P = protocol_of c.args.protocol.now in
    let C = g.J.Judge.class c.loop-number.judge in
    let goal = clause_of c.args.space.now c.args.goal.now in
    let number = c.loop-number.number in
    let later = subst (λ (o : Option Counterexample). AnswersAfter C P I number goal o) c.in-Some-2.is (c.in_ok-later.ensures.answer I (c.loop-number.invariant.premises c.args.premises.now I h)) in
    subst (λ (D : Class). Refutes D P I goal c.in-Some-2.later) c.loop-number.invariant.same (refutes_later C P I number goal c.in-Some-2.later later)

pub loop-number-preserved : goal.loop-number-preserved
loop-number-preserved g c =
    let P = protocol_of c.args.protocol.now in
    let C = g.J.Judge.class c.loop-number.judge in
    let D = g.J.Judge.class c.args.judge.now in
    let goal = clause_of c.args.space.now c.args.goal.now in
    let number = c.loop-number.number in
    let known = c.loop-number.invariant in
    record {
      judge = c.in_ok-later.ensures.judge;
      same = c.in_ok-later.ensures.same ∙ known.same;
      premises = λ p I h. c.in_ok-later.ensures.premises p I (known.premises p I h);
      at_first = known.at_first;
      after = λ k below action is I h.
          let here : (a : Action) → slice_get P.actions number ≡ Some a → HoldsAfter D P I a goal =
          λ a there.
          let none = subst (λ (o : Option Counterexample). AnswersAfter C P I number goal o) c.in_default-2.is (c.in_ok-later.ensures.answer I (known.premises c.args.premises.now I h)) in
          subst (λ (E : Class). HoldsAfter E P I a goal) known.same (none a there) in
          after_next D P I goal number (λ j less a there. known.after j less a there I h) here k below action is;
    }

pub returns-clause-answer : goal.returns-clause-answer
returns-clause-answer g c = λ I h.
    let P = protocol_of c.args.protocol.now in
    let D = g.J.Judge.class c.args.judge.now in
    let goal = clause_of c.args.space.now c.args.goal.now in
    let known = c.loop-number.invariant in
    let long = length-map c.args.protocol.now.actions.items action_of in
    let end = c.len-number-end.ensures in
    let past = c.loop-number-test.false in
    let all : length P.actions ≤ c.loop-number.number = omega (arith, long, end, past) in
    holds_all D P I goal c.loop-number.number all known.at_first (λ k below a there. known.after k below a there I h)
