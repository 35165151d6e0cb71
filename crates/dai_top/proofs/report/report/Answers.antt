use Rattle.std.proofs.Common.{subst, sym}
use Rattle.dai_model.specs.Classes.{Class}
use Rattle.dai_model.specs.Answer.{AreMissing}
use Rattle.dai_logic.specs.Protocols.{protocol_of}
use Rattle.dai_print.specs.Texts.{ArePrintable}
use Rattle.dai_weaken.specs.Weakening.{IsAnswered}
use Rattle.dai_top.specs.Answers.{IsStatusOf}
use Rattle.dai_top.proofs.Reporting.{printable, reported_by, found_by, not_found_by}
use Rattle.dai_top.proofs.report.report.Goals.{then-is_empty, else-is_empty}
use Rattle.dai_top.proofs.report.report.Goals as goal

pub greatest-requires-clause-start : goal.greatest-requires-clause-start
greatest-requires-clause-start g c =
    let P = protocol_of c.args.protocol.now in
    let B = c.requires.space.0 in
    (B, c.in_ok-start.ensures (g.J.Judge.class c.args.judge.now) P B c.requires.space.1)

pub missing-requires-clause-answered : goal.missing-requires-clause-answered
missing-requires-clause-answered g c =
    let P = protocol_of c.args.protocol.now in
    let B = c.requires.space.0 in
    let left = c.in_ok-weakened.ensures.answer B (c.in_ok-start.ensures (g.J.Judge.class c.args.judge.now) P B c.requires.space.1) in
    (B, subst (λ (C : Class). IsAnswered C P B c.args.space.now c.in_ok-weakened.weakened.kept.clauses.items) (sym c.in_ok-weakened.ensures.same) left.answered)

pub report_text-requires : goal.report_text-requires
report_text-requires g c =
    let P = protocol_of c.args.protocol.now in
    let B = c.requires.space.0 in
    let left = c.in_ok-weakened.ensures.answer B (c.in_ok-start.ensures (g.J.Judge.class c.args.judge.now) P B c.requires.space.1) in
    subst (ArePrintable P c.args.space.now) (sym c.clauses.ensures) (printable P B c.args.space.now c.in_ok-weakened.weakened.kept.clauses.items left.answered.antichain)

pub returns-clause-report : goal.returns-clause-report
returns-clause-report g c = λ B is.
    let P = protocol_of c.args.protocol.now in
    let C = g.J.Judge.class c.args.judge.now in
    let space = c.args.space.now in
    let kept = c.in_ok-weakened.weakened.kept.clauses.items in
    let numbers = c.in_ok-missing.missing.items in
    let same = c.in_ok-weakened.ensures.same in
    let left = c.in_ok-weakened.ensures.answer B (c.in_ok-start.ensures C P B is) in
    let missing = c.in_ok-missing.ensures.missing B (subst (λ (D : Class). IsAnswered D P B space kept) (sym same) left.answered) in
    let text = rw c.as_slice.ensures.value at (rw c.clauses.ensures at c.in_ok-out.ensures) in
    reported_by C P B space kept numbers c.in_ok-out.out.items left.answered (subst (λ (D : Class). AreMissing D P B numbers) same missing) text

pub returns-clause-status : goal.returns-clause-status
returns-clause-status g c = λ B is.
    let P = protocol_of c.args.protocol.now in
    let C = g.J.Judge.class c.args.judge.now in
    let space = c.args.space.now in
    let kept = c.in_ok-weakened.weakened.kept.clauses.items in
    let numbers = c.in_ok-missing.missing.items in
    let same = c.in_ok-weakened.ensures.same in
    let left = c.in_ok-weakened.ensures.answer B (c.in_ok-start.ensures C P B is) in
    let missing = subst (λ (D : Class). AreMissing D P B numbers) same (c.in_ok-missing.ensures.missing B (subst (λ (D : Class). IsAnswered D P B space kept) (sym same) left.answered)) in
    elim c.if-is_empty.branch [
      | then-is_empty w ↦ subst (IsStatusOf C P B) (sym w.status-is) (found_by C P B c.in_ok-missing.missing c.is_empty.result missing c.is_empty.ensures w.if-is_empty.true)
      | else-is_empty w ↦ subst (IsStatusOf C P B) (sym w.status-is) (not_found_by C P B c.in_ok-missing.missing c.is_empty.result missing c.is_empty.ensures w.if-is_empty.false)
    ]
