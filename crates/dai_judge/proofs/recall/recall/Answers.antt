use Rattle.std.proofs.Common.{sym, subst}
use Rattle.dai_logic.specs.Protocols.{protocol_of}
use Rattle.dai_template.specs.Spaces.{clause_of}
use Rattle.dai_weaken.specs.Judging.{IsTransition}
use Rattle.dai_judge.proofs.Copied.{breaks_copied}
use Rattle.dai_judge.proofs.recall.recall.Goals as goal

pub returns-then-branch : goal.returns-then-branch
returns-then-branch c = λ C I transitions premises.
    let q = c.args.question.now in
    let P = protocol_of q.protocol.now in
    let x = c.x-item.result in
    let transition = subst (IsTransition C P) (sym c.x-item.is) (transitions c.loop-x.x-index x c.loop-x-test.true) in
    breaks_copied C P q.block I (clause_of q.space.now q.goal.now) x c.in_ok-copied.field-0 c.in_ok-copied.ensures
    (c.in_ok-answers.ensures c.if-branch.true C I transition premises)
