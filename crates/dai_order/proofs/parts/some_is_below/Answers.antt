use Rattle.std.proofs.Common.{arith}
use Rattle.dai_order.proofs.Dropping.{none_below_more, none_stands}
use Rattle.dai_order.proofs.parts.some_is_below.Goals as goal

pub loop-member-preserved : goal.loop-member-preserved
loop-member-preserved c = λ P B h forms.
    none_below_more P B c.args.space.now c.args.members.now c.args.clause.now c.loop-member.member-index c.member-item.result forms c.loop-member-test.true c.member-item.is (c.loop-member.invariant P B h forms)
    (λ form sub. let yes = (c.subsumes.ensures P B form h).1 sub in let no = c.if-subsumes.false in let e : ⊥ = cc in e)

pub returns-clause-none : goal.returns-clause-none
returns-clause-none c = λ P B h forms _ s. none_stands P c.args.space.now c.args.members.now c.args.clause.now (λ k d below. c.loop-member.invariant P B h forms k d (let t = c.loop-member-test.false in omega (arith, t, below))) s
