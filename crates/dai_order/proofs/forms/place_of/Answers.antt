use Rattle.std.proofs.Common.{◌<◌, ◌+◌, ◌-◌, ◌/◌, sym, ◌∙◌, arith}
use Rattle.dai_order.proofs.Entering.{less_is, less_not, below_middle, above_middle}
use Rattle.dai_order.proofs.forms.place_of.Goals as goal

pub loop-low-preserved-then-is_lt : goal.loop-low-preserved-then-is_lt
loop-low-preserved-then-is_lt c =
    let a = c.loop-low-test.true in
    let inside = c.loop-low.invariant.inside in
    let middle = c.loop-low.low + (c.loop-low.high - c.loop-low.low) / 2 in
    let low : middle < c.loop-low.high = omega (arith, a) in
    record {
      ordered = omega (arith, a);
      inside = inside;
      before = λ P B h forms k d below. below_middle c.args.space.now c.args.list.now c.args.clause.now c.index-list-middle.result d middle k forms.rising (omega (arith, low, inside)) c.index-list-middle.is (sym (c.compare.ensures P B h.space_of) ∙ less_is c.compare.result (sym c.is_lt.ensures ∙ c.if-is_lt.true)) below;
      after = c.loop-low.invariant.after;
    }

pub loop-low-preserved : goal.loop-low-preserved
loop-low-preserved c =
    let a = c.loop-low-test.true in
    let inside = c.loop-low.invariant.inside in
    let middle = c.loop-low.low + (c.loop-low.high - c.loop-low.low) / 2 in
    let low : middle < c.loop-low.high = omega (arith, a) in
    record {
      ordered = omega arith;
      inside = omega (arith, low, inside);
      before = c.loop-low.invariant.before;
      after = λ P B h forms k d from below. above_middle c.args.space.now c.args.list.now c.args.clause.now c.index-list-middle.result d middle k forms.rising (omega (arith, low, inside)) c.index-list-middle.is (λ less. less_not c.compare.result (sym c.is_lt.ensures ∙ c.if-is_lt.false) (c.compare.ensures P B h.space_of ∙ less)) from below;
    }
