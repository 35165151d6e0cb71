use Rattle.std.proofs.Common.{◌≡◌, true, false, sym, ◌∙◌, ap}
use Rattle.dai_top.specs.Bounds.{same_name}
use Rattle.dai_top.proofs.Sorts.{bound_here, bound_passed, bound_none}
use Rattle.dai_top.proofs.bounds.bound_of.Goals as goal

pub returns-then-eq : goal.returns-then-eq
returns-then-eq c =
    let same : same_name c.args.name.now c.bound-item.result.0 ≡ true = ap (same_name c.args.name.now) (sym c.as_bytes.ensures) ∙ (sym c.eq.ensures ∙ c.if-eq.true) in
    sym (c.loop-bound.invariant ∙ bound_here c.args.given.now c.loop-bound.bound-index c.bound-item.result c.args.name.now c.loop-bound-test.true c.bound-item.is same)

pub loop-bound-preserved : goal.loop-bound-preserved
loop-bound-preserved c =
    let other : same_name c.args.name.now c.bound-item.result.0 ≡ false = ap (same_name c.args.name.now) (sym c.as_bytes.ensures) ∙ (sym c.eq.ensures ∙ c.if-eq.false) in
    c.loop-bound.invariant ∙ bound_passed c.args.given.now c.loop-bound.bound-index c.bound-item.result c.args.name.now c.loop-bound-test.true c.bound-item.is other

pub returns : goal.returns
returns c = sym (c.loop-bound.invariant ∙ bound_none c.args.given.now c.loop-bound.bound-index c.args.name.now c.loop-bound-test.false)
