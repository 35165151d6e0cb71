use Rattle.std.proofs.Common.{◌≡◌, ℕ, List, sym, ap, ◌∙◌, arith}
use Rattle.dai_order.specs.Variables.{counts_at, with_one_more}
use Rattle.dai_order.proofs.Larger.{counts_is, none_more}
use Rattle.dai_order.proofs.variables.larger_shape.Goals as goal

pub overflow_cast-larger-end : goal.overflow_cast-larger-end
overflow_cast-larger-end c = let few = c.requires.few.few_shapes in let is = c.len-larger-end.ensures in omega (arith, few, is)

pub loop-larger-preserved : goal.loop-larger-preserved
loop-larger-preserved c = λ k below.
    let counts = c.deref.ensures.value ∙ counts_is c.args.space.now c.args.shape c.index.result.now c.requires.inside c.index.ensures in
    let larger = c.deref-in-loop-larger.ensures.value ∙ counts_is c.args.space.now c.loop-larger.larger c.index-in-loop-larger.result.now (let a = c.loop-larger-test.true in let b = c.len-larger-end.ensures in omega (arith, a, b)) c.index-in-loop-larger.ensures in
    none_more (λ n. counts_at c.args.space.now n ≡ with_one_more (counts_at c.args.space.now c.args.shape) c.args.sort) c.loop-larger.larger k below
    (λ before. c.loop-larger.invariant k before)
    (λ e. c.has_one_more.ensures.exact c.if-has_one_more.false (larger ∙ (e ∙ ap (λ (ns : List ℕ). with_one_more ns c.args.sort) (sym counts))))
