use Rattle.std.proofs.Common.{◌≡◌, ◌<◌, ◌≤◌, ℕ, List, length, sym, ap, ◌∙◌, subst, arith}
use Rattle.std.specs.List.{All}
use Rattle.dai_order.specs.Variables.{counts_at, with_one_more}
use Rattle.dai_order.proofs.Larger.{counts_is, none_more}
use Rattle.dai_order.proofs.parts.smaller_shape.Goals as goal

pub has_one_more-requires-clause-few : goal.has_one_more-requires-clause-few
has_one_more-requires-clause-few c =
    let below : c.loop-smaller.smaller < length c.args.space.now.shapes.items = let a = c.loop-smaller-test.true in let b = c.len-smaller-end.ensures in omega (arith, a, b) in
    let fewer = c.deref.ensures.value ∙ counts_is c.args.space.now c.loop-smaller.smaller c.index-in-loop-smaller.result.now below c.index-in-loop-smaller.ensures in
    subst (λ (ns : List ℕ). All (λ n. n ≤ 4) ns) (sym fewer) (c.requires.few.few c.loop-smaller.smaller below)

pub has_one_more-requires-clause-inside : goal.has_one_more-requires-clause-inside
has_one_more-requires-clause-inside c =
    let below : c.loop-smaller.smaller < length c.args.space.now.shapes.items = let a = c.loop-smaller-test.true in let b = c.len-smaller-end.ensures in omega (arith, a, b) in
    let fewer = ap length (c.deref.ensures.value ∙ counts_is c.args.space.now c.loop-smaller.smaller c.index-in-loop-smaller.result.now below c.index-in-loop-smaller.ensures) in
    let each = c.requires.few.each c.loop-smaller.smaller below in
    let known = c.requires.known in
    omega (arith, fewer, each, known)

pub loop-smaller-preserved : goal.loop-smaller-preserved
loop-smaller-preserved c = λ k order.
    let below : c.loop-smaller.smaller < length c.args.space.now.shapes.items = let a = c.loop-smaller-test.true in let b = c.len-smaller-end.ensures in omega (arith, a, b) in
    let fewer = c.deref.ensures.value ∙ counts_is c.args.space.now c.loop-smaller.smaller c.index-in-loop-smaller.result.now below c.index-in-loop-smaller.ensures in
    let counts = c.deref-in-loop-smaller.ensures.value ∙ counts_is c.args.space.now c.args.shape c.index.result.now c.requires.inside c.index.ensures in
    none_more (λ n. counts_at c.args.space.now c.args.shape ≡ with_one_more (counts_at c.args.space.now n) c.args.sort) c.loop-smaller.smaller k order
    (λ before. c.loop-smaller.invariant k before)
    (λ e. c.has_one_more.ensures.exact c.if-has_one_more.false (counts ∙ (e ∙ ap (λ (ns : List ℕ). with_one_more ns c.args.sort) (sym fewer))))
