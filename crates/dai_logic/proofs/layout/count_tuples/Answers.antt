use Rattle.std.proofs.Common.{◌+◌, ◌*◌, get_or, drop, sym, ap, ◌∙◌, arith}
use Rattle.dai_logic.specs.Counts.{tuple_count}
use Rattle.dai_logic.proofs.Strides.{numbered_at, product_more, product_bound, product_all}
use Rattle.dai_logic.proofs.layout.count_tuples.Goals as goal

pub bounds-sizes-sort : goal.bounds-sizes-sort
bounds-sizes-sort c =
    (numbered_at c.args.sizes.now c.args.sorts.now c.loop-sort.sort-index c.requires c.loop-sort-test.true).known

pub overflow_mul-count : goal.overflow_mul-count
overflow_mul-count c =
    record { fits = let bound = product_bound (c.loop-sort.count * (get_or c.args.sizes.now (get_or c.args.sorts.now c.loop-sort.sort-index 0) 0)) (tuple_count c.args.sizes.now (drop (c.loop-sort.sort-index + 1) c.args.sorts.now)) (tuple_count c.args.sizes.now c.args.sorts.now) (numbered_at c.args.sizes.now c.args.sorts.now c.loop-sort.sort-index c.requires c.loop-sort-test.true).behind (product_more c.loop-sort.count (get_or c.args.sizes.now (get_or c.args.sorts.now c.loop-sort.sort-index 0) 0) (tuple_count c.args.sizes.now (drop (c.loop-sort.sort-index + 1) c.args.sorts.now)) (tuple_count c.args.sizes.now c.args.sorts.now) (ap (λ n. c.loop-sort.count * n) (sym (numbered_at c.args.sizes.now c.args.sorts.now c.loop-sort.sort-index c.requires c.loop-sort-test.true).next) ∙ c.loop-sort.invariant)) in let few = c.requires.few in omega arith }

pub loop-sort-preserved : goal.loop-sort-preserved
loop-sort-preserved c =
    (product_more c.loop-sort.count (get_or c.args.sizes.now (get_or c.args.sorts.now c.loop-sort.sort-index 0) 0) (tuple_count c.args.sizes.now (drop (c.loop-sort.sort-index + 1) c.args.sorts.now)) (tuple_count c.args.sizes.now c.args.sorts.now) (ap (λ n. c.loop-sort.count * n) (sym (numbered_at c.args.sizes.now c.args.sorts.now c.loop-sort.sort-index c.requires c.loop-sort-test.true).next) ∙ c.loop-sort.invariant))

pub returns : goal.returns
returns c =
    product_all c.args.sizes.now c.args.sorts.now c.loop-sort.sort-index c.loop-sort.count (tuple_count c.args.sizes.now c.args.sorts.now) c.loop-sort-test.false c.loop-sort.invariant
