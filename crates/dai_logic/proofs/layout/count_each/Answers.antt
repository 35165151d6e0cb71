use Rattle.std.proofs.Common.{◌+◌, ◌++◌, get_or, drop, ap, ◌∙◌}
use Rattle.dai_logic.specs.Counts.{tuple_count}
use Rattle.dai_logic.specs.Strides.{counts_of}
use Rattle.dai_logic.proofs.Strides.{numbered_at, divided, counts_more, counts_all}
use Rattle.dai_logic.proofs.layout.count_each.Goals as goal

pub loop-sort-init : goal.loop-sort-init
loop-sort-init c =
    record { written = ap (λ xs. xs ++ counts_of c.args.sizes.now c.args.sorts.now) c.in_ok-counts.ensures.items; count = c.count_tuples-count.ensures }

pub bounds-sizes-sort : goal.bounds-sizes-sort
bounds-sizes-sort c =
    (numbered_at c.args.sizes.now c.args.sorts.now c.loop-sort.sort-index c.requires c.loop-sort-test.true).known

pub nonzero_div-count : goal.nonzero_div-count
nonzero_div-count c =
    (numbered_at c.args.sizes.now c.args.sorts.now c.loop-sort.sort-index c.requires c.loop-sort-test.true).some

pub loop-sort-preserved : goal.loop-sort-preserved
loop-sort-preserved c =
    record { written = ap (λ xs. xs ++ counts_of c.args.sizes.now (drop (c.loop-sort.sort-index + 1) c.args.sorts.now)) c.in_ok-push.ensures.items ∙ counts_more c.args.sizes.now c.args.sorts.now c.loop-sort.counts.items (counts_of c.args.sizes.now c.args.sorts.now) c.loop-sort.sort-index c.loop-sort.count c.loop-sort-test.true c.loop-sort.invariant.count c.loop-sort.invariant.written; count = divided (get_or c.args.sizes.now (get_or c.args.sorts.now c.loop-sort.sort-index 0) 0) (tuple_count c.args.sizes.now (drop (c.loop-sort.sort-index + 1) c.args.sorts.now)) c.loop-sort.count (numbered_at c.args.sizes.now c.args.sorts.now c.loop-sort.sort-index c.requires c.loop-sort-test.true).some (c.loop-sort.invariant.count ∙ (numbered_at c.args.sizes.now c.args.sorts.now c.loop-sort.sort-index c.requires c.loop-sort-test.true).next) }

pub returns : goal.returns
returns c =
    c.in_ok-push-2.ensures.items ∙ counts_all c.args.sizes.now c.args.sorts.now c.loop-sort.counts.items (counts_of c.args.sizes.now c.args.sorts.now) c.loop-sort.sort-index c.loop-sort.count c.loop-sort-test.false c.loop-sort.invariant.count c.loop-sort.invariant.written
