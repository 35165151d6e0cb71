use Rattle.std.proofs.Common.{◌+◌, ◌*◌, drop, ap, ◌∙◌}
use Rattle.dai_logic.specs.Counts.{tuple_count}
use Rattle.dai_picture.proofs.Declared.{count_more}
use Rattle.dai_picture.proofs.lengths.count_tuples.Goals as goal

pub loop-sort-preserved : goal.loop-sort-preserved
loop-sort-preserved c =
    ap (λ n. n * tuple_count c.args.slots.now (drop (c.loop-sort.sort-index + 1) c.args.sorts.now)) c.in_ok-count.ensures.1
    ∙ count_more c.args.slots.now c.args.sorts.now c.loop-sort.sort-index c.loop-sort.count (tuple_count c.args.slots.now c.args.sorts.now) c.loop-sort-test.true c.loop-sort.invariant
