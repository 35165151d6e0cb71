use Rattle.std.proofs.Common.{◌*◌, ◌+◌, arith}
use Rattle.dai_model.proofs.Folds.{power_more, power_below}
use Rattle.dai_template.proofs.counting.tuples.Goals as goal

pub overflow_mul-total : goal.overflow_mul-total
overflow_mul-total c =
    let here = c.count_at-total.ensures.fits in
    let more = power_more 256 c.loop-sort.sort-index c.loop-sort.total c.count_at-total.result c.loop-sort.invariant.fits (omega (arith, here)) in
    let index = c.loop-sort-test.true in
    let few = c.requires.few in
    let below = power_below 256 (c.loop-sort.sort-index + 1) 5 (c.loop-sort.total * c.count_at-total.result) (omega arith) (omega (arith, index, few)) more in
    omega (arith, below)

pub returns-clause-fits : goal.returns-clause-fits
returns-clause-fits c =
    let few = c.requires.few in
    let inside = c.loop-sort.auto in
    let below = power_below 256 c.loop-sort.sort-index 5 c.loop-sort.total (omega arith) (omega (arith, few, inside)) c.loop-sort.invariant.fits in
    omega (arith, below)
