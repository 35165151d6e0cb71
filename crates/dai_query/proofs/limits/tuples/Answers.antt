use Rattle.std.proofs.Common.{◌*◌, ◌+◌, ℕ, map, get_or, arith}
use Rattle.std.specs.Prelude.{max, slice_index}
use Rattle.std.proofs.lemmas.List.{get_or_default}
use Rattle.dai_model.proofs.Folds.{product_step, product_end, power_more, power_below}
use Rattle.dai_query.proofs.limits.tuples.Goals as goal

pub loop-sort-init : goal.loop-sort-init
loop-sort-init c = record { whole = omega arith; fits = omega arith }

pub overflow_mul-total : goal.overflow_mul-total
overflow_mul-total c =
    let more = power_more 65536 c.loop-sort.sort-index c.loop-sort.total c.size_at-total.result c.loop-sort.invariant.fits (let here = c.size_at-total.ensures.fits in omega (arith, here)) in
    let index = c.loop-sort-test.true in
    let few = c.requires.few in
    let below = power_below 65536 (c.loop-sort.sort-index + 1) 5 (c.loop-sort.total * c.size_at-total.result) (omega arith) (omega (arith, index, few)) more in
    omega (arith, below)

pub loop-sort-preserved : goal.loop-sort-preserved
loop-sort-preserved c = record {
  whole = product_step (slice_index (map (λ (n : ℕ). max n c.args.size) c.args.bounds.now)) c.args.sorts.now c.loop-sort.sort-index (get_or c.args.sorts.now c.loop-sort.sort-index 0) c.loop-sort.total c.size_at-total.result _ c.loop-sort-test.true (get_or_default c.args.sorts.now c.loop-sort.sort-index 0 (get_or c.args.sorts.now c.loop-sort.sort-index 0) c.loop-sort-test.true) c.size_at-total.ensures.is c.loop-sort.invariant.whole;
  fits = power_more 65536 c.loop-sort.sort-index c.loop-sort.total c.size_at-total.result c.loop-sort.invariant.fits (let here = c.size_at-total.ensures.fits in omega (arith, here));
}

pub returns : goal.returns
returns c = record {
  count = product_end (slice_index (map (λ (n : ℕ). max n c.args.size) c.args.bounds.now)) c.args.sorts.now c.loop-sort.sort-index c.loop-sort.total _ c.loop-sort-test.false c.loop-sort.invariant.whole;
  fits =
      let few = c.requires.few in
      let inside = c.loop-sort.auto in
      let below = power_below 65536 c.loop-sort.sort-index 5 c.loop-sort.total (omega arith) (omega (arith, few, inside)) c.loop-sort.invariant.fits in
      omega (arith, below);
}
