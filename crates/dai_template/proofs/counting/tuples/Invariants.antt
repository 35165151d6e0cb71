-- the product so far with the rest is the whole, and within a power of 2^8
use Rattle.std.proofs.Common.{◌≡◌, ◌≤◌, ◌*◌, ◌^◌, drop, map}
use Rattle.std.specs.Prelude.{slice_index}
use Rattle.dai_model.specs.Limits.{product}
use Rattle.dai_template.proofs.counting.tuples.Given as goal

abbrev pub invariant-loop-sort : goal.invariant-loop-sort
invariant-loop-sort l = record {
  whole : l.total * product (map (slice_index l.counts) (drop l.sort-index l.sorts)) ≡ product (map (slice_index l.counts) l.sorts);
  fits : l.total ≤ 256 ^ l.sort-index;
}
