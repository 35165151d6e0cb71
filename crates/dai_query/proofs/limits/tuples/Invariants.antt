-- the product so far with the rest is the whole, and within a power of 2^16
use Rattle.std.proofs.Common.{◌≡◌, ◌≤◌, ◌*◌, ◌^◌, ℕ, drop, map}
use Rattle.std.specs.Prelude.{max, slice_index}
use Rattle.dai_model.specs.Limits.{product}
use Rattle.dai_query.proofs.limits.tuples.Given as goal

abbrev pub invariant-loop-sort : goal.invariant-loop-sort
invariant-loop-sort l =
    let size_of = slice_index (map (λ (n : ℕ). max n l.size) l.bounds) in
    record {
      whole : l.total * product (map size_of (drop l.sort-index l.sorts)) ≡ product (map size_of l.sorts);
      fits : l.total ≤ 65536 ^ l.sort-index;
    }
