use Rattle.std.proofs.Common.{◌≡◌, ℕ, ◌<◌, length, slice_index}
use Rattle.dai_picture.specs.Pictures.{rows_of, row_at, Counts}
use Rattle.dai_picture.proofs.decode.counts.Given as goal

abbrev pub invariant-loop-k : goal.invariant-loop-k
invariant-loop-k l = record {
  long : length l.sizes.items ≡ l.k;
  each : (j size : ℕ) → j < l.k → Counts l.model (row_at (rows_of l.rows) j) size → slice_index l.sizes.items j ≡ size;
}
