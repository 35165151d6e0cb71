use Rattle.std.proofs.Common.{◌≡◌, ℕ, ◌<◌, length, slice_index}
use Rattle.dai_picture.specs.Pictures.{rows_of, row_at, Marks}
use Rattle.dai_picture.proofs.decode.marks.Given as goal

abbrev pub invariant-loop-k : goal.invariant-loop-k
invariant-loop-k l = record {
  long : length l.es.items ≡ l.k;
  each : (j e : ℕ) → j < l.k → Marks l.model (row_at (rows_of l.rows) j) e → slice_index l.es.items j ≡ e;
}
