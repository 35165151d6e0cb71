use Rattle.std.proofs.Common.{◌≡◌, ◌<◌, ℕ, true, false, length}
use Rattle.std.specs.Prelude.{slice_index_or}
use Rattle.dai_table.proofs.judging.all_met.Given as goal

abbrev pub invariant-loop-state : goal.invariant-loop-state
invariant-loop-state l = record {
  long : length l.met.items ≡ l._state;
  each : (k : ℕ) → k < l._state → slice_index_or l.met.items k false ≡ true;
}
