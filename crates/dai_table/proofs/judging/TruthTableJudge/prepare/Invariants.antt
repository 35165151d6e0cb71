use Rattle.std.proofs.Common.{◌≡◌, ◌<◌, ◌↔◌, ℕ, true, false, length, []}
use Rattle.std.specs.Prelude.{slice_index_or}
use Rattle.dai_table.specs.Answers.{MeetEach}
use Rattle.dai_table.specs.Steps.{flags_in}
use Rattle.dai_table.proofs.judging.TruthTableJudge.prepare.Given as goal

-- it is known of each state so far whether it meets the clauses
abbrev pub invariant-loop-flags : goal.invariant-loop-flags
invariant-loop-flags l = record {
  long : length l.met.items ≡ l.flags-index;
  exact : (k : ℕ) → k < l.flags-index → (slice_index_or l.met.items k false ≡ true) ↔ MeetEach (slice_index_or (flags_in l.flags-items) k []) l.clauses;
}
