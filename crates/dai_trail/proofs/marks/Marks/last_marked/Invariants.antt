use Rattle.std.proofs.Common.{◌≤◌, ◌<◌, ◌/◌, ℕ}
use Rattle.dai_trail.specs.Trail.{code_at}
use Rattle.dai_trail.specs.Marks.{IsMarked}
use Rattle.dai_trail.proofs.marks.Marks.last_marked.Given as goal

abbrev pub invariant-loop-place : goal.invariant-loop-place
invariant-loop-place l = record {
  within : l.place ≤ l.end;
  none : (i : ℕ) → l.place ≤ i → i < l.end → IsMarked l.self (code_at l.trail i / 2) → ⊥;
}

abbrev pub decreases-loop-place : goal.decreases-loop-place
decreases-loop-place l = l.place
