use Rattle.std.proofs.Common.{◌≤◌, ◌<◌, ℕ}
use Rattle.dai_trail.specs.Trail.{IsDecision}
use Rattle.dai_trail.proofs.trail.Trail.last_decision.Given as goal

abbrev pub invariant-loop-place : goal.invariant-loop-place
invariant-loop-place l = record {
  within : l.place ≤ l.self.len;
  none : (i : ℕ) → l.place ≤ i → i < l.self.len → IsDecision l.self i → ⊥;
}

abbrev pub decreases-loop-place : goal.decreases-loop-place
decreases-loop-place l = l.place
