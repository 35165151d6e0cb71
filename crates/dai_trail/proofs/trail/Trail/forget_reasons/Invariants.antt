use Rattle.std.proofs.Common.{◌<◌, ◌≤◌, ℕ, get_or}
use Rattle.dai_trail.specs.declared.trail.TheConstants.{FLIPPED}
use Rattle.dai_trail.specs.Trail.{IsTrail, ForgetsReasons}
use Rattle.dai_trail.proofs.trail.Trail.forget_reasons.Given as goal

abbrev pub invariant-loop-place : goal.invariant-loop-place
invariant-loop-place l = record {
  trail : IsTrail l.self;
  forgets : ForgetsReasons l.initial.self l.self;
  none : (i : ℕ) → i < l.place → FLIPPED ≤ get_or l.self.reasons.items i 0;
}
