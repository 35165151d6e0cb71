use Rattle.std.proofs.Common.{◌<◌, ◌≤◌, ℕ, get_or}
use Rattle.dai_trail.specs.Trail.{IsTrueIn}
use Rattle.dai_sat.proofs.assumptions.unmet_from.Given as goal

abbrev pub invariant-loop-number : goal.invariant-loop-number
invariant-loop-number l = (k : ℕ) → l.start ≤ k → k < l.number → IsTrueIn l.trail (get_or l.codes k 0)
