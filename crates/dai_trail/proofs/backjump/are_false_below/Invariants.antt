use Rattle.std.proofs.Common.{◌<◌, ◌/◌, ℕ, get_or}
use Rattle.dai_trail.specs.Trail.{IsFalseIn, place_of}
use Rattle.dai_trail.proofs.backjump.are_false_below.Given as goal

abbrev pub invariant-loop-code : goal.invariant-loop-code
invariant-loop-code l = record {
  lost : (k : ℕ) → k < l.code-index → IsFalseIn l.trail (get_or l.codes k 0);
  below : (k : ℕ) → k < l.code-index → place_of l.trail (get_or l.codes k 0 / 2) < l.place;
}
