use Rattle.std.proofs.Common.{◌≡◌, ◌<◌, ◌⊎◌, ℕ, IsTrue, get_or}
use Rattle.dai_trail.specs.Trail.{IsFalseIn}
use Rattle.dai_trail.proofs.propagation.are_others_false.Given as goal

abbrev pub invariant-loop-code : goal.invariant-loop-code
invariant-loop-code l = IsTrue l.fine → (k : ℕ) → k < l.code-index → (get_or l.codes k 0 ≡ l.apart) ⊎ IsFalseIn l.trail (get_or l.codes k 0)
