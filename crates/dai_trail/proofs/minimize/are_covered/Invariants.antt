use Rattle.std.proofs.Common.{◌≡◌, ◌<◌, ◌⊎◌, ℕ, get_or}
use Rattle.dai_trail.specs.Marks.{IsCoveredBeside}
use Rattle.dai_trail.proofs.minimize.are_covered.Given as goal

abbrev pub invariant-loop-code : goal.invariant-loop-code
invariant-loop-code l = (k : ℕ) → k < l.code-index → (get_or l.codes k 0 ≡ l.apart) ⊎ IsCoveredBeside l.trail l.marks l.apart (get_or l.codes k 0)
