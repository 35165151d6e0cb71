use Rattle.std.proofs.Common.{ℕ, ◌≤◌}
use Rattle.dai_picture.specs.Pictures.{Counts}
use Rattle.dai_picture.proofs.decode.count.Given as goal

abbrev pub invariant-loop-slot : goal.invariant-loop-slot
invariant-loop-slot l = (size : ℕ) → Counts l.model l.row size → l.slot ≤ size
