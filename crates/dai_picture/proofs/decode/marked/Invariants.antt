use Rattle.std.proofs.Common.{ℕ, ◌≤◌}
use Rattle.dai_picture.specs.Pictures.{Marks}
use Rattle.dai_picture.proofs.decode.marked.Given as goal

abbrev pub invariant-loop-slot : goal.invariant-loop-slot
invariant-loop-slot l = (e : ℕ) → Marks l.model l.row e → l.slot ≤ e
