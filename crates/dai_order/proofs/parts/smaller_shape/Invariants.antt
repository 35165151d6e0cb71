-- none of the shapes so far has one less
use Rattle.std.proofs.Common.{◌≢◌, ◌<◌, ℕ}
use Rattle.dai_order.specs.Variables.{counts_at, with_one_more}
use Rattle.dai_order.proofs.parts.smaller_shape.Given as goal

abbrev pub invariant-loop-smaller : goal.invariant-loop-smaller
invariant-loop-smaller l = (k : ℕ) → k < l.smaller → counts_at l.space l.shape ≢ with_one_more (counts_at l.space k) l.sort
