-- none of the shapes so far has one more
use Rattle.std.proofs.Common.{◌≢◌, ◌<◌, ℕ}
use Rattle.dai_order.specs.Variables.{counts_at, with_one_more}
use Rattle.dai_order.proofs.variables.larger_shape.Given as goal

abbrev pub invariant-loop-larger : goal.invariant-loop-larger
invariant-loop-larger l = (k : ℕ) → k < l.larger → counts_at l.space k ≢ with_one_more (counts_at l.space l.shape) l.sort
