use Rattle.std.proofs.Common.{ℕ, ◌<◌}
use Rattle.dai_picture.specs.Pictures.{rows_of, row_at}
use Rattle.dai_picture.specs.Rules.{Constrains, IsUsedFront}
use Rattle.dai_picture.proofs.rules.order_each.Given as goal

abbrev pub invariant-loop-k : goal.invariant-loop-k
invariant-loop-k l = Constrains l.initial.circuit l.circuit (λ bits. (j : ℕ) → j < l.k → IsUsedFront (row_at (rows_of l.rows) j) bits)
