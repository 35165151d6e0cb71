use Rattle.std.proofs.Common.{ℕ, ◌<◌, slice_index}
use Rattle.dai_picture.specs.Pictures.{rows_of, row_at}
use Rattle.dai_picture.specs.Rules.{Constrains, MarksUsed}
use Rattle.dai_picture.proofs.rules.mark_each.Given as goal

abbrev pub invariant-loop-k : goal.invariant-loop-k
invariant-loop-k l = Constrains l.initial.circuit l.circuit (λ bits. (j : ℕ) → j < l.k → MarksUsed (row_at (rows_of l.used) (slice_index l.sorts j)) (row_at (rows_of l.rows) j) bits)
