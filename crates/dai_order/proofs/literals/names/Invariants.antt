-- none of the literals so far is over the atom
use Rattle.std.proofs.Common.{◌≢◌, ◌<◌, ◌/◌, ℕ, get_or}
use Rattle.dai_order.proofs.literals.names.Given as goal

abbrev pub invariant-loop-literal : goal.invariant-loop-literal
invariant-loop-literal l = (k : ℕ) → k < l.literal-index → get_or l.literals k 0 / 2 ≢ l.atom
