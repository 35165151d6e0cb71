-- the counts so far are those with one more
use Rattle.std.proofs.Common.{◌≡◌, ◌<◌, ℕ, get_or}
use Rattle.dai_order.specs.Variables.{with_one_more}
use Rattle.dai_order.proofs.variables.has_one_more.Given as goal

abbrev pub invariant-loop-place : goal.invariant-loop-place
invariant-loop-place l = (k : ℕ) → k < l.place → get_or l.larger k 0 ≡ get_or (with_one_more l.counts l.sort) k 0
