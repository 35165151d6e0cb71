-- each variable so far may go to its image
use Rattle.std.proofs.Common.{◌<◌, ℕ, get_or}
use Rattle.dai_template.specs.Atoms.{variable_of}
use Rattle.dai_order.specs.Sides.{MayGo}
use Rattle.dai_order.proofs.subsumption.each_may_go.Given as goal

abbrev pub invariant-loop-place : goal.invariant-loop-place
invariant-loop-place l = (k : ℕ) → k < l.place → MayGo l.sort l.number l.to (variable_of (get_or l.vars k (0, 0))) (variable_of (get_or l.images k (0, 0)))
