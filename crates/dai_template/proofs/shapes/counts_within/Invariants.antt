-- the limits of the types so far
use Rattle.std.proofs.Common.{◌≡◌, ◌+◌, map, take}
use Rattle.dai_template.proofs.shapes.counts_within.Given as goal

abbrev pub invariant-loop-bound : goal.invariant-loop-bound
invariant-loop-bound l = l.limits.items ≡ map (λ b. b + 1) (take l.bound-index l.vars)
