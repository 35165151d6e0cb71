use Rattle.std.proofs.Common.{◌≡◌, ◌==◌, map, take}
use Rattle.dai_sat.proofs.model.bits_of.Given as goal

abbrev pub invariant-loop-value : goal.invariant-loop-value
invariant-loop-value l = l.bits.items ≡ map (λ x. x == 1) (take l.value-index l.trail.values.items)
