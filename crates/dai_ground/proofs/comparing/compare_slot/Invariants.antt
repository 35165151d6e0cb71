use Rattle.std.proofs.Common.{◌≡◌, take}
use Rattle.dai_ground.proofs.Comparisons.{compared}
use Rattle.dai_ground.proofs.comparing.compare_slot.Given as goal

abbrev pub invariant-loop-candidate : goal.invariant-loop-candidate
invariant-loop-candidate l = record { circuit : l.circuit ≡ l.initial.circuit; parts : l.parts.items ≡ compared l.order l.left (take l.candidate-index l.right) }
