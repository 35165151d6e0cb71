use Rattle.std.proofs.Common.{take}
use Rattle.dai_circuit.specs.Circuits.{Extends}
use Rattle.dai_ground.specs.Findings.{HaveValues}
use Rattle.dai_ground.proofs.Comparisons.{AreCompared}
use Rattle.dai_ground.proofs.comparing.compare.Given as goal

abbrev pub invariant-loop-candidate : goal.invariant-loop-candidate
invariant-loop-candidate l = record { extends : Extends l.initial.circuit l.circuit; parts : HaveValues (AreCompared l.order (take l.candidate-index l.left) l.right) l.circuit l.parts.items }
