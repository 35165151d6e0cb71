use Rattle.std.proofs.Common.{take}
use Rattle.dai_circuit.specs.Circuits.{AreBitsBelow}
use Rattle.dai_circuit.proofs.tests.are_below.Given as goal

abbrev pub invariant-loop-part : goal.invariant-loop-part
invariant-loop-part l = AreBitsBelow l.count (take l.part-index l.parts)
