use Rattle.std.proofs.Common.{◌≡◌, map, take}
use Rattle.dai_circuit.specs.Circuits.{negation_of}
use Rattle.dai_circuit.proofs.parts.negations.Given as goal

abbrev pub invariant-loop-part : goal.invariant-loop-part
invariant-loop-part l = l.bits.items ≡ map negation_of (take l.part-index l.parts)
