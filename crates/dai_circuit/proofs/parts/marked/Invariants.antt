use Rattle.std.proofs.Common.{◌≡◌, map, take}
use Rattle.dai_circuit.specs.Circuits.{is_marked}
use Rattle.dai_circuit.proofs.parts.marked.Given as goal

abbrev pub invariant-loop-part : goal.invariant-loop-part
invariant-loop-part l = l.flags.items ≡ map (is_marked l.marks) (take l.part-index l.parts)
