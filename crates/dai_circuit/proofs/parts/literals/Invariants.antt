use Rattle.std.proofs.Common.{◌≡◌, take}
use Rattle.dai_circuit.specs.Circuits.{literals_of}
use Rattle.dai_circuit.proofs.parts.literals.Given as goal

abbrev pub invariant-loop-part : goal.invariant-loop-part
invariant-loop-part l = l.lits.items ≡ literals_of (take l.part-index l.parts)
