use Rattle.std.proofs.Common.{◌≡◌, false, take}
use Rattle.std.specs.List.{list_any}
use Rattle.dai_circuit.specs.Circuits.{is_known}
use Rattle.dai_circuit.proofs.parts.has_known.Given as goal

abbrev pub invariant-loop-part : goal.invariant-loop-part
invariant-loop-part l = list_any (is_known l.value) (take l.part-index l.parts) ≡ false
