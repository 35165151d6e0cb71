use Rattle.std.proofs.Common.{map, take}
use Rattle.dai_circuit.specs.Circuits.{Extends, IsBitFor, bit_value}
use Rattle.dai_ground.specs.Findings.{agreement_of}
use Rattle.dai_ground.proofs.formulas.agreement.Given as goal

abbrev pub invariant-loop-part : goal.invariant-loop-part
invariant-loop-part l = record {
  extends : Extends l.initial.circuit l.circuit;
  even : IsBitFor l.circuit (λ bits. agreement_of (map (bit_value bits) (take l.part-index l.parts))) l.even;
}
