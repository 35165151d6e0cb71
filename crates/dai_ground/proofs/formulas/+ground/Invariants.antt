use Rattle.std.proofs.Common.{◌≡◌, set}
use Rattle.dai_circuit.specs.Circuits.{Extends}
use Rattle.dai_logic.specs.Protocols.{protocol_of}
use Rattle.dai_logic.specs.Trees.{formula_of}
use Rattle.dai_ground.specs.Findings.{HaveValues}
use Rattle.dai_ground.specs.Grounding.{AreSlotValues}
use Rattle.dai_ground.proofs.FormulaBits.{AreFirstValues}
use Rattle.dai_ground.proofs.formulas.+ground.Given as goal

abbrev pub invariant-ground_each-loop-formula : goal.invariant-ground_each-loop-formula
invariant-ground_each-loop-formula l = record {
  extends : Extends l.initial.circuit l.circuit;
  same : l.binding ≡ l.initial.binding;
  parts : HaveValues (AreFirstValues (protocol_of l.scene.protocol.now) l.scene.frame.now l.scene.picture.now l.initial.binding l.formulas l.formula-index) l.circuit l.bits.items;
}

abbrev pub invariant-ground_slots-loop-slot : goal.invariant-ground_slots-loop-slot
invariant-ground_slots-loop-slot l = record {
  extends : Extends l.initial.circuit l.circuit;
  back : set l.binding l.var l.before ≡ l.initial.binding;
  parts : HaveValues (AreSlotValues (protocol_of l.scene.protocol.now) l.scene.frame.now l.scene.picture.now l.initial.binding l.var l.sort (formula_of l.body) l.neutral l.slot) l.circuit l.bits.items;
}
