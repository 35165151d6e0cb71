use Rattle.std.proofs.Common.{◌≡◌, Bool, true, List, take}
use Rattle.dai_trail.specs.Formula.{AreMetBy, value_at}
use Rattle.dai_circuit.specs.Circuits.{Adds, all_true}
use Rattle.dai_circuit.proofs.circuit.Circuit.imply_each.Given as goal

abbrev pub invariant-loop-lit : goal.invariant-loop-lit
invariant-loop-lit l = record {
  adds : Adds l.initial.self l.self (λ bits. value_at bits l.var ≡ all_true l.lits bits);
  implied : (bits : List Bool) → AreMetBy l.self bits → value_at bits l.var ≡ true → all_true (take l.lit-index l.lits) bits ≡ true;
}
