use Rattle.std.proofs.Common.{◌≡◌, true, length, take}
use Rattle.std.specs.List.{All}
use Rattle.dai_trail.specs.Formula.{value_at}
use Rattle.dai_circuit.proofs.parts.variables_of.Given as goal

abbrev pub invariant-loop-lit : goal.invariant-loop-lit
invariant-loop-lit l = (room : length l.marks.items ≡ l.vars) × All (λ lit. value_at l.marks.items lit.var ≡ true) (take l.lit-index l.lits)
