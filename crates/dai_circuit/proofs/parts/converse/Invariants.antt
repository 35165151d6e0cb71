use Rattle.std.proofs.Common.{◌≡◌, ◌∷◌, map, take}
use Rattle.dai_circuit.specs.Circuits.{opposite, variable}
use Rattle.dai_circuit.proofs.parts.converse.Given as goal

abbrev pub invariant-loop-lit : goal.invariant-loop-lit
invariant-loop-lit l = l.clause.items ≡ variable l.var ∷ map opposite (take l.lit-index l.lits)
