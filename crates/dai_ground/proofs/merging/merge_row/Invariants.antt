use Rattle.std.proofs.Common.{take}
use Rattle.dai_circuit.specs.Circuits.{Extends}
use Rattle.dai_ground.specs.Choosing.{IsChosenRow}
use Rattle.dai_ground.proofs.merging.merge_row.Given as goal

abbrev pub invariant-loop-place : goal.invariant-loop-place
invariant-loop-place l = record { extends : Extends l.initial.circuit l.circuit; row : IsChosenRow l.circuit l.condition (take l.place l.first) (take l.place l.second) l.row.items }
