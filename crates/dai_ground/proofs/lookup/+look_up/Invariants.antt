use Rattle.std.proofs.Common.{◌+◌, ◌-◌, length, drop, take}
use Rattle.dai_circuit.specs.Circuits.{Extends}
use Rattle.dai_ground.specs.Atoms.{columns_of}
use Rattle.dai_ground.specs.Findings.{HaveValues}
use Rattle.dai_ground.proofs.Lookups.{AreLookedUp}
use Rattle.dai_ground.proofs.lookup.+look_up.Given as goal

abbrev pub decreases-look_up : goal.decreases-look_up
decreases-look_up l = length l.lookup.now.columns.now - l.number

abbrev pub invariant-loop-candidate : goal.invariant-loop-candidate
invariant-loop-candidate l = record {
  extends : Extends l.initial.circuit l.circuit;
  parts : HaveValues (AreLookedUp l.lookup.slots.now (drop (l.number + 1) l.lookup.sorts.now) l.lookup.table.now (take l.candidate-index l.column) (drop (l.number + 1) (columns_of l.lookup.columns.now)) l.first l.size) l.circuit l.parts.items;
}
