use Rattle.std.proofs.Common.{◌≡◌, length, map}
use Rattle.dai_circuit.specs.Circuits.{Extends}
use Rattle.dai_logic.specs.Protocols.{protocol_of}
use Rattle.dai_logic.specs.Trees.{term_of, formula_of}
use Rattle.dai_ground.specs.Updating.{IsUpdatedTable}
use Rattle.dai_ground.proofs.updates.new_table.Given as goal

abbrev pub invariant-loop-place : goal.invariant-loop-place
invariant-loop-place l = record {
  extends : Extends l.initial.circuit l.circuit;
  long : length l.table.items ≡ l.place;
  updated : IsUpdatedTable (protocol_of l.scene.protocol.now) l.scene.frame.now l.scene.picture.now (map term_of l.update.target.now) l.update.sorts.now (formula_of l.update.body.now) l.old l.circuit l.table.items;
}
