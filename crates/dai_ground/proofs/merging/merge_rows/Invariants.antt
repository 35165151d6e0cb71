use Rattle.std.proofs.Common.{take}
use Rattle.dai_circuit.specs.Circuits.{Extends}
use Rattle.dai_picture.specs.Pictures.{rows_of}
use Rattle.dai_ground.specs.Choosing.{AreChosenRows, lists_of}
use Rattle.dai_ground.proofs.merging.merge_rows.Given as goal

abbrev pub invariant-loop-number : goal.invariant-loop-number
invariant-loop-number l = record { extends : Extends l.initial.circuit l.circuit; rows : AreChosenRows l.circuit l.condition (take l.number (lists_of l.first)) (take l.number (lists_of l.second)) (rows_of l.rows) }
