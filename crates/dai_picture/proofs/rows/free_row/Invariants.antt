use Rattle.dai_picture.specs.Rows.{IsFreeRow}
use Rattle.dai_picture.proofs.rows.free_row.Given as goal

abbrev pub invariant-loop-slot : goal.invariant-loop-slot
invariant-loop-slot l = IsFreeRow l.initial.circuit l.circuit l.known l.slot l.row.items
