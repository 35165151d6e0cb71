use Rattle.std.proofs.Common.{take}
use Rattle.dai_picture.specs.Pictures.{rows_of}
use Rattle.dai_picture.specs.Rows.{AreFreeRows}
use Rattle.dai_picture.proofs.rows.free_rows.Given as goal

abbrev pub invariant-loop-many : goal.invariant-loop-many
invariant-loop-many l = AreFreeRows l.initial.circuit l.circuit l.known (take l.many-index l.lengths) (rows_of l.rows)
