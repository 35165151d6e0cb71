use Rattle.std.proofs.Common.{◌≡◌, take}
use Rattle.dai_picture.specs.Pictures.{rows_of}
use Rattle.dai_ground.specs.Choosing.{lists_of}
use Rattle.dai_ground.proofs.merging.copy_rows.Given as goal

abbrev pub invariant-loop-number : goal.invariant-loop-number
invariant-loop-number l = rows_of l.copied ≡ take l.number (lists_of l.rows)
