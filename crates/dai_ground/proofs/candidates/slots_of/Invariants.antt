use Rattle.std.proofs.Common.{◌≡◌, take}
use Rattle.dai_ground.specs.Rows.{numbered}
use Rattle.dai_ground.proofs.candidates.slots_of.Given as goal

abbrev pub invariant-loop-slot : goal.invariant-loop-slot
invariant-loop-slot l = l.candidates.items ≡ numbered 0 (take l.slot l.row)
