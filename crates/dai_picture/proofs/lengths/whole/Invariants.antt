use Rattle.std.proofs.Common.{◌≡◌, take}
use Rattle.dai_picture.proofs.lengths.whole.Given as goal

abbrev pub invariant-loop-many : goal.invariant-loop-many
invariant-loop-many l = l.lengths.items ≡ take l.many-index l.slots
