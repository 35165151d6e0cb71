use Rattle.std.proofs.Common.{◌≡◌, take}
use Rattle.dai_picture.specs.Pictures.{slots_of_each}
use Rattle.dai_picture.proofs.lengths.each.Given as goal

abbrev pub invariant-loop-sort : goal.invariant-loop-sort
invariant-loop-sort l = l.lengths.items ≡ slots_of_each l.slots (take l.sort-index l.sorts)
