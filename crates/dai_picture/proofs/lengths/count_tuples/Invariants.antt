use Rattle.std.proofs.Common.{◌≡◌, ◌*◌, drop}
use Rattle.dai_logic.specs.Counts.{tuple_count}
use Rattle.dai_picture.proofs.lengths.count_tuples.Given as goal

-- the rest completes the product
abbrev pub invariant-loop-sort : goal.invariant-loop-sort
invariant-loop-sort l = l.count * tuple_count l.slots (drop l.sort-index l.sorts) ≡ tuple_count l.slots l.sorts
