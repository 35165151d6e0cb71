-- the lists so far with each number at their end
use Rattle.std.proofs.Common.{◌≡◌, ◌++◌, [], take}
use Rattle.std.specs.List.{flat_map}
use Rattle.dai_model.proofs.Tuples.{ended}
use Rattle.dai_template.specs.Atoms.{lists_of}
use Rattle.dai_template.proofs.tuples.with_ends.Given as goal

abbrev pub invariant-loop-list : goal.invariant-loop-list
invariant-loop-list l = lists_of l.longer.items ≡ [] ++ flat_map (ended l.limit) (take l.list-index (lists_of l.lists))
