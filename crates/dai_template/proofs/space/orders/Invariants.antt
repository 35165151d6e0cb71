-- the types so far
use Rattle.std.proofs.Common.{◌≡◌, map, take}
use Rattle.dai_logic.specs.declared.protocol.SortInfo.{SortInfo}
use Rattle.dai_template.proofs.space.orders.Given as goal

abbrev pub invariant-loop-sort : goal.invariant-loop-sort
invariant-loop-sort l = l.orders.items ≡ map (λ (s : SortInfo). s.ordered) (take l.sort-index l.sorts)
