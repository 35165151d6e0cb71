use Rattle.std.proofs.Common.{◌≡◌, map, take}
use Rattle.dai_logic.specs.declared.protocol.SortInfo.{SortInfo}
use Rattle.dai_top.specs.Bounds.{bound_of}
use Rattle.dai_top.proofs.bounds.bound_all.Given as goal

-- the bounds so far
abbrev pub invariant-loop-sort : goal.invariant-loop-sort
invariant-loop-sort l = l.bounds.items ≡ map (λ (s : SortInfo). bound_of l.given s.name) (take l.sort-index l.sorts)
