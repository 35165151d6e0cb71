use Rattle.std.proofs.Common.{◌≡◌, ◌++◌, drop}
use Rattle.dai_logic.specs.Counts.{tuple_count}
use Rattle.dai_logic.specs.Strides.{counts_of}
use Rattle.dai_logic.proofs.layout.count_each.Given as goal

-- the numbers of the rest complete the list
abbrev pub invariant-loop-sort : goal.invariant-loop-sort
invariant-loop-sort l =
    record {
      written : l.counts.items ++ counts_of l.sizes (drop l.sort-index l.sorts) ≡ counts_of l.sizes l.sorts;
      count : l.count ≡ tuple_count l.sizes (drop l.sort-index l.sorts);
    }
