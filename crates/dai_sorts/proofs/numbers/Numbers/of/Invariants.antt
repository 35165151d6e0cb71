use Rattle.std.proofs.Common.{◌≡◌, ◌++◌, map, drop}
use Rattle.dai_syntax.specs.Trees.{declaration_of}
use Rattle.dai_sorts.specs.Counts.{counts_of, counts_in, counts_from, counts_at_each, no_counts}
use Rattle.dai_sorts.proofs.numbers.Numbers.of.Given as goal

-- with those of the declarations to come, these are the counts of all
abbrev pub invariant-loop-decl : goal.invariant-loop-decl
invariant-loop-decl l = record {
  each : map counts_of l.before.items ++ counts_at_each (counts_of l.all) (map declaration_of (drop l.decl-index l.decls)) ≡ counts_at_each no_counts (map declaration_of l.decls);
  whole : counts_from (counts_of l.all) (map declaration_of (drop l.decl-index l.decls)) ≡ counts_in (map declaration_of l.decls);
}
