-- the types so far, and then those of the rest
use Rattle.std.proofs.Common.{◌≡◌, ◌++◌, drop}
use Rattle.dai_template.specs.ClauseFormulas.{types_from}
use Rattle.dai_template.proofs.formulas.types.Given as goal

abbrev pub invariant-loop-sort : goal.invariant-loop-sort
invariant-loop-sort l = l.sorts.items ++ types_from l.sort (drop l.sort l.counts) ≡ types_from 0 l.counts
