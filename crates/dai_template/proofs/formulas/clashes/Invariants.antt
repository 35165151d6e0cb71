-- the clashes so far, and then those of the rest
use Rattle.std.proofs.Common.{◌≡◌, ◌+◌, ◌++◌, drop}
use Rattle.std.specs.Prelude.{sum}
use Rattle.dai_template.specs.ClauseFormulas.{clashes, trees_of}
use Rattle.dai_template.proofs.formulas.clashes.Given as goal

abbrev pub invariant-loop-sort : goal.invariant-loop-sort
invariant-loop-sort l = record {
  whole : trees_of l.parts.items ++ clashes (drop l.sort l.ordered) l.first (drop l.sort l.counts) ≡ clashes l.ordered 0 l.counts;
  numbers : l.first + sum (drop l.sort l.counts) ≡ sum l.counts;
}
