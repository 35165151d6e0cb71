-- the formulas before, and the clashes of the variables so far
use Rattle.std.proofs.Common.{◌≡◌, ◌++◌}
use Rattle.std.specs.List.{flat_map}
use Rattle.dai_model.specs.Clause.{numbers_below}
use Rattle.dai_template.specs.ClauseFormulas.{clashes_with, trees_of}
use Rattle.dai_template.proofs.formulas.add_clashes.Given as goal

abbrev pub invariant-loop-second : goal.invariant-loop-second
invariant-loop-second l = trees_of l.parts.items ≡ trees_of l.initial.parts.items ++ flat_map (clashes_with l.ordered l.first) (numbers_below l.second)
