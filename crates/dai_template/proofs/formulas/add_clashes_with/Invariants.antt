-- the formulas before, and the clashes with the variables so far
use Rattle.std.proofs.Common.{◌≡◌, ◌+◌, ◌++◌, map}
use Rattle.dai_model.specs.Clause.{numbers_below}
use Rattle.dai_template.specs.ClauseFormulas.{clash, trees_of}
use Rattle.dai_template.proofs.formulas.add_clashes_with.Given as goal

abbrev pub invariant-loop-earlier : goal.invariant-loop-earlier
invariant-loop-earlier l = trees_of l.parts.items ≡ trees_of l.initial.parts.items ++ map (λ i. clash l.ordered (l.first + i) (l.first + l.second)) (numbers_below l.earlier)
