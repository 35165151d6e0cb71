-- the types before, and the type once for each variable so far
use Rattle.std.proofs.Common.{◌≡◌, ◌++◌, map}
use Rattle.dai_model.specs.Clause.{numbers_below}
use Rattle.dai_template.proofs.formulas.add_type.Given as goal

abbrev pub invariant-loop-variable : goal.invariant-loop-variable
invariant-loop-variable l = l.sorts.items ≡ l.initial.sorts.items ++ map (λ _. l.sort) (numbers_below l._variable)
