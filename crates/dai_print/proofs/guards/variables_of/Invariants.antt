-- the variables with smaller numbers
use Rattle.std.proofs.Common.{◌≡◌, ◌++◌, [], map}
use Rattle.dai_model.specs.Clause.{numbers_below}
use Rattle.dai_template.specs.Atoms.{variable_of}
use Rattle.dai_print.proofs.guards.variables_of.Given as goal

abbrev pub invariant-loop-number : goal.invariant-loop-number
invariant-loop-number l = map variable_of l.vars.items ≡ [] ++ map (λ n. variable_of (l.sort, n)) (numbers_below l.number)
