-- the atoms before, and the equations of the variables so far
use Rattle.std.proofs.Common.{◌≡◌, ◌++◌, map}
use Rattle.dai_model.specs.Clause.{numbers_below, is_individual}
use Rattle.dai_model.proofs.Tuples.{variable_at}
use Rattle.dai_template.specs.Atoms.{atom_of}
use Rattle.dai_template.proofs.atoms.add_equations.Given as goal

abbrev pub invariant-loop-variable : goal.invariant-loop-variable
invariant-loop-variable l = map atom_of l.atoms.items ≡ map atom_of l.initial.atoms.items ++ map (λ n. is_individual (variable_at (l.individual.sort, n)) l.number) (numbers_below l.variable)
