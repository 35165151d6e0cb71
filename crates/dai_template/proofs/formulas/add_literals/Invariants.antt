-- the formulas before, and those of the literals so far
use Rattle.std.proofs.Common.{◌≡◌, ◌++◌, map, take}
use Rattle.dai_model.specs.Clause.{literal_among}
use Rattle.dai_template.specs.Atoms.{atom_of}
use Rattle.dai_template.specs.ClauseFormulas.{literal_formula, trees_of}
use Rattle.dai_template.proofs.formulas.add_literals.Given as goal

abbrev pub invariant-loop-literal : goal.invariant-loop-literal
invariant-loop-literal l = trees_of l.parts.items ≡ trees_of l.initial.parts.items ++ map (λ n. literal_formula l.shape.counts.items (literal_among (map atom_of l.shape.atoms.items) n)) (take l.literal-index l.literals)
