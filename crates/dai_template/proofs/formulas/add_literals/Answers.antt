use Rattle.std.proofs.Common.{◌++◌, map, ◌∙◌, ap}
use Rattle.dai_model.specs.Clause.{literal_among}
use Rattle.dai_template.specs.Atoms.{atom_of}
use Rattle.dai_template.specs.ClauseFormulas.{literal_formula, trees_of}
use Rattle.dai_template.proofs.Written.{mapped_all}
use Rattle.dai_template.proofs.formulas.add_literals.Goals as goal

pub returns : goal.returns
returns c =
    c.loop-literal.invariant
    ∙ ap (λ fs. trees_of c.args.parts.now.items ++ fs) (mapped_all (literal_formula c.args.shape.now.counts.items) (literal_among (map atom_of c.args.shape.now.atoms.items)) c.args.literals.now c.loop-literal.literal-index c.loop-literal-test.false)
