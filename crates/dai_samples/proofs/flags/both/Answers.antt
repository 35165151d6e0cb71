use Rattle.std.proofs.Common.{ap, ◌∙◌}
use Rattle.dai_model.specs.Formula.{conjunction, no_formulas, with_formula}
use Rattle.dai_logic.specs.Trees.{formulas_of}
use Rattle.dai_logic.proofs.Trees.{formula_of-All}
use Rattle.dai_samples.proofs.flags.both.Goals as goal

pub returns : goal.returns
returns c = formula_of-All c.in_ok-flags.flags ∙ (ap (λ fs. conjunction (formulas_of fs)) c.in_ok-flags.ensures.items ∙ (λ i. conjunction (with_formula (c.flag.ensures i) (with_formula (c.flag-2.ensures i) no_formulas))))
