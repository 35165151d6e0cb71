use Rattle.std.proofs.Common.{◌∙◌}
use Rattle.dai_model.proofs.Below.{IsVariableOf}
use Rattle.dai_template.specs.Atoms.{variable_of}
use Rattle.dai_template.specs.ClauseFormulas.{term_at}
use Rattle.dai_template.proofs.Written.{each_mapped, mapped_all}
use Rattle.dai_template.proofs.formulas.terms.Goals as goal

pub term-requires-clause-inside : goal.term-requires-clause-inside
term-requires-clause-inside c = each_mapped (IsVariableOf c.args.counts.now) variable_of c.args.vars.now c.loop-var.var-index (0, 0) c.loop-var-test.true c.requires.inside

pub returns : goal.returns
returns c = c.loop-var.invariant ∙ mapped_all (term_at c.args.counts.now) variable_of c.args.vars.now c.loop-var.var-index c.loop-var-test.false
