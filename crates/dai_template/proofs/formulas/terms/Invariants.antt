-- the terms of the variables so far
use Rattle.std.proofs.Common.{◌≡◌, ℕ, map, take}
use Rattle.dai_logic.specs.Trees.{term_of}
use Rattle.dai_template.specs.Atoms.{variable_of}
use Rattle.dai_template.specs.ClauseFormulas.{term_at}
use Rattle.dai_template.proofs.formulas.terms.Given as goal

abbrev pub invariant-loop-var : goal.invariant-loop-var
invariant-loop-var l = map term_of l.terms.items ≡ map (λ (v : ℕ × ℕ). term_at l.counts (variable_of v)) (take l.var-index l.vars)
