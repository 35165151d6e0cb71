-- the formulas of the clauses so far
use Rattle.std.proofs.Common.{◌≡◌, map, take}
use Rattle.dai_model.specs.Protocol.{Protocol}
use Rattle.dai_logic.specs.Trees.{formula_of}
use Rattle.dai_template.specs.declared.clause.Clause.{Clause}
use Rattle.dai_template.specs.ClauseFormulas.{formula_of_clause}
use Rattle.dai_template.specs.Spaces.{clause_of}
use Rattle.dai_weaken.specs.Questions.{ArePremises}
use Rattle.dai_judge.proofs.premises.formulas.Given as goal

abbrev pub invariant-loop-clause : goal.invariant-loop-clause
invariant-loop-clause l = (P : Protocol) → ArePremises P l.space l.clauses → map formula_of l.formulas.items ≡ map (λ (c : Clause). formula_of_clause P (clause_of l.space c)) (take l.clause-index l.clauses)
