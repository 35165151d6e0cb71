use Rattle.std.proofs.Common.{◌≡◌, map, take}
use Rattle.dai_template.specs.declared.clause.Clause.{Clause}
use Rattle.dai_template.specs.Spaces.{clause_of}
use Rattle.dai_inquiry.specs.Keys.{clauses_in}
use Rattle.dai_judge.proofs.premises.keys.Given as goal

abbrev pub invariant-loop-clause : goal.invariant-loop-clause
invariant-loop-clause l = clauses_in l.keys.items ≡ map (λ (c : Clause). clause_of l.space c) (take l.clause-index l.clauses)
