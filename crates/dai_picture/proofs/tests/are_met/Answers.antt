use Rattle.std.proofs.Common.{ℕ, List, [], get_or, below_more, subst, arith}
use Rattle.std.proofs.lemmas.List.{get_or_default}
use Rattle.dai_trail.specs.declared.cnf.Lit.{Lit}
use Rattle.dai_trail.specs.Formula.{IsMetBy}
use Rattle.dai_picture.proofs.tests.are_met.Goals as goal

pub loop-number-preserved : goal.loop-number-preserved
loop-number-preserved c =
    below_more (λ (k : ℕ). IsMetBy (get_or c.args.cnf.now.clauses k []) c.args.values.now) c.loop-number.number c.loop-number.invariant
    (subst (λ (clause : List Lit). IsMetBy clause c.args.values.now) c.clause.ensures.lits (c.is_met.ensures c.if-not-is_met.false))

pub returns : goal.returns
returns c = λ t k d l.
    let past = c.loop-number-test.false in
    let many = c.clause_count-number-end.ensures in
    subst (λ (clause : List Lit). IsMetBy clause c.args.values.now) (get_or_default c.args.cnf.now.clauses k [] d l) (c.loop-number.invariant k (omega arith))
