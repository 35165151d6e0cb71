use Rattle.std.proofs.Common.{subst}
use Rattle.std.specs.List.{Contains}
use Rattle.dai_inquiry.specs.Keys.{clause_in, clauses_in}
use Rattle.dai_judge.proofs.Remembered.{member_at}
use Rattle.dai_judge.proofs.premises.Premises.is_at.Goals as goal

pub returns-in-Some : goal.returns-in-Some
returns-in-Some c = λ same.
    let found = c.in-Some.ensures.lookup in
    let d = clause_in c.args.key.now in
    subst (λ ks. Contains (clauses_in ks) d) c.deref.ensures.value
    (member_at c.deref.result.now c.args.place c.in-Some.own.now d found.3.0 found.1 (c.is_same.ensures same))
