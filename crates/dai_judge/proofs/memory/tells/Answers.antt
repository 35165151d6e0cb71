use Rattle.std.proofs.Common.{subst, refl}
use Rattle.dai_inquiry.specs.Keys.{clause_in, clauses_in}
use Rattle.dai_judge.specs.Memory.{Keeps, AreAmong}
use Rattle.dai_judge.proofs.Picks.{keeps_more}
use Rattle.dai_judge.proofs.memory.tells.Goals as goal

pub returns-then-is_of : goal.returns-then-is_of
returns-then-is_of c = λ has C P known.
    let own = c.args.known.now in
    let many = clauses_in c.args.premises.now.keys.items in
    let among = subst (λ ks. AreAmong (clauses_in ks) many) c.as_slice.ensures.value (c.has_each.ensures has) in
    let kept = keeps_more C P own.block (clauses_in own.needed.items) many (clause_in own.goal) among known in
    subst (λ b. Keeps C P b many (clause_in c.args.goal.now)) (c.if-is_of.ensures.block refl)
    (subst (λ d. Keeps C P own.block many d) (c.if-is_of.ensures.goal refl) kept)
