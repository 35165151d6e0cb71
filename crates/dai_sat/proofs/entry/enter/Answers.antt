use Rattle.std.proofs.Common.{arith, ◌≡◌, length}
use Rattle.std.proofs.lemmas.Grind.{common_steps}
use Rattle.dai_trail.proofs.Encodings.{clause_implied}
use Rattle.dai_trail.proofs.Forces.{refuted_clause}
use Rattle.dai_sat.proofs.entry.enter.Goals as goal

pub returns-then-is_empty-clause-conflict : goal.returns-then-is_empty-clause-conflict
returns-then-is_empty-clause-conflict c = λ t.
    let none : length c.clause-codes.result.now ≡ 0 = grind (arith, common_steps) in
    refuted_clause c.args.cnf.now c.args.trail.now c.clause-codes.result.now c.requires.sound.trail.mirror
    (clause_implied c.args.cnf.now c.args.number c.clause-codes.result.now c.requires.within c.clause-codes.ensures)
    (λ k kl. absurd (omega arith))

pub follow-requires-clause-implied : goal.follow-requires-clause-implied
follow-requires-clause-implied c = clause_implied c.args.cnf.now c.args.number c.clause-codes.result.now c.requires.within c.clause-codes.ensures
