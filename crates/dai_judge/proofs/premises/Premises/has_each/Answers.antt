use Rattle.std.proofs.Common.{arith, rules}
use Rattle.dai_inquiry.specs.Keys.{clauses_in}
use Rattle.dai_judge.proofs.Remembered.{among_each, among_more}
use Rattle.dai_judge.proofs.premises.Premises.has_each.Goals as goal

pub loop-key-preserved : goal.loop-key-preserved
loop-key-preserved c =
    among_more c.args.keys.now (clauses_in c.args.self.now.keys.items) c.loop-key.key-index c.key-item.result c.key-item.is
    (c.has.ensures (search (rules, c.if-not-has.false))) c.loop-key.invariant

pub returns : goal.returns
returns c = λ _.
    let past = c.loop-key-test.false in
    among_each c.args.keys.now (clauses_in c.args.self.now.keys.items) c.loop-key.key-index (omega (arith, past)) c.loop-key.invariant
