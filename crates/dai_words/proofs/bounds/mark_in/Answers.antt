use Rattle.std.proofs.Common.{arith}
use Rattle.std.proofs.lemmas.Bool.{eq-eqb}
use Rattle.dai_words.proofs.Parts.{cut_at, one_part}
use Rattle.dai_words.proofs.bounds.mark_in.Goals as goal

pub returns-then-byte-eq61-clause-cut : goal.returns-then-byte-eq61-clause-cut
returns-then-byte-eq61-clause-cut c = record {
  within = c.loop-at-test.true;
  parts = cut_at 61 c.args.part.now c.loop-at.at c.loop-at-test.true c.loop-at.invariant (eq-eqb _ 61 c.if-byte-eq61.true);
}

pub returns-clause-whole : goal.returns-clause-whole
returns-clause-whole c = one_part 61 c.args.part.now (λ k below. c.loop-at.invariant k (let end = c.loop-at-test.false in omega arith))
