use Rattle.std.proofs.Common.{◌+◌, arith}
use Rattle.dai_words.proofs.Digits.{value_more, front_no_greater}
use Rattle.dai_words.proofs.number.value_within.Goals as goal

pub returns-then-value-most-clause-beyond : goal.returns-then-value-most-clause-beyond
returns-then-value-most-clause-beyond c =
    let more = value_more c.args.digits.now c.loop-digit.digit-index c.requires c.loop-digit-test.true in
    let front = front_no_greater c.args.digits.now (c.loop-digit.digit-index + 1) in
    omega (arith, more, front, c.loop-digit.invariant.value, c.from-most.ensures, c.from.ensures, c.if-value-most.true)

pub loop-digit-preserved : goal.loop-digit-preserved
loop-digit-preserved c =
    let more = value_more c.args.digits.now c.loop-digit.digit-index c.requires c.loop-digit-test.true in
    record {
      value = omega (arith, more, c.loop-digit.invariant.value, c.from.ensures);
      within = c.if-value-most.false;
      small = c.loop-digit.invariant.small;
    }
