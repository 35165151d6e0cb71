use Rattle.std.proofs.Common.{◌+◌, arith}
use Rattle.dai_dimacs.proofs.Digits.{value_more, front_no_greater}
use Rattle.dai_dimacs.proofs.tokens.value.Goals as goal

pub returns-then-value-gt18446744073709551615-clause-beyond : goal.returns-then-value-gt18446744073709551615-clause-beyond
returns-then-value-gt18446744073709551615-clause-beyond c =
    let more = value_more c.args.digits.now c.loop-digit.digit-index c.requires c.loop-digit-test.true in
    let front = front_no_greater c.args.digits.now (c.loop-digit.digit-index + 1) in
    omega (arith, more, front, c.loop-digit.invariant.value, c.from.ensures)

pub loop-digit-preserved : goal.loop-digit-preserved
loop-digit-preserved c =
    let more = value_more c.args.digits.now c.loop-digit.digit-index c.requires c.loop-digit-test.true in
    record {
      value = omega (arith, more, c.loop-digit.invariant.value, c.from.ensures);
      fits = omega arith;
    }
