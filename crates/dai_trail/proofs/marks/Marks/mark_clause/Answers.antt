use Rattle.std.proofs.Common.{arith}
use Rattle.dai_trail.proofs.marks.Marks.mark_clause.Goals as goal

pub returns-clause-covered : goal.returns-clause-covered
returns-clause-covered c = λ t k l. c.loop-code.invariant.covered k (omega (arith, c.loop-code-test.false))
