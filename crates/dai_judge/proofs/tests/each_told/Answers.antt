use Rattle.std.proofs.Common.{subst, sym}
use Rattle.dai_logic.specs.Protocols.{protocol_of}
use Rattle.dai_template.specs.Spaces.{IsClauseOf}
use Rattle.dai_judge.proofs.tests.each_told.Goals as goal

pub told-requires-clause-clause : goal.told-requires-clause-clause
told-requires-clause-clause c = (c.requires.clauses.0, subst (IsClauseOf (protocol_of c.args.protocol.now) c.requires.clauses.0 c.args.space.now) (sym c.clause-item.is) (c.requires.clauses.1 c.loop-clause.clause-index c.clause-item.result c.loop-clause-test.true))
