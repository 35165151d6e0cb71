use Rattle.std.proofs.Common.{subst, sym}
use Rattle.dai_logic.specs.Protocols.{protocol_of}
use Rattle.dai_template.specs.Spaces.{IsClauseOf}
use Rattle.dai_judge.proofs.tests.hold_at_first.Goals as goal

pub initiation-requires-clause-goal : goal.initiation-requires-clause-goal
initiation-requires-clause-goal c = record {
  bounds = c.requires.clauses.0;
  is = subst (IsClauseOf (protocol_of c.args.protocol.now) c.requires.clauses.0 c.args.space.now) (sym c.clause-item.is) (c.requires.clauses.1 c.loop-clause.clause-index c.clause-item.result c.loop-clause-test.true);
}

pub loop-clause-init : goal.loop-clause-init
loop-clause-init c = c.in_ok-judge.ensures.ready (protocol_of c.args.protocol.now) c.requires.sizes
