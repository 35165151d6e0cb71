use Rattle.std.proofs.Common.{subst, sym}
use Rattle.dai_logic.specs.Protocols.{protocol_of}
use Rattle.dai_template.specs.Spaces.{IsClauseOf}
use Rattle.dai_print.proofs.tests.count.Goals as goal

pub clause_text-requires : goal.clause_text-requires
clause_text-requires c = record {
  bounds = c.requires.bounds;
  is = subst (IsClauseOf (protocol_of c.args.protocol.now) c.requires.bounds c.args.space.now) (sym c.clause-item.is) (c.requires.each c.loop-clause.clause-index c.clause-item.result c.loop-clause-test.true);
}
