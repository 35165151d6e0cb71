use Rattle.dai_picture.proofs.Constraints.{apart_from_more}
use Rattle.dai_picture.proofs.rules.mark_apart_from.Goals as goal

pub loop-other-preserved : goal.loop-other-preserved
loop-other-preserved c = apart_from_more c.args.circuit.now c.loop-other.circuit c.require.new.self c.args.row.now c.args.slot c.loop-other.other c.negation.result c.negation-in-loop-other.result c.loop-other.invariant c.negation.ensures c.negation-in-loop-other.ensures c.in_ok-require.ensures.ok
