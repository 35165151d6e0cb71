use Rattle.dai_picture.proofs.Constraints.{used_more}
use Rattle.dai_picture.proofs.rules.mark_used.Goals as goal

pub loop-slot-preserved : goal.loop-slot-preserved
loop-slot-preserved c = used_more c.args.circuit.now c.loop-slot.circuit c.require.new.self c.args.used.now c.args.row.now c.loop-slot.slot c.negation.result c.loop-slot.invariant c.negation.ensures c.in_ok-require.ensures.ok
