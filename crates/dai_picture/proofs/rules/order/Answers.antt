use Rattle.dai_picture.proofs.Constraints.{falls_more, order_all}
use Rattle.dai_picture.proofs.rules.order.Goals as goal

pub loop-slot-preserved : goal.loop-slot-preserved
loop-slot-preserved c = falls_more c.args.circuit.now c.loop-slot.circuit c.require.new.self c.args.row.now c.loop-slot.slot c.negation.result c.loop-slot.auto.slot c.loop-slot.invariant c.negation.ensures c.in_ok-require.ensures.ok

pub returns : goal.returns
returns c = order_all c.args.circuit.now c.loop-slot.circuit c.args.row.now c.loop-slot.slot c.requires.begun c.loop-slot-test.false c.loop-slot.invariant
