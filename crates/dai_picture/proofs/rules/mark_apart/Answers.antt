use Rattle.dai_picture.proofs.Constraints.{apart_more}
use Rattle.dai_picture.proofs.rules.mark_apart.Goals as goal

pub loop-slot-preserved : goal.loop-slot-preserved
loop-slot-preserved c = apart_more c.args.circuit.now c.loop-slot.circuit c.mark_apart_from.new.circuit c.args.row.now c.loop-slot.slot c.loop-slot.invariant c.in_ok-mark_apart_from.ensures
