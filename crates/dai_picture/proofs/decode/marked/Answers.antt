use Rattle.std.proofs.Common.{arith, sym, ◌∙◌}
use Rattle.dai_picture.proofs.Values.{marks_beyond}
use Rattle.dai_picture.proofs.decode.marked.Goals as goal

pub loop-slot-preserved : goal.loop-slot-preserved
loop-slot-preserved c = λ e marks. marks_beyond c.args.model.now c.args.row.now e c.loop-slot.slot marks c.loop-slot-test.true (c.loop-slot.invariant e marks) (sym c.bit_value.ensures ∙ c.if-bit_value.false)

pub returns : goal.returns
returns c = λ e marks.
    let low = c.loop-slot.invariant e marks in
    let high = marks.inside in
    let past = c.loop-slot-test.false in
    absurd (omega arith)
