use Rattle.std.proofs.Common.{arith, ◌≤◌, sym, ◌∙◌}
use Rattle.dai_picture.proofs.Values.{counts_here}
use Rattle.dai_picture.proofs.decode.count.Goals as goal

pub returns-then-not-bit_value : goal.returns-then-not-bit_value
returns-then-not-bit_value c = λ size counts.
    let low = c.loop-slot.invariant size counts in
    let high : size ≤ c.loop-slot.slot = counts_here c.args.model.now c.args.row.now size c.loop-slot.slot counts c.loop-slot-test.true (sym c.bit_value.ensures ∙ c.if-not-bit_value.true) in
    omega arith

pub returns : goal.returns
returns c = λ size counts.
    let low = c.loop-slot.invariant size counts in
    let high = counts.within in
    let past = c.loop-slot-test.false in
    omega arith
