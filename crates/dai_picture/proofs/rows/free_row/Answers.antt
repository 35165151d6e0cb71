use Rattle.std.proofs.Common.{sym, subst}
use Rattle.dai_picture.specs.Rows.{IsFreeBit, IsFreeRow}
use Rattle.dai_picture.proofs.FreeRows.{row_none, row_more}
use Rattle.dai_picture.proofs.rows.free_row.Goals as goal

pub loop-slot-init : goal.loop-slot-init
loop-slot-init c = subst (IsFreeRow c.args.circuit.now c.args.circuit.now c.args.known 0) (sym c.new-row.ensures.items) (row_none c.args.circuit.now c.args.known)

pub loop-slot-preserved : goal.loop-slot-preserved
loop-slot-preserved c =
    row_more c.args.circuit.now c.loop-slot.circuit c.free_bit.new.circuit c.args.known c.loop-slot.slot c.loop-slot.row.items c.push.new.self.items c.in_ok-bit.bit c.loop-slot.invariant
    (subst (λ fixed. IsFreeBit c.loop-slot.circuit c.free_bit.new.circuit fixed c.in_ok-bit.bit) c.is_known.ensures c.in_ok-bit.ensures)
    c.in_ok-push.ensures.items
