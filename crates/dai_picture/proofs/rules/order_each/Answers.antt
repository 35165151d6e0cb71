use Rattle.std.proofs.Common.{◌≡◌, true, List, [], sym, ◌∙◌, subst, arith}
use Rattle.dai_circuit.specs.declared.bit.Bit.{Bit}
use Rattle.dai_circuit.specs.declared.bit.Bit.TheVariants.{Known}
use Rattle.dai_circuit.specs.Circuits.{AreBitsBelow}
use Rattle.dai_picture.specs.Pictures.{rows_of, row_at, bit_at}
use Rattle.dai_picture.specs.Rules.{Constrains, IsUsedFront}
use Rattle.dai_picture.proofs.Constraints.{constrains_each}
use Rattle.dai_picture.proofs.Read.{read_row, row_inside}
use Rattle.dai_picture.proofs.rules.order_each.Goals as goal

pub order-requires-clause-below : goal.order-requires-clause-below
order-requires-clause-below c =
    let n = c.loop-k.circuit.vars in
    let e = read_row c.args.rows.now c.loop-k.k c.index.result.now (let h = c.loop-k-test.true in let m = c.len-k-end.ensures in omega arith) c.index.ensures in
    subst (AreBitsBelow n) (sym (c.as_slice.ensures.value ∙ e))
    (subst (λ m. AreBitsBelow m (row_at (rows_of c.args.rows.now) c.loop-k.k)) (sym c.loop-k.invariant.vars) (c.requires.below c.loop-k.k [] (row_inside c.args.rows.now c.loop-k.k (let h = c.loop-k-test.true in let m = c.len-k-end.ensures in omega arith))))

pub order-requires-clause-begun : goal.order-requires-clause-begun
order-requires-clause-begun c =
    let e = read_row c.args.rows.now c.loop-k.k c.index.result.now (let h = c.loop-k-test.true in let m = c.len-k-end.ensures in omega arith) c.index.ensures in
    subst (λ (row : List Bit). bit_at row 0 ≡ Known true) (sym (c.as_slice.ensures.value ∙ e)) (c.requires.begun c.loop-k.k (row_inside c.args.rows.now c.loop-k.k (let h = c.loop-k-test.true in let m = c.len-k-end.ensures in omega arith)))

pub loop-k-preserved : goal.loop-k-preserved
loop-k-preserved c =
    let e = read_row c.args.rows.now c.loop-k.k c.index.result.now (let h = c.loop-k-test.true in let m = c.len-k-end.ensures in omega arith) c.index.ensures in
    constrains_each c.args.circuit.now c.loop-k.circuit c.order.new.circuit (λ j bits. IsUsedFront (row_at (rows_of c.args.rows.now) j) bits) c.loop-k.k c.loop-k.invariant
    (subst (λ (row : List Bit). Constrains c.loop-k.circuit c.order.new.circuit (IsUsedFront row)) (c.as_slice.ensures.value ∙ e) c.in_ok-order.ensures)
