use Rattle.std.proofs.Common.{◌<◌, List, vec_len, length, get_or, sym, ap, ◌∙◌, subst, arith}
use Rattle.dai_circuit.specs.declared.bit.Bit.{Bit}
use Rattle.dai_circuit.specs.Circuits.{AreBitsBelow}
use Rattle.dai_picture.specs.Pictures.{rows_of, row_at}
use Rattle.dai_picture.specs.Rules.{Constrains, MarksUsed}
use Rattle.dai_picture.proofs.Constraints.{constrains_each}
use Rattle.dai_picture.proofs.Read.{read_row, row_inside, number_inside, over_at}
use Rattle.dai_picture.proofs.rules.mark_each.Goals as goal

pub mark-requires-clause-used : goal.mark-requires-clause-used
mark-requires-clause-used c =
    let used = c.args.used.now in
    let h = c.loop-k-test.true in
    let m = c.len-k-end.ensures in
    let below : c.loop-k.k < vec_len c.args.rows.now = omega arith in
    let o = over_at c.args.circuit.now.vars (rows_of used) c.args.sorts.now (rows_of c.args.rows.now) c.loop-k.k c.requires (row_inside c.args.rows.now c.loop-k.k below) in
    let e = read_row used (get_or c.args.sorts.now c.loop-k.k 0) c.index.result.now (number_inside used (get_or c.args.sorts.now c.loop-k.k 0) o.known) c.index.ensures in
    subst (AreBitsBelow c.loop-k.circuit.vars) (sym (c.as_slice.ensures.value ∙ e)) (subst (λ n. AreBitsBelow n (row_at (rows_of used) (get_or c.args.sorts.now c.loop-k.k 0))) (sym c.loop-k.invariant.vars) o.used_below)

pub mark-requires-clause-row : goal.mark-requires-clause-row
mark-requires-clause-row c =
    let h = c.loop-k-test.true in
    let m = c.len-k-end.ensures in
    let below : c.loop-k.k < vec_len c.args.rows.now = omega arith in
    let o = over_at c.args.circuit.now.vars (rows_of c.args.used.now) c.args.sorts.now (rows_of c.args.rows.now) c.loop-k.k c.requires (row_inside c.args.rows.now c.loop-k.k below) in
    let e = read_row c.args.rows.now c.loop-k.k c.index-in-loop-k.result.now below c.index-in-loop-k.ensures in
    subst (AreBitsBelow c.loop-k.circuit.vars) (sym (c.as_slice-in-loop-k.ensures.value ∙ e)) (subst (λ n. AreBitsBelow n (row_at (rows_of c.args.rows.now) c.loop-k.k)) (sym c.loop-k.invariant.vars) o.row_below)

pub mark-requires-clause-long : goal.mark-requires-clause-long
mark-requires-clause-long c =
    let used = c.args.used.now in
    let h = c.loop-k-test.true in
    let m = c.len-k-end.ensures in
    let below : c.loop-k.k < vec_len c.args.rows.now = omega arith in
    let o = over_at c.args.circuit.now.vars (rows_of used) c.args.sorts.now (rows_of c.args.rows.now) c.loop-k.k c.requires (row_inside c.args.rows.now c.loop-k.k below) in
    let e = read_row used (get_or c.args.sorts.now c.loop-k.k 0) c.index.result.now (number_inside used (get_or c.args.sorts.now c.loop-k.k 0) o.known) c.index.ensures in
    let f = read_row c.args.rows.now c.loop-k.k c.index-in-loop-k.result.now below c.index-in-loop-k.ensures in
    ap length (c.as_slice-in-loop-k.ensures.value ∙ f) ∙ (o.as_long ∙ sym (ap length (c.as_slice.ensures.value ∙ e)))

pub loop-k-preserved : goal.loop-k-preserved
loop-k-preserved c =
    let used = c.args.used.now in
    let sort = get_or c.args.sorts.now c.loop-k.k 0 in
    let h = c.loop-k-test.true in
    let m = c.len-k-end.ensures in
    let below : c.loop-k.k < vec_len c.args.rows.now = omega arith in
    let o = over_at c.args.circuit.now.vars (rows_of used) c.args.sorts.now (rows_of c.args.rows.now) c.loop-k.k c.requires (row_inside c.args.rows.now c.loop-k.k below) in
    let e = c.as_slice.ensures.value ∙ read_row used sort c.index.result.now (number_inside used sort o.known) c.index.ensures in
    let f = c.as_slice-in-loop-k.ensures.value ∙ read_row c.args.rows.now c.loop-k.k c.index-in-loop-k.result.now below c.index-in-loop-k.ensures in
    constrains_each c.args.circuit.now c.loop-k.circuit c.mark.new.circuit (λ j bits. MarksUsed (row_at (rows_of used) (get_or c.args.sorts.now j 0)) (row_at (rows_of c.args.rows.now) j) bits) c.loop-k.k c.loop-k.invariant
    (subst (λ (row : List Bit). Constrains c.loop-k.circuit c.mark.new.circuit (MarksUsed (row_at (rows_of used) sort) row)) f
    (subst (λ (slots : List Bit). Constrains c.loop-k.circuit c.mark.new.circuit (MarksUsed slots c.as_slice-in-loop-k.result.now)) e c.in_ok-mark.ensures))
