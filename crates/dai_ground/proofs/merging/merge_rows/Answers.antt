use Rattle.std.proofs.Common.{◌+◌, ◌<◌, [], get_or, take, length, ap, sym, ◌∙◌, subst, arith}
use Rattle.dai_circuit.specs.Circuits.{AreBitsBelow}
use Rattle.dai_circuit.proofs.Extensions.{extends_self}
use Rattle.dai_ground.specs.Choosing.{IsChosenRow, AreChosenRows, lists_of}
use Rattle.dai_ground.proofs.Findings.{extends_after}
use Rattle.dai_ground.proofs.Choices.{chosen_rows_none, chosen_rows_kept, chosen_rows_more, alike_at, lists_length, lists_push}
use Rattle.dai_ground.proofs.merging.merge_rows.Goals as goal

pub loop-number-init : goal.loop-number-init
loop-number-init c =
    record {
      extends = extends_self c.args.circuit.now;
      rows = subst (AreChosenRows c.args.circuit.now c.args.condition [] []) (ap lists_of (sym c.in_ok-rows.ensures.items)) (chosen_rows_none c.args.circuit.now c.args.condition);
    }

pub merge_row-requires-clause-first : goal.merge_row-requires-clause-first
merge_row-requires-clause-first c =
    let below : c.loop-number.number < length (lists_of c.args.first.now) = (let l = c.loop-number-test.true in let n = lists_length c.args.first.now in omega arith) in
    let at = alike_at c.args.circuit.now.vars c.loop-number.circuit.vars (lists_of c.args.first.now) (lists_of c.args.second.now) c.loop-number.number c.loop-number.invariant.extends.grows below c.requires.alike in
    subst (AreBitsBelow c.loop-number.circuit.vars) (sym c.row_of.ensures) at.first_below

pub merge_row-requires-clause-second : goal.merge_row-requires-clause-second
merge_row-requires-clause-second c =
    let below : c.loop-number.number < length (lists_of c.args.first.now) = (let l = c.loop-number-test.true in let n = lists_length c.args.first.now in omega arith) in
    let at = alike_at c.args.circuit.now.vars c.loop-number.circuit.vars (lists_of c.args.first.now) (lists_of c.args.second.now) c.loop-number.number c.loop-number.invariant.extends.grows below c.requires.alike in
    subst (AreBitsBelow c.loop-number.circuit.vars) (sym c.row_of-in-loop-number.ensures) at.second_below

pub merge_row-requires-clause-long : goal.merge_row-requires-clause-long
merge_row-requires-clause-long c =
    let below : c.loop-number.number < length (lists_of c.args.first.now) = (let l = c.loop-number-test.true in let n = lists_length c.args.first.now in omega arith) in
    let at = alike_at c.args.circuit.now.vars c.loop-number.circuit.vars (lists_of c.args.first.now) (lists_of c.args.second.now) c.loop-number.number c.loop-number.invariant.extends.grows below c.requires.alike in
    ap length c.row_of.ensures ∙ (at.long ∙ sym (ap length c.row_of-in-loop-number.ensures))

pub returns-in_err-row-clause-extends : goal.returns-in_err-row-clause-extends
returns-in_err-row-clause-extends c = extends_after c.args.circuit.now c.loop-number.circuit c.merge_row.new.circuit c.loop-number.invariant.extends c.merge_row.ensures.extends

pub returns-in_err-push-clause-extends : goal.returns-in_err-push-clause-extends
returns-in_err-push-clause-extends c = extends_after c.args.circuit.now c.loop-number.circuit c.merge_row.new.circuit c.loop-number.invariant.extends c.merge_row.ensures.extends

pub loop-number-preserved : goal.loop-number-preserved
loop-number-preserved c =
    let old = c.args.circuit.now in
    let now = c.loop-number.circuit in
    let new = c.merge_row.new.circuit in
    let first = lists_of c.args.first.now in
    let second = lists_of c.args.second.now in
    let i = c.loop-number.number in
    let below : i < length first = (let l = c.loop-number-test.true in let n = lists_length c.args.first.now in omega arith) in
    let at = alike_at old.vars now.vars first second i c.loop-number.invariant.extends.grows below c.requires.alike in
    let row = c.in_ok-row.row.items in
    let chosen : IsChosenRow new c.args.condition (get_or first i []) (get_or second i []) row =
    subst (λ ys. IsChosenRow new c.args.condition (get_or first i []) ys row) c.row_of-in-loop-number.ensures
    (subst (λ xs. IsChosenRow new c.args.condition xs c.row_of-in-loop-number.result.now row) c.row_of.ensures c.in_ok-row.ensures.chosen) in
    let kept = chosen_rows_kept now new c.args.condition (take i first) (take i second) (lists_of c.loop-number.rows.items) c.merge_row.ensures.extends c.loop-number.invariant.rows in
    record {
      extends = extends_after old now new c.loop-number.invariant.extends c.merge_row.ensures.extends;
      rows = subst (AreChosenRows new c.args.condition (take (i + 1) first) (take (i + 1) second)) (sym (ap lists_of c.in_ok-push.ensures.items ∙ lists_push c.loop-number.rows.items c.in_ok-row.row)) (chosen_rows_more new c.args.condition row [] [] first second (lists_of c.loop-number.rows.items) i below at.in_second kept chosen);
    }
