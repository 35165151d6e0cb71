use Rattle.std.proofs.Common.{◌+◌, ◌<◌, [], false, take, length, sym, subst, arith}
use Rattle.dai_circuit.specs.declared.bit.Bit.{Bit}
use Rattle.dai_circuit.specs.declared.bit.Bit.TheVariants.{Known}
use Rattle.dai_circuit.proofs.Extensions.{extends_self}
use Rattle.dai_ground.specs.Choosing.{IsChosenRow}
use Rattle.dai_ground.proofs.Findings.{extends_after}
use Rattle.dai_ground.proofs.Choices.{chosen_none, chosen_kept, chosen_more}
use Rattle.dai_ground.proofs.merging.merge_row.Goals as goal

pub loop-place-init : goal.loop-place-init
loop-place-init c =
    record {
      extends = extends_self c.args.circuit.now;
      row = subst (IsChosenRow c.args.circuit.now c.args.condition [] []) (sym c.in_ok-row.ensures.items) (chosen_none c.args.circuit.now c.args.condition);
    }

pub returns-in_err-bit-clause-extends : goal.returns-in_err-bit-clause-extends
returns-in_err-bit-clause-extends c = extends_after c.args.circuit.now c.loop-place.circuit c.if_then_else.new.circuit c.loop-place.invariant.extends c.if_then_else.ensures.extends

pub returns-in_err-push-clause-extends : goal.returns-in_err-push-clause-extends
returns-in_err-push-clause-extends c = extends_after c.args.circuit.now c.loop-place.circuit c.if_then_else.new.circuit c.loop-place.invariant.extends c.if_then_else.ensures.extends

pub loop-place-preserved : goal.loop-place-preserved
loop-place-preserved c =
    let d : Bit = Known false in
    let old = c.args.circuit.now in
    let now = c.loop-place.circuit in
    let new = c.if_then_else.new.circuit in
    let first = c.args.first.now in
    let second = c.args.second.now in
    let i = c.loop-place.place in
    let in_second : i < length second = (let l = c.loop-place-test.true in let e = c.requires.long in omega arith) in
    let kept = chosen_kept now new c.args.condition (take i first) (take i second) c.loop-place.row.items c.if_then_else.ensures.extends c.loop-place.invariant.row in
    record {
      extends = extends_after old now new c.loop-place.invariant.extends c.if_then_else.ensures.extends;
      row = subst (IsChosenRow new c.args.condition (take (i + 1) first) (take (i + 1) second)) (sym c.in_ok-push.ensures.items) (chosen_more new c.args.condition c.in_ok-bit.bit d d first second c.loop-place.row.items i c.loop-place-test.true in_second kept c.in_ok-bit.ensures.answer);
    }
