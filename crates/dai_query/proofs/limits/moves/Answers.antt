use Rattle.std.proofs.Common.{◌≡◌, ◌<◌, ◌+◌, ◌^◌, List, length, get_or, sym, ◌∙◌, ap, subst, arith}
use Rattle.std.specs.Prelude.{sum_by}
use Rattle.dai_model.specs.Limits.{moves_of}
use Rattle.dai_logic.specs.declared.protocol.Action.{Action}
use Rattle.dai_logic.specs.Parts.{action_of}
use Rattle.dai_query.proofs.Profile.{few_actions, action_parameters, action_choices}
use Rattle.dai_model.proofs.Folds.{sum_step, sum_end, sum_by-map, total_more, total_within}
use Rattle.dai_query.proofs.limits.moves.Goals as goal

pub loop-action-init : goal.loop-action-init
loop-action-init c = record {
  whole =
      let zero_left : 0 + sum_by (λ (a : Action). moves_of c.args.size (action_of a)) c.deref-action-items.result.now ≡ sum_by (λ (a : Action). moves_of c.args.size (action_of a)) c.deref-action-items.result.now = omega arith in
      zero_left ∙ (ap (sum_by (λ (a : Action). moves_of c.args.size (action_of a))) c.deref-action-items.ensures.value ∙ sym (sum_by-map (moves_of c.args.size) action_of c.args.protocol.now.actions.items));
  fits = omega arith;
}

pub ways-total-requires : goal.ways-total-requires
ways-total-requires c =
    let below = subst (λ (xs : List Action). c.loop-action.action-index < length xs) c.deref-action-items.ensures.value c.loop-action-test.true in
    let is = subst (λ (xs : List Action). c.action-item.result ≡ get_or xs c.loop-action.action-index c.action-item.result) c.deref-action-items.ensures.value c.action-item.is in
    let parameters = action_parameters c.args.protocol.now c.loop-action.action-index c.action-item.result below is in
    let choices = action_choices c.args.protocol.now c.loop-action.action-index c.action-item.result below is in
    omega (arith, parameters, choices)

pub overflow_add-total : goal.overflow_add-total
overflow_add-total c =
    let few = few_actions c.args.protocol.now in
    let below = subst (λ (xs : List Action). c.loop-action.action-index < length xs) c.deref-action-items.ensures.value c.loop-action-test.true in
    let within = total_within c.loop-action.action-index 64 c.loop-action.total (2 ^ 96) (omega (arith, few, below)) c.loop-action.invariant.fits in
    let here = c.ways-total.ensures.fits in
    omega (arith, within, here)

pub loop-action-preserved : goal.loop-action-preserved
loop-action-preserved c = record {
  whole = sum_step (λ (a : Action). moves_of c.args.size (action_of a)) c.deref-action-items.result.now c.loop-action.action-index c.action-item.result c.loop-action.total c.ways-total.result _ c.loop-action-test.true c.action-item.is (c.ways-total.ensures.is ∙ ap (λ n. c.args.size ^ n) (let a : c.len.result + c.len-in-loop-action.result ≡ length c.action-item.result.block.params.items + length c.action-item.result.block.locals.items = (let x = c.len.ensures in let y = c.len-in-loop-action.ensures in omega (arith, x, y)) in a)) c.loop-action.invariant.whole;
  fits = total_more c.loop-action.action-index c.loop-action.total c.ways-total.result (2 ^ 96) c.loop-action.invariant.fits c.ways-total.ensures.fits;
}

pub returns : goal.returns
returns c = sum_end (λ (a : Action). moves_of c.args.size (action_of a)) c.deref-action-items.result.now c.loop-action.action-index c.loop-action.total _ c.loop-action-test.false c.loop-action.invariant.whole
