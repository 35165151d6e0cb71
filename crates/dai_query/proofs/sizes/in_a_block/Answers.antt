use Rattle.std.proofs.Common.{rules, ◌+◌, drop, map, ◌<◌, ◌≡◌, ap, ◌∙◌, subst, arith, List, length, get_or}
use Rattle.std.specs.Prelude.{max}
use Rattle.dai_model.specs.Sizes.{greatest, block_count}
use Rattle.dai_logic.specs.declared.protocol.Action.{Action}
use Rattle.dai_logic.specs.Parts.{block_of}
use Rattle.dai_query.proofs.Profile.{init_parameters, init_choices, init_witnesses, action_parameters, action_choices, action_witnesses}
use Rattle.dai_query.proofs.Most.{most_step, most_end, blocks_begin}
use Rattle.dai_query.proofs.sizes.in_a_block.Goals as goal

pub in_block-most-requires : goal.in_block-most-requires
in_block-most-requires c = record {
  parameters = init_parameters c.args.protocol.now;
  choices = init_choices c.args.protocol.now;
  witnesses = init_witnesses c.args.protocol.now;
}

pub loop-action-init : goal.loop-action-init
loop-action-init c = record {
  whole = blocks_begin c.args.protocol.now c.args.sort c.in_block-most.result c.deref-action-items.result.now c.deref-action-items.ensures.value c.in_block-most.ensures.count;
  few = c.in_block-most.ensures.few;
}

pub in_block-requires : goal.in_block-requires
in_block-requires c =
    let below = subst (λ (xs : List Action). c.loop-action.action-index < length xs) c.deref-action-items.ensures.value c.loop-action-test.true in
    let is = subst (λ (xs : List Action). c.action-item.result ≡ get_or xs c.loop-action.action-index c.action-item.result) c.deref-action-items.ensures.value c.action-item.is in
    record {
      parameters = action_parameters c.args.protocol.now c.loop-action.action-index c.action-item.result below is;
      choices = action_choices c.args.protocol.now c.loop-action.action-index c.action-item.result below is;
      witnesses = action_witnesses c.args.protocol.now c.loop-action.action-index c.action-item.result below is;
    }

pub loop-action-preserved : goal.loop-action-preserved
loop-action-preserved c =
    let greater : c.max-most.result ≡ max c.loop-action.most c.in_block.result = search rules in
    record {
      whole = ap (λ n. max n (greatest (map (λ (x : Action). block_count c.args.sort (block_of x.block)) (drop (c.loop-action.action-index + 1) c.deref-action-items.result.now)))) greater ∙ most_step (λ (a : Action). block_count c.args.sort (block_of a.block)) c.deref-action-items.result.now c.loop-action.action-index c.action-item.result c.loop-action.most c.in_block.result _ c.loop-action-test.true c.action-item.is c.in_block.ensures.count c.loop-action.invariant.whole;
      few = let a = c.loop-action.invariant.few in let b = c.in_block.ensures.few in omega (arith, a, b, greater);
    }

pub returns : goal.returns
returns c = record {
  most = most_end (λ (a : Action). block_count c.args.sort (block_of a.block)) c.deref-action-items.result.now c.loop-action.action-index c.loop-action.most _ c.loop-action-test.false c.loop-action.invariant.whole;
  few = c.loop-action.invariant.few;
}
