use Rattle.std.proofs.Common.{refl, arith}
use Rattle.dai_template.proofs.Asked.{begun_none, zeros}
use Rattle.dai_order.proofs.Sides.{sides_of, over_is, below_decided, none_below}
use Rattle.dai_order.proofs.subsumption.subsumes.Goals as goal

pub is_below_from-requires : goal.is_below_from-requires
is_below_from-requires c = record {
  protocol = c.requires.protocol;
  sides = sides_of c.requires.protocol c.requires.bounds c.args.space.now c.args.left.now c.args.right.now c.index-from.result.now c.index-to.result.now c.orders.result.now c.as_slice.result.now c.as_slice-2.result.now c.requires.first c.requires.second c.index-from.ensures c.index-to.ensures c.orders.ensures c.as_slice.ensures.value c.as_slice-2.ensures.value;
  begun = begun_none c.requires.protocol c.index-to.result.now.counts.items c.index-from.result.now.counts.items zeros refl;
  sort_inside = omega arith;
  number_inside = omega arith;
}

pub returns : goal.returns
returns c = λ P B h k.
    let s = sides_of P B c.args.space.now c.args.left.now c.args.right.now c.index-from.result.now c.index-to.result.now c.orders.result.now c.as_slice.result.now c.as_slice-2.result.now h k c.index-from.ensures c.index-to.ensures c.orders.ensures c.as_slice.ensures.value c.as_slice-2.ensures.value in
    let b = begun_none P c.index-to.result.now.counts.items c.index-from.result.now.counts.items zeros refl in
    below_decided P _ _ _ _ c.is_below_from.result
    (over_is c.args.space.now c.args.left.now c.index-from.result.now c.as_slice.result.now h.shape c.index-from.ensures c.as_slice.ensures.value)
    (over_is c.args.space.now c.args.right.now c.index-to.result.now c.as_slice-2.result.now k.shape c.index-to.ensures c.as_slice-2.ensures.value)
    (λ right. c.is_below_from.ensures.found P s b right)
    (λ wrong. none_below P c.index-from.result.now c.as_slice.result.now c.index-to.result.now c.as_slice-2.result.now zeros (c.is_below_from.ensures.none P s b wrong))
