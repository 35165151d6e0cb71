use Rattle.std.proofs.Common.{◌≡◌, length, refl, arith}
use Rattle.dai_order.proofs.Lessening.{few_of_all, no_smaller, sought, never_without, without, sort_known, number_low, types_read}
use Rattle.dai_order.proofs.parts.without_variable.Goals as goal

pub smaller_shape-requires-clause-few : goal.smaller_shape-requires-clause-few
smaller_shape-requires-clause-few c = few_of_all c.requires.protocol c.requires.bounds c.args.space.now c.args.clause.now c.requires.is

pub smaller_shape-requires-clause-known : goal.smaller_shape-requires-clause-known
smaller_shape-requires-clause-known c =
    sort_known c.requires.protocol c.requires.bounds c.args.space.now c.args.clause.now c.index-shape.result.now c.args.sort c.from.result c.len.result c.requires.is c.index-shape.ensures c.from.ensures (let e = c.len.ensures in let many : c.len.result ≡ length c.index-shape.result.now.counts.items = omega (arith, e) in many) c.if-from-len.false

pub returns-in_err-smaller-clause-none : goal.returns-in_err-smaller-clause-none
returns-in_err-smaller-clause-none c = λ _ P B h.
    let known = sort_known P B c.args.space.now c.args.clause.now c.index-shape.result.now c.args.sort c.from.result c.len.result h c.index-shape.ensures c.from.ensures (let e = c.len.ensures in let many : c.len.result ≡ length c.index-shape.result.now.counts.items = omega (arith, e) in many) c.if-from-len.false in
    let low = number_low P B c.args.space.now c.args.clause.now c.index-shape.result.now c.args.sort c.from-2.result c.index.result.now c.args.number h c.index-shape.ensures known c.from-2.ensures c.index.ensures c.if-number-index.false in
    no_smaller P B c.args.space.now c.args.clause.now c.args.sort c.args.number h known (c.smaller_shape.ensures.none c.in_err-smaller.was)

pub preimages-requires : goal.preimages-requires
preimages-requires c =
    let P = c.requires.protocol in
    let B = c.requires.bounds in
    let known = sort_known P B c.args.space.now c.args.clause.now c.index-shape.result.now c.args.sort c.from.result c.len.result c.requires.is c.index-shape.ensures c.from.ensures (let e = c.len.ensures in let many : c.len.result ≡ length c.index-shape.result.now.counts.items = omega (arith, e) in many) c.if-from-len.false in
    let low = number_low P B c.args.space.now c.args.clause.now c.index-shape.result.now c.args.sort c.from-2.result c.index.result.now c.args.number c.requires.is c.index-shape.ensures known c.from-2.ensures c.index.ensures c.if-number-index.false in
    sought P B c.args.space.now c.args.clause.now c.args.sort c.args.number c.requires.is known low c.in_ok-smaller.smaller c.in_ok-smaller.ensures.some.0 c.in_ok-smaller.ensures.some.1 c.index-from.result.now c.index-shape.result.now c.as_slice.result.now c.insertion.result c.index-from.ensures c.index-shape.ensures c.as_slice.ensures.value c.insertion.ensures.long

pub returns-in_err-lits-clause-none : goal.returns-in_err-lits-clause-none
returns-in_err-lits-clause-none c = λ _ P B h.
    let known = sort_known P B c.args.space.now c.args.clause.now c.index-shape.result.now c.args.sort c.from.result c.len.result h c.index-shape.ensures c.from.ensures (let e = c.len.ensures in let many : c.len.result ≡ length c.index-shape.result.now.counts.items = omega (arith, e) in many) c.if-from-len.false in
    let low = number_low P B c.args.space.now c.args.clause.now c.index-shape.result.now c.args.sort c.from-2.result c.index.result.now c.args.number h c.index-shape.ensures known c.from-2.ensures c.index.ensures c.if-number-index.false in
    never_without P B c.args.space.now c.args.clause.now c.args.sort c.args.number h known low c.in_ok-smaller.smaller c.in_ok-smaller.ensures.some.0 c.in_ok-smaller.ensures.some.1 c.index-from.result.now c.index-shape.result.now c.as_slice.result.now c.insertion.result c.len-types.result c.index-from.ensures c.index-shape.ensures c.as_slice.ensures.value (types_read c.args.space.now c.args.clause.now c.index-shape.result.now c.len-types.result h.shape c.index-shape.ensures (let e = c.len-types.ensures in let many : c.len-types.result ≡ length c.index-shape.result.now.counts.items = omega (arith, e) in many)) (record { long = c.insertion.ensures.long; later = c.insertion.ensures.later; others = c.insertion.ensures.others }) (c.preimages.ensures.none c.in_err-lits.was)

pub returns-clause-part : goal.returns-clause-part
returns-clause-part c = λ P B h.
    let known = sort_known P B c.args.space.now c.args.clause.now c.index-shape.result.now c.args.sort c.from.result c.len.result h c.index-shape.ensures c.from.ensures (let e = c.len.ensures in let many : c.len.result ≡ length c.index-shape.result.now.counts.items = omega (arith, e) in many) c.if-from-len.false in
    let low = number_low P B c.args.space.now c.args.clause.now c.index-shape.result.now c.args.sort c.from-2.result c.index.result.now c.args.number h c.index-shape.ensures known c.from-2.ensures c.index.ensures c.if-number-index.false in
    without P B c.args.space.now c.args.clause.now c.args.sort c.args.number h known low c.in_ok-smaller.smaller c.in_ok-smaller.ensures.some.0 c.in_ok-smaller.ensures.some.1 c.index-from.result.now c.index-shape.result.now c.as_slice.result.now c.insertion.result c.len-types.result c.index-from.ensures c.index-shape.ensures c.as_slice.ensures.value (types_read c.args.space.now c.args.clause.now c.index-shape.result.now c.len-types.result h.shape c.index-shape.ensures (let e = c.len-types.ensures in let many : c.len-types.result ≡ length c.index-shape.result.now.counts.items = omega (arith, e) in many)) (record { long = c.insertion.ensures.long; later = c.insertion.ensures.later; others = c.insertion.ensures.others }) (record { shape = c.in_ok-smaller.smaller; lits = c.in_ok-lits.lits }) refl c.in_ok-lits.ensures.some
