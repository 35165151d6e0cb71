use Rattle.std.proofs.Common.{◌≡◌, ◌≤◌, ◌<◌, ◌+◌, ◌^◌, ℕ, List, map, length, get_or, sym, ◌∙◌, ap, subst, arith}
use Rattle.std.specs.Prelude.{max, slice_index, sum_by}
use Rattle.dai_model.specs.Limits.{product, tuples_at}
use Rattle.dai_logic.specs.declared.protocol.RelInfo.{RelInfo}
use Rattle.dai_logic.specs.Parts.{relation_of}
use Rattle.dai_query.proofs.Profile.{few_relations, few_arguments, arguments_inside}
use Rattle.dai_model.proofs.Folds.{sum_step, sum_end, sum_by-map, total_more, total_within}
use Rattle.dai_query.proofs.limits.tuples_of_all.Goals as goal

pub loop-relation-init : goal.loop-relation-init
loop-relation-init c = record {
  whole =
      let zero_left : 0 + sum_by (λ (r : RelInfo). tuples_at (map (λ (n : ℕ). max n c.args.size) c.args.bounds.now) (relation_of r)) c.deref-relation-items.result.now ≡ sum_by (λ (r : RelInfo). tuples_at (map (λ (n : ℕ). max n c.args.size) c.args.bounds.now) (relation_of r)) c.deref-relation-items.result.now = omega arith in
      zero_left ∙ (ap (sum_by (λ (r : RelInfo). tuples_at (map (λ (n : ℕ). max n c.args.size) c.args.bounds.now) (relation_of r))) c.deref-relation-items.ensures.value ∙ sym (sum_by-map (tuples_at (map (λ (n : ℕ). max n c.args.size) c.args.bounds.now)) relation_of c.args.protocol.now.relations.items));
  fits = omega arith;
}

pub tuples-total-requires : goal.tuples-total-requires
tuples-total-requires c =
    let below = subst (λ (xs : List RelInfo). c.loop-relation.relation-index < length xs) c.deref-relation-items.ensures.value c.loop-relation-test.true in
    let is = subst (λ (xs : List RelInfo). c.relation-item.result ≡ get_or xs c.loop-relation.relation-index c.relation-item.result) c.deref-relation-items.ensures.value c.relation-item.is in
    record { few = subst (λ (xs : List ℕ). length xs ≤ 5) (sym c.deref.ensures.value) (few_arguments c.args.protocol.now c.loop-relation.relation-index c.relation-item.result below is); inside = λ k d h. let inside = arguments_inside c.args.protocol.now c.loop-relation.relation-index c.relation-item.result k d below is (subst (λ (xs : List ℕ). k < length xs) c.deref.ensures.value h) in let same = c.requires in subst (λ (xs : List ℕ). get_or xs k d < length c.args.bounds.now) (sym c.deref.ensures.value) (omega (arith, inside, same)) }

pub overflow_add-total : goal.overflow_add-total
overflow_add-total c =
    let few = few_relations c.args.protocol.now in
    let below = subst (λ (xs : List RelInfo). c.loop-relation.relation-index < length xs) c.deref-relation-items.ensures.value c.loop-relation-test.true in
    let within = total_within c.loop-relation.relation-index 64 c.loop-relation.total (2 ^ 80) (omega (arith, few, below)) c.loop-relation.invariant.fits in
    let here = c.tuples-total.ensures.fits in
    omega (arith, within, here)

pub loop-relation-preserved : goal.loop-relation-preserved
loop-relation-preserved c = record {
  whole = sum_step (λ (r : RelInfo). tuples_at (map (λ (n : ℕ). max n c.args.size) c.args.bounds.now) (relation_of r)) c.deref-relation-items.result.now c.loop-relation.relation-index c.relation-item.result c.loop-relation.total c.tuples-total.result _ c.loop-relation-test.true c.relation-item.is (c.tuples-total.ensures.count ∙ ap (λ (xs : List ℕ). product (map (slice_index (map (λ (n : ℕ). max n c.args.size) c.args.bounds.now)) xs)) c.deref.ensures.value) c.loop-relation.invariant.whole;
  fits = total_more c.loop-relation.relation-index c.loop-relation.total c.tuples-total.result (2 ^ 80) c.loop-relation.invariant.fits c.tuples-total.ensures.fits;
}

pub returns : goal.returns
returns c = record {
  count = sum_end (λ (r : RelInfo). tuples_at (map (λ (n : ℕ). max n c.args.size) c.args.bounds.now) (relation_of r)) c.deref-relation-items.result.now c.loop-relation.relation-index c.loop-relation.total _ c.loop-relation-test.false c.loop-relation.invariant.whole;
  fits =
      let few = few_relations c.args.protocol.now in
      let most = subst (λ (xs : List RelInfo). c.loop-relation.relation-index ≤ length xs) c.deref-relation-items.ensures.value (omega arith) in
      total_within c.loop-relation.relation-index 64 c.loop-relation.total (2 ^ 80) (omega (arith, few, most)) c.loop-relation.invariant.fits;
}
