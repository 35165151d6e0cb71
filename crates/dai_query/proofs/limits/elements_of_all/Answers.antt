use Rattle.std.proofs.Common.{◌≡◌, ◌≤◌, ◌<◌, ◌+◌, ◌^◌, ℕ, List, map, length, get_or, sym, ◌∙◌, ap, subst, arith}
use Rattle.std.specs.Prelude.{max, slice_index, sum_by}
use Rattle.dai_model.specs.Protocol as Model
use Rattle.dai_logic.specs.declared.protocol.IndInfo.{IndInfo}
use Rattle.dai_logic.specs.Parts.{individual_of}
use Rattle.dai_query.proofs.Profile.{few_individuals, individual_inside}
use Rattle.dai_model.proofs.Folds.{sum_step, sum_end, sum_by-map, total_more, total_within}
use Rattle.dai_query.proofs.limits.elements_of_all.Goals as goal

pub loop-individual-init : goal.loop-individual-init
loop-individual-init c = record {
  whole =
      let zero_left : 0 + sum_by (λ (x : IndInfo). slice_index (map (λ (n : ℕ). max n c.args.size) c.args.bounds.now) x.sort) c.deref-individual-items.result.now ≡ sum_by (λ (x : IndInfo). slice_index (map (λ (n : ℕ). max n c.args.size) c.args.bounds.now) x.sort) c.deref-individual-items.result.now = omega arith in
      zero_left ∙ (ap (sum_by (λ (x : IndInfo). slice_index (map (λ (n : ℕ). max n c.args.size) c.args.bounds.now) x.sort)) c.deref-individual-items.ensures.value ∙ sym (sum_by-map (λ (I : Model.Individual). slice_index (map (λ (n : ℕ). max n c.args.size) c.args.bounds.now) I.sort) individual_of c.args.protocol.now.individuals.items));
  fits = omega arith;
}

pub size_at-total-requires : goal.size_at-total-requires
size_at-total-requires c =
    let below = subst (λ (xs : List IndInfo). c.loop-individual.individual-index < length xs) c.deref-individual-items.ensures.value c.loop-individual-test.true in
    let is = subst (λ (xs : List IndInfo). c.individual-item.result ≡ get_or xs c.loop-individual.individual-index c.individual-item.result) c.deref-individual-items.ensures.value c.individual-item.is in
    let inside = individual_inside c.args.protocol.now c.loop-individual.individual-index c.individual-item.result below is in
    let same = c.requires in
    omega (arith, inside, same)

pub overflow_add-total : goal.overflow_add-total
overflow_add-total c =
    let few = few_individuals c.args.protocol.now in
    let below = subst (λ (xs : List IndInfo). c.loop-individual.individual-index < length xs) c.deref-individual-items.ensures.value c.loop-individual-test.true in
    let within = total_within c.loop-individual.individual-index 16 c.loop-individual.total (2 ^ 16) (omega (arith, few, below)) c.loop-individual.invariant.fits in
    let here = c.size_at-total.ensures.fits in
    omega (arith, within, here)

pub loop-individual-preserved : goal.loop-individual-preserved
loop-individual-preserved c = record {
  whole = sum_step (λ (x : IndInfo). slice_index (map (λ (n : ℕ). max n c.args.size) c.args.bounds.now) x.sort) c.deref-individual-items.result.now c.loop-individual.individual-index c.individual-item.result c.loop-individual.total c.size_at-total.result _ c.loop-individual-test.true c.individual-item.is c.size_at-total.ensures.is c.loop-individual.invariant.whole;
  fits = total_more c.loop-individual.individual-index c.loop-individual.total c.size_at-total.result (2 ^ 16) c.loop-individual.invariant.fits (let h = c.size_at-total.ensures.fits in omega (arith, h));
}

pub returns : goal.returns
returns c = record {
  count = sum_end (λ (x : IndInfo). slice_index (map (λ (n : ℕ). max n c.args.size) c.args.bounds.now) x.sort) c.deref-individual-items.result.now c.loop-individual.individual-index c.loop-individual.total _ c.loop-individual-test.false c.loop-individual.invariant.whole;
  fits =
      let few = few_individuals c.args.protocol.now in
      let most = subst (λ (xs : List IndInfo). c.loop-individual.individual-index ≤ length xs) c.deref-individual-items.ensures.value (omega arith) in
      total_within c.loop-individual.individual-index 16 c.loop-individual.total (2 ^ 16) (omega (arith, few, most)) c.loop-individual.invariant.fits;
}
