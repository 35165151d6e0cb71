use Rattle.std.proofs.Common.{rules, ◌+◌, drop, map, ◌<◌, ◌≡◌, ap, ◌∙◌, subst, arith, List, length, get_or}
use Rattle.std.specs.Prelude.{max}
use Rattle.dai_model.specs.Sizes.{greatest, invariant_count}
use Rattle.dai_logic.specs.declared.protocol.Invariant.{Invariant}
use Rattle.dai_logic.specs.Parts.{invariant_of}
use Rattle.dai_query.proofs.Profile.{invariant_universal}
use Rattle.dai_query.proofs.Most.{most_step, most_end, invariants_begin}
use Rattle.dai_query.proofs.sizes.in_an_invariant.Goals as goal

pub loop-invariant-init : goal.loop-invariant-init
loop-invariant-init c = record {
  whole = invariants_begin c.args.protocol.now c.args.sort c.deref-invariant-items.result.now c.deref-invariant-items.ensures.value;
  few = omega arith;
}

pub in_invariant-requires : goal.in_invariant-requires
in_invariant-requires c =
    let below = subst (λ (xs : List Invariant). c.loop-invariant.invariant-index < length xs) c.deref-invariant-items.ensures.value c.loop-invariant-test.true in
    let is = subst (λ (xs : List Invariant). c.invariant-item.result ≡ get_or xs c.loop-invariant.invariant-index c.invariant-item.result) c.deref-invariant-items.ensures.value c.invariant-item.is in
    invariant_universal c.args.protocol.now c.loop-invariant.invariant-index c.invariant-item.result below is

pub loop-invariant-preserved : goal.loop-invariant-preserved
loop-invariant-preserved c =
    let greater : c.max-most.result ≡ max c.loop-invariant.most c.in_invariant.result = search rules in
    record {
      whole = ap (λ n. max n (greatest (map (λ (x : Invariant). invariant_count c.args.sort (invariant_of x)) (drop (c.loop-invariant.invariant-index + 1) c.deref-invariant-items.result.now)))) greater ∙ most_step (λ (f : Invariant). invariant_count c.args.sort (invariant_of f)) c.deref-invariant-items.result.now c.loop-invariant.invariant-index c.invariant-item.result c.loop-invariant.most c.in_invariant.result _ c.loop-invariant-test.true c.invariant-item.is c.in_invariant.ensures.count c.loop-invariant.invariant.whole;
      few = let a = c.loop-invariant.invariant.few in let b = c.in_invariant.ensures.few in omega (arith, a, b, greater);
    }

pub returns : goal.returns
returns c = record {
  most = most_end (λ (f : Invariant). invariant_count c.args.sort (invariant_of f)) c.deref-invariant-items.result.now c.loop-invariant.invariant-index c.loop-invariant.most _ c.loop-invariant-test.false c.loop-invariant.invariant.whole;
  few = c.loop-invariant.invariant.few;
}
