use Rattle.std.proofs.Common.{◌≡◌, ◌≤◌, ◌<◌, ◌^◌, ℕ, List, length, get_or, sym, subst, arith}
use Rattle.dai_logic.specs.declared.protocol.RelInfo.{RelInfo}
use Rattle.dai_model.proofs.Folds.{total_within}
use Rattle.dai_template.proofs.Accepted.{few_relations, few_arguments, arguments_inside}
use Rattle.dai_template.proofs.counting.tuples_of_all.Goals as goal

pub tuples-total-requires : goal.tuples-total-requires
tuples-total-requires c =
    let below = subst (λ (xs : List RelInfo). c.loop-relation.relation-index < length xs) c.deref-relation-items.ensures.value c.loop-relation-test.true in
    let is = subst (λ (xs : List RelInfo). c.relation-item.result ≡ get_or xs c.loop-relation.relation-index c.relation-item.result) c.deref-relation-items.ensures.value c.relation-item.is in
    record { few = subst (λ (xs : List ℕ). length xs ≤ 5) (sym c.deref.ensures.value) (few_arguments c.args.protocol.now c.loop-relation.relation-index c.relation-item.result below is); inside = λ k d h. let inside = arguments_inside c.args.protocol.now c.loop-relation.relation-index c.relation-item.result k d below is (subst (λ (xs : List ℕ). k < length xs) c.deref.ensures.value h) in let same = c.requires in subst (λ (xs : List ℕ). get_or xs k d < length c.args.counts.now) (sym c.deref.ensures.value) (omega (arith, inside, same)) }

pub overflow_add-total : goal.overflow_add-total
overflow_add-total c =
    let few = few_relations c.args.protocol.now in
    let below = subst (λ (xs : List RelInfo). c.loop-relation.relation-index < length xs) c.deref-relation-items.ensures.value c.loop-relation-test.true in
    let within = total_within c.loop-relation.relation-index 64 c.loop-relation.total (2 ^ 40) (omega (arith, few, below)) c.loop-relation.invariant.fits in
    let here = c.tuples-total.ensures.fits in
    omega (arith, within, here)

pub returns-clause-fits : goal.returns-clause-fits
returns-clause-fits c =
    let few = few_relations c.args.protocol.now in
    let most = subst (λ (xs : List RelInfo). c.loop-relation.relation-index ≤ length xs) c.deref-relation-items.ensures.value (omega arith) in
    total_within c.loop-relation.relation-index 64 c.loop-relation.total (2 ^ 40) (omega (arith, few, most)) c.loop-relation.invariant.fits
