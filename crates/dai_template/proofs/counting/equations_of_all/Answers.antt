use Rattle.std.proofs.Common.{◌≡◌, ◌≤◌, ◌<◌, ◌^◌, List, length, get_or, subst, arith}
use Rattle.dai_logic.specs.declared.protocol.IndInfo.{IndInfo}
use Rattle.dai_model.proofs.Folds.{total_within}
use Rattle.dai_template.proofs.Accepted.{few_individuals, individual_inside}
use Rattle.dai_template.proofs.counting.equations_of_all.Goals as goal

pub count_at-total-requires : goal.count_at-total-requires
count_at-total-requires c =
    let below = subst (λ (xs : List IndInfo). c.loop-individual.individual-index < length xs) c.deref-individual-items.ensures.value c.loop-individual-test.true in
    let is = subst (λ (xs : List IndInfo). c.individual-item.result ≡ get_or xs c.loop-individual.individual-index c.individual-item.result) c.deref-individual-items.ensures.value c.individual-item.is in
    let inside = individual_inside c.args.protocol.now c.loop-individual.individual-index c.individual-item.result below is in
    let same = c.requires in
    omega (arith, inside, same)

pub overflow_add-total : goal.overflow_add-total
overflow_add-total c =
    let few = few_individuals c.args.protocol.now in
    let below = subst (λ (xs : List IndInfo). c.loop-individual.individual-index < length xs) c.deref-individual-items.ensures.value c.loop-individual-test.true in
    let within = total_within c.loop-individual.individual-index 16 c.loop-individual.total (2 ^ 8) (omega (arith, few, below)) c.loop-individual.invariant.fits in
    let here = c.count_at-total.ensures.fits in
    omega (arith, within, here)

pub returns-clause-fits : goal.returns-clause-fits
returns-clause-fits c =
    let few = few_individuals c.args.protocol.now in
    let most = subst (λ (xs : List IndInfo). c.loop-individual.individual-index ≤ length xs) c.deref-individual-items.ensures.value (omega arith) in
    total_within c.loop-individual.individual-index 16 c.loop-individual.total (2 ^ 8) (omega (arith, few, most)) c.loop-individual.invariant.fits
