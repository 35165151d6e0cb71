use Rattle.std.proofs.Common.{◌<◌, length, get_or, ap, ◌∙◌, arith}
use Rattle.dai_picture.proofs.Declared.{sort_more}
use Rattle.dai_picture.proofs.lengths.individual_sorts.Goals as goal

pub loop-individual-preserved : goal.loop-individual-preserved
loop-individual-preserved c =
    let same = ap length c.deref-individual-items.ensures.value in
    let here = c.loop-individual-test.true in
    let below : c.loop-individual.individual-index < length c.args.protocol.now.individuals.items = omega arith in
    sort_more c.args.protocol.now c.loop-individual.sorts.items c.push.new.self.items c.loop-individual.individual-index c.individual-item.result below
    (c.individual-item.is ∙ ap (λ rs. get_or rs c.loop-individual.individual-index c.individual-item.result) c.deref-individual-items.ensures.value)
    c.loop-individual.invariant c.in_ok-push.ensures.items
