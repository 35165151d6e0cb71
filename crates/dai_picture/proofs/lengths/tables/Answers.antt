use Rattle.std.proofs.Common.{◌<◌, ℕ, List, length, get_or, sym, ap, ◌∙◌, subst, arith}
use Rattle.std.specs.List.{All}
use Rattle.dai_logic.specs.Counts.{tuple_count}
use Rattle.dai_picture.proofs.Declared.{relation_declared, table_more}
use Rattle.dai_picture.proofs.lengths.tables.Goals as goal

pub count_tuples-requires : goal.count_tuples-requires
count_tuples-requires c =
    let same = ap length c.deref-relation-items.ensures.value in
    let here = c.loop-relation-test.true in
    let below : c.loop-relation.relation-index < length c.args.protocol.now.relations.items = omega arith in
    let declared = relation_declared c.args.protocol.now c.loop-relation.relation-index c.relation-item.result below (c.relation-item.is ∙ ap (λ rs. get_or rs c.loop-relation.relation-index c.relation-item.result) c.deref-relation-items.ensures.value) in
    subst (λ (xs : List ℕ). All (λ sort. sort < length c.args.slots.now) xs) (sym c.as_slice.ensures.value)
    (subst (λ (n : ℕ). All (λ sort. sort < n) c.relation-item.result.args.items) (sym c.requires) declared)

pub loop-relation-preserved : goal.loop-relation-preserved
loop-relation-preserved c =
    let same = ap length c.deref-relation-items.ensures.value in
    let here = c.loop-relation-test.true in
    let below : c.loop-relation.relation-index < length c.args.protocol.now.relations.items = omega arith in
    table_more c.args.protocol.now c.args.slots.now c.loop-relation.lengths.items c.push.new.self.items c.loop-relation.relation-index c.in-Some.count c.relation-item.result below
    (c.relation-item.is ∙ ap (λ rs. get_or rs c.loop-relation.relation-index c.relation-item.result) c.deref-relation-items.ensures.value)
    (c.in-Some.ensures ∙ ap (tuple_count c.args.slots.now) c.as_slice.ensures.value)
    c.loop-relation.invariant c.in_ok-push.ensures.items
