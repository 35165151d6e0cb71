use Rattle.std.proofs.Common.{◌≡◌, ℕ, List, ◌<◌, [], length, get_or, map, sym, ap, ◌∙◌, subst, arith, Vec}
use Rattle.std.proofs.lemmas.List.{get_or-map}
use Rattle.dai_logic.specs.Strides.{counts_of, AreNumbered}
use Rattle.dai_logic.specs.Protocols.{protocol_of, arguments_in}
use Rattle.dai_logic.proofs.Strides.{pushed_more}
use Rattle.std.specs.declared.alloc.Global.{Global}
use Rattle.dai_model.specs.Protocol as Model
use Rattle.dai_logic.specs.declared.protocol.RelInfo.{RelInfo}
use Rattle.dai_logic.specs.Parts.{relation_of}
use Rattle.dai_logic.proofs.Writing.{mapped_below}
use Rattle.dai_logic.proofs.layout.Layout.of.Goals as goal

arguments_at : (relations : List RelInfo) (k : ℕ) (x : RelInfo) → k < length relations → x ≡ get_or relations k x → get_or (map (λ (R : Model.Relation). R.arguments) (map relation_of relations)) k [] ≡ x.args.items
arguments_at relations k x below is =
    get_or-map (λ (R : Model.Relation). R.arguments) (map relation_of relations) k (relation_of x) [] (mapped_below relation_of relations k below)
    ∙ (ap (λ (R : Model.Relation). R.arguments) (get_or-map relation_of relations k x (relation_of x) below) ∙ ap (λ (y : RelInfo). y.args.items) (sym is))

arguments_inside : (relations : List RelInfo) (k : ℕ) → k < length relations → k < length (map (λ (R : Model.Relation). R.arguments) (map relation_of relations))
arguments_inside relations k below = mapped_below (λ (R : Model.Relation). R.arguments) (map relation_of relations) k (mapped_below relation_of relations k below)

pub count_each-requires : goal.count_each-requires
count_each-requires c =
    subst (AreNumbered c.args.sizes.now) (sym (c.as_slice-arguments.ensures.value ∙ sym (arguments_at c.args.protocol.now.relations.items c.loop-relation.relation-index c.relation-item.result (let here = c.loop-relation-test.true in let same = ap length c.deref-relation-items.ensures.value in let below : c.loop-relation.relation-index < length c.args.protocol.now.relations.items = omega arith in below) (c.relation-item.is ∙ ap (λ rs. get_or rs c.loop-relation.relation-index c.relation-item.result) c.deref-relation-items.ensures.value)))) (c.requires c.loop-relation.relation-index [] (arguments_inside c.args.protocol.now.relations.items c.loop-relation.relation-index (let here = c.loop-relation-test.true in let same = ap length c.deref-relation-items.ensures.value in let below : c.loop-relation.relation-index < length c.args.protocol.now.relations.items = omega arith in below)))

pub loop-relation-preserved : goal.loop-relation-preserved
loop-relation-preserved c =
    record {
      sorts = pushed_more (λ (row : Vec ℕ Global). row.items) c.loop-relation.sorts.items c.push.new.self.items (arguments_in (protocol_of c.args.protocol.now)) c.in_ok-from_slice.field-0 c.loop-relation.relation-index c.loop-relation.invariant.sorts (arguments_inside c.args.protocol.now.relations.items c.loop-relation.relation-index (let here = c.loop-relation-test.true in let same = ap length c.deref-relation-items.ensures.value in let below : c.loop-relation.relation-index < length c.args.protocol.now.relations.items = omega arith in below)) c.in_ok-push.ensures.items (c.in_ok-from_slice.ensures.items ∙ (c.as_slice-arguments.ensures.value ∙ sym (arguments_at c.args.protocol.now.relations.items c.loop-relation.relation-index c.relation-item.result (let here = c.loop-relation-test.true in let same = ap length c.deref-relation-items.ensures.value in let below : c.loop-relation.relation-index < length c.args.protocol.now.relations.items = omega arith in below) (c.relation-item.is ∙ ap (λ rs. get_or rs c.loop-relation.relation-index c.relation-item.result) c.deref-relation-items.ensures.value))));
      counts = pushed_more (λ (row : Vec ℕ Global). row.items) c.loop-relation.counts.items c.push-in-loop-relation.new.self.items (map (counts_of c.args.sizes.now) (arguments_in (protocol_of c.args.protocol.now))) c.in_ok-count_each.field-0 c.loop-relation.relation-index c.loop-relation.invariant.counts (mapped_below (counts_of c.args.sizes.now) (arguments_in (protocol_of c.args.protocol.now)) c.loop-relation.relation-index (arguments_inside c.args.protocol.now.relations.items c.loop-relation.relation-index (let here = c.loop-relation-test.true in let same = ap length c.deref-relation-items.ensures.value in let below : c.loop-relation.relation-index < length c.args.protocol.now.relations.items = omega arith in below))) c.in_ok-push-2.ensures.items (c.in_ok-count_each.ensures ∙ (ap (counts_of c.args.sizes.now) (c.as_slice-arguments.ensures.value ∙ sym (arguments_at c.args.protocol.now.relations.items c.loop-relation.relation-index c.relation-item.result (let here = c.loop-relation-test.true in let same = ap length c.deref-relation-items.ensures.value in let below : c.loop-relation.relation-index < length c.args.protocol.now.relations.items = omega arith in below) (c.relation-item.is ∙ ap (λ rs. get_or rs c.loop-relation.relation-index c.relation-item.result) c.deref-relation-items.ensures.value))) ∙ sym (get_or-map (counts_of c.args.sizes.now) (arguments_in (protocol_of c.args.protocol.now)) c.loop-relation.relation-index [] [] (arguments_inside c.args.protocol.now.relations.items c.loop-relation.relation-index (let here = c.loop-relation-test.true in let same = ap length c.deref-relation-items.ensures.value in let below : c.loop-relation.relation-index < length c.args.protocol.now.relations.items = omega arith in below)))));
    }
