use Rattle.std.proofs.Common.{[], ◌∷◌, map, ◌∙◌, ap}
use Rattle.dai_logic.specs.Parts.{sort_of, relation_of, action_of}
use Rattle.dai_logic.specs.Trees.{statements_of}
use Rattle.dai_query.proofs.Marked.{marks_stand}
use Rattle.dai_query.proofs.tests.marks.Goals as goal

pub invariant_of-result : goal.invariant_of-result
invariant_of-result c = record {
  accepted =
      ∣ marks_stand c.in_ok-sorts.sorts.items c.in_ok-relations.relations.items c.new-4.result.items c.new-5.result.items (record { params = c.new.result; locals = c.new-2.result; code = c.new-3.result }) c.in_ok-actions.actions.items c.new-6.result.items
      (ap (map sort_of) c.in_ok-sorts.ensures.items ∙ (λ i. c.in_ok-sort.ensures i ∷ c.in_ok-sort-2.ensures i ∷ []))
      (ap (map relation_of) c.in_ok-relations.ensures.items ∙ (λ i. c.in_ok-relation.ensures i ∷ c.in_ok-relation-2.ensures i ∷ []))
      c.new-4.ensures.items c.new-5.ensures.items
      (λ i. record { parameters = c.new.ensures.items i; choices = c.new-2.ensures.items i; code = ap statements_of c.new-3.ensures.items i })
      (ap (map action_of) c.in_ok-actions.ensures.items ∙ (λ i. c.in_ok-look.ensures i ∷ []))
      c.new-6.ensures.items ∣₁;
}
