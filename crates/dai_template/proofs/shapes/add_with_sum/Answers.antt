use Rattle.std.proofs.Common.{◌≡◌, ℕ, List, length, map, sym, ◌∙◌, ap, subst, arith, Vec, vec_len}
use Rattle.std.specs.List.{All}
use Rattle.std.specs.Prelude.{sum}
use Rattle.std.specs.declared.alloc.Global.{Global}
use Rattle.std.proofs.lemmas.List.Elements.{All-push}
use Rattle.dai_model.proofs.Folds.{mapped_at}
use Rattle.dai_logic.specs.Protocols.{protocol_of}
use Rattle.dai_template.specs.declared.clause.Shape.{Shape}
use Rattle.dai_template.specs.Atoms.{counts_of, lists_of, IsShape}
use Rattle.dai_template.proofs.Accepted.{few_sorts}
use Rattle.dai_template.proofs.Views.{list_at, lists_below}
use Rattle.dai_template.proofs.Listed.{listed, passed}
use Rattle.dai_template.proofs.shapes.add_with_sum.Goals as goal
use Rattle.dai_template.proofs.shapes.add_with_sum.Goals.{then-sum_of-variables+in_ok-shape_of+in_ok-push, else-sum_of-variables}

pub sum_of-requires : goal.sum_of-requires
sum_of-requires c =
    let e = ap length c.deref.ensures.value ∙ mapped_at (λ (counts : List ℕ). length counts ≡ vec_len c.args.protocol.now.sorts) (λ (v : Vec ℕ Global). v.items) c.args.ways.now c.loop-counts.counts-index c.counts-item.result c.requires c.loop-counts-test.true c.counts-item.is in
    let few = few_sorts c.args.protocol.now in
    omega (arith, e, few)

pub shape_of-requires-then-sum_of-variables : goal.shape_of-requires-then-sum_of-variables
shape_of-requires-then-sum_of-variables c =
    ap length c.deref-then-sum_of-variables.ensures.value ∙ mapped_at (λ (counts : List ℕ). length counts ≡ vec_len c.args.protocol.now.sorts) (λ (v : Vec ℕ Global). v.items) c.args.ways.now c.loop-counts.counts-index c.counts-item.result c.requires c.loop-counts-test.true c.counts-item.is

pub loop-counts-preserved : goal.loop-counts-preserved
loop-counts-preserved c =
    let ways = lists_of c.args.ways.now in
    let i = c.loop-counts.counts-index in
    let below = lists_below c.args.ways.now i c.loop-counts-test.true in
    let is = list_at c.args.ways.now i c.counts-item.result c.loop-counts-test.true c.counts-item.is in
    let total = c.sum_of.ensures.is ∙ ap sum c.deref.ensures.value in
    elim c.if-sum_of-variables.branch [
      | then-sum_of-variables+in_ok-shape_of+in_ok-push w ↦
          let pushed = ap (λ (v : Vec Shape Global). v.items) w.shapes-is ∙ w.in_ok-push.ensures.items in
          record {
            order = listed ways i c.args.variables c.sum_of.result c.counts-item.result.items (map counts_of c.args.shapes.now.items) c.loop-counts.shapes.items _ w.in_ok-shape_of.field-0 pushed below is (w.in_ok-shape_of.ensures.counts ∙ w.deref-then-sum_of-variables.ensures.value) total w.if-sum_of-variables.true c.loop-counts.invariant.order;
            atoms = λ h. subst (All (IsShape (protocol_of c.args.protocol.now))) (sym pushed) (All-push (IsShape (protocol_of c.args.protocol.now)) c.loop-counts.shapes.items w.in_ok-shape_of.field-0 (c.loop-counts.invariant.atoms h) w.in_ok-shape_of.ensures.atoms);
          }
      | else-sum_of-variables w ↦
          let same = ap (λ (v : Vec Shape Global). v.items) w.shapes-is in
          record {
            order = passed ways i c.args.variables c.sum_of.result c.counts-item.result.items (map counts_of c.args.shapes.now.items) c.loop-counts.shapes.items _ same below is total w.if-sum_of-variables.false c.loop-counts.invariant.order;
            atoms = λ h. subst (All (IsShape (protocol_of c.args.protocol.now))) (sym same) (c.loop-counts.invariant.atoms h);
          }
    ]
