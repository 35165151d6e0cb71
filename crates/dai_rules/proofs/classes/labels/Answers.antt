use Rattle.std.proofs.Common.{◌+◌, ◌∙◌, ap, sym, subst, map, drop, length}
use Rattle.std.proofs.lemmas.List.{with_items_is}
use Rattle.dai_rules.specs.Classes.{after_use, after_uses}
use Rattle.dai_rules.specs.Labels.{AreLabels}
use Rattle.dai_rules.specs.Views.{use_of}
use Rattle.dai_rules.proofs.Lists.{drop_at}
use Rattle.dai_rules.proofs.ClassLemmas.{own_labels_below, length-numbers_from, after_use_below, length-after_use}
use Rattle.dai_rules.proofs.classes.labels.Goals as goal

pub loop-item-init : goal.loop-item-init
loop-item-init c =
    let e = c.in_ok-labels.ensures in
    record {
      value = ap (λ ls. after_uses ls (map use_of c.args.uses.now)) e;
      within = subst (AreLabels c.args.count) (sym e) (own_labels_below c.args.count);
      len = ap length e ∙ length-numbers_from 0 c.args.count;
    }

pub loop-item-preserved : goal.loop-item-preserved
loop-item-preserved c =
    let i = c.loop-item.item-index in
    let uses = c.args.uses.now in
    let u = use_of c.item-item.result in
    let old = c.loop-item.labels in
    let new = c.follow.new.labels in
    let h = c.loop-item.invariant in
    let is = with_items_is old new (ap length c.follow.ensures ∙ length-after_use c.deref_mut.result.now u ∙ c.deref_mut.ensures.len) ∙ c.follow.ensures ∙ ap (λ ls. after_use ls u) c.deref_mut.ensures.value in
    record {
      value =
          ap (λ ls. after_uses ls (map use_of (drop (i + 1) uses))) is
          ∙ ap (λ us. after_uses old.items (map use_of us)) (sym (drop_at uses i c.item-item.result c.loop-item-test.true c.item-item.is))
          ∙ h.value;
      within = subst (AreLabels c.args.count) (sym is) (after_use_below c.args.count old.items u h.within);
      len = ap length is ∙ length-after_use old.items u ∙ h.len;
    }
