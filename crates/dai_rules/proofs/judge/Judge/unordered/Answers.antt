use Rattle.std.proofs.Common.{◌+◌, ◌∙◌, ap, sym, subst, map, take, length}
use Rattle.std.proofs.lemmas.List.{with_items_is}
use Rattle.dai_rules.specs.Labels.{AreUnordered}
use Rattle.dai_rules.specs.Views.{context_of, use_of}
use Rattle.dai_rules.proofs.Lists.{map-take_more}
use Rattle.dai_rules.proofs.judge.Judge.unordered.Goals as goal

pub loop-item-preserved : goal.loop-item-preserved
loop-item-preserved c =
    let i = c.loop-item.item-index in
    let uses = c.deref-item-items.result.now in
    let ds = (context_of c.args.self.now).declarations in
    let labels = c.args.labels.now in
    let old = c.loop-item.marks in
    let new = c.mark_use.new.marks in
    let h = c.loop-item.invariant in
    let added = c.mark_use.ensures (map use_of (take i uses)) (subst (AreUnordered ds labels (map use_of (take i uses))) (sym c.deref_mut.ensures.value) h) in
    let is = with_items_is old new (added.count ∙ sym h.count ∙ sym (ap length c.deref_mut.ensures.value) ∙ c.deref_mut.ensures.len) in
    subst (AreUnordered ds labels (map use_of (take (i + 1) uses))) (sym is)
    (subst (λ us. AreUnordered ds labels us new) (sym (map-take_more use_of uses i c.item-item.result c.loop-item-test.true c.item-item.is)) added)
