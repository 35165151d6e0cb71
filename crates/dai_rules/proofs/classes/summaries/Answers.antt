use Rattle.std.proofs.Common.{◌+◌, ◌∙◌, ap, sym, subst, map, take, length}
use Rattle.std.proofs.lemmas.List.{with_items_is}
use Rattle.dai_rules.specs.Labels.{AreSummaries}
use Rattle.dai_rules.specs.Views.{use_of}
use Rattle.dai_rules.proofs.Lists.{map-take_more}
use Rattle.dai_rules.proofs.classes.summaries.Goals as goal

pub loop-item-preserved : goal.loop-item-preserved
loop-item-preserved c =
    let i = c.loop-item.item-index in
    let uses = c.args.uses.now in
    let labels = c.args.labels.now in
    let old = c.loop-item.summaries in
    let new = c.add_use.new.summaries in
    let h = c.loop-item.invariant in
    let added = c.add_use.ensures (map use_of (take i uses)) c.requires (subst (AreSummaries labels (map use_of (take i uses))) (sym c.deref_mut.ensures.value) h) in
    let is = with_items_is old new (added.count ∙ sym h.count ∙ sym (ap length c.deref_mut.ensures.value) ∙ c.deref_mut.ensures.len) in
    subst (AreSummaries labels (map use_of (take (i + 1) uses))) (sym is)
    (subst (λ us. AreSummaries labels us new) (sym (map-take_more use_of uses i c.item-item.result c.loop-item-test.true c.item-item.is)) added)
