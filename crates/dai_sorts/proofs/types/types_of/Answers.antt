use Rattle.std.proofs.Common.{◌≡◌, ◌∷◌, [], ◌∙◌, ap, sym, subst, map, length, get_or, arith, length-append}
use Rattle.std.specs.Prelude.{slice_index}
use Rattle.dai_rules.specs.Classes.{labels_of}
use Rattle.dai_rules.specs.Labels.{AreLabels, AreSummaries}
use Rattle.dai_rules.specs.Views.{context_of, view_of, naming_of, use_of}
use Rattle.dai_sorts.proofs.Wholes.{summary_of, has_class, class_type, text_of, more_types}
use Rattle.dai_sorts.proofs.types.types_of.Goals as goal

pub type_of-requires : goal.type_of-requires
type_of-requires c =
    let uses = (view_of c.args.judge.now).uses in
    let count = length (naming_of c.args.judge.now.naming).variables in
    let labels = c.in_ok-labels.labels.items in
    let v = c.loop-label.label-index in
    let s = c.index.result.now in
    let are : labels ≡ labels_of count uses = c.in_ok-labels.ensures.value ∙ (λ i. labels_of (c.count.ensures i) (map use_of (c.deref.ensures.value i))) in
    let len = c.in_ok-labels.ensures.len in
    let items = ap length c.deref-label-items.ensures.value in
    let size = c.count.ensures in
    let within : AreLabels (length labels) labels = subst (λ n. AreLabels n labels) (sym len) c.in_ok-labels.ensures.within in
    let summed : AreSummaries labels uses c.in_ok-summaries.summaries.items = subst (λ l. AreSummaries l uses c.in_ok-summaries.summaries.items) c.deref-2.ensures.value (subst (λ us. AreSummaries c.deref-2.result.now (map use_of us) c.in_ok-summaries.summaries.items) c.deref-3.ensures.value c.in_ok-summaries.ensures) in
    let is = summary_of labels uses c.in_ok-summaries.summaries.items v s summed within (omega arith) (c.index.ensures ∙ ap (λ l. get_or c.in_ok-summaries.summaries.items (slice_index l v) s) c.deref-label-items.ensures.value) in
    has_class count uses labels c.in_ok-summaries.summaries.items c.requires.within c.requires.typed are v (omega arith) s is

pub loop-label-preserved : goal.loop-label-preserved
loop-label-preserved c =
    let ds = (context_of c.args.reader.now.judge).declarations in
    let uses = (view_of c.args.judge.now).uses in
    let count = length (naming_of c.args.judge.now.naming).variables in
    let labels = c.in_ok-labels.labels.items in
    let v = c.loop-label.label-index in
    let s = c.index.result.now in
    let are : labels ≡ labels_of count uses = c.in_ok-labels.ensures.value ∙ (λ i. labels_of (c.count.ensures i) (map use_of (c.deref.ensures.value i))) in
    let len = c.in_ok-labels.ensures.len in
    let items = ap length c.deref-label-items.ensures.value in
    let size = c.count.ensures in
    let within : AreLabels (length labels) labels = subst (λ n. AreLabels n labels) (sym len) c.in_ok-labels.ensures.within in
    let summed : AreSummaries labels uses c.in_ok-summaries.summaries.items = subst (λ l. AreSummaries l uses c.in_ok-summaries.summaries.items) c.deref-2.ensures.value (subst (λ us. AreSummaries c.deref-2.result.now (map use_of us) c.in_ok-summaries.summaries.items) c.deref-3.ensures.value c.in_ok-summaries.ensures) in
    let is = summary_of labels uses c.in_ok-summaries.summaries.items v s summed within (omega arith) (c.index.ensures ∙ ap (λ l. get_or c.in_ok-summaries.summaries.items (slice_index l v) s) c.deref-label-items.ensures.value) in
    let t = text_of s (has_class count uses labels c.in_ok-summaries.summaries.items c.requires.within c.requires.typed are v (omega arith) s is) in
    let has = class_type count uses labels c.in_ok-summaries.summaries.items c.requires.within c.requires.typed are v (omega arith) s is t.0 t.1 in
    let old = c.loop-label.types.items in
    let longer = length-append old (c.type_of.result ∷ []) in
    let grown = ap length c.in_ok-push.ensures.items in
    record {
      count = let k = c.loop-label.invariant.count in omega arith;
      each = more_types ds uses old c.push.new.self.items v c.type_of.result t.0 c.in_ok-push.ensures.items c.loop-label.invariant.count has (c.type_of.ensures t.0 t.1) c.loop-label.invariant.each;
    }

pub returns : goal.returns
returns c =
    let labels = c.in_ok-labels.labels.items in
    let len = c.in_ok-labels.ensures.len in
    let items = ap length c.deref-label-items.ensures.value in
    let size = c.count.ensures in
    let k = c.loop-label.invariant.count in
    record {
      count = omega arith;
      each = λ v below. let w = c.loop-label.invariant.each v (omega arith) in (w.type, w.has, w.number);
    }
