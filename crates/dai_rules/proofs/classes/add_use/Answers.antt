use Rattle.std.proofs.Common.{◌++◌, ◌∷◌, [], sym, subst}
use Rattle.dai_rules.specs.Labels.{AddsType, AreSummaries}
use Rattle.dai_rules.specs.Views.{use_of}
use Rattle.dai_rules.proofs.ClassLemmas.{summaries_linked, summaries_typed}
use Rattle.dai_rules.proofs.classes.add_use.Goals as goal

pub returns-in-Typed : goal.returns-in-Typed
returns-in-Typed c = λ uses below h.
    let old = c.args.summaries.now in
    let new = c.add_type.new.summaries in
    let labels = c.args.labels.now in
    let t = c.in-Typed.sort.now.text in
    subst (λ u. AreSummaries labels (uses ++ use_of u ∷ []) new) (sym c.in-Typed.is)
    (summaries_typed labels uses c.in-Typed.variable t old new (subst (λ l. AddsType l t old new) c.label_of.ensures c.add_type.ensures) h)

pub returns-in-Linked : goal.returns-in-Linked
returns-in-Linked c = λ uses below h.
    subst (λ u. AreSummaries c.args.labels.now (uses ++ use_of u ∷ []) c.args.summaries.now) (sym c.in-Linked.is) (summaries_linked c.args.labels.now uses c.in-Linked.left c.in-Linked.right c.args.summaries.now h)
