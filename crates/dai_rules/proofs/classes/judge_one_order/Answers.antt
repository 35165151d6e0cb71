use Rattle.std.proofs.Common.{◌∙◌, ap, slice_index, get_or, false}
use Rattle.dai_rules.specs.Classes.{fault_if}
use Rattle.dai_rules.specs.First.{noting_all}
use Rattle.dai_rules.proofs.ClassLemmas.{label_below}
use Rattle.dai_rules.proofs.classes.judge_one_order.Goals as goal

pub returns : goal.returns
returns c = λ w h.
    let below = label_below c.args.labels.now c.args.ordering.now.variable c.requires.labels c.requires.within in
    c.note_if.ensures ∙ ap (λ b. noting_all c.args.first.now (fault_if b 26 c.args.ordering.now.at)) (c.is_marked-broken.ensures ∙ ap (λ l. get_or c.args.marks.now l false) c.label_of.ensures ∙ h.each (slice_index c.args.labels.now c.args.ordering.now.variable) false below)
