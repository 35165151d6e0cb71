use Rattle.std.proofs.Common.{◌∙◌, ◌++◌, ◌∷◌, [], ap, sym}
use Rattle.dai_rules.proofs.ClassLemmas.{numbers_from-snoc}
use Rattle.dai_rules.proofs.classes.own_labels.Goals as goal

pub loop-variable-preserved : goal.loop-variable-preserved
loop-variable-preserved c = c.in_ok-push.ensures.items ∙ ap (λ ks. ks ++ c.loop-variable.variable ∷ []) c.loop-variable.invariant ∙ sym (numbers_from-snoc c.loop-variable.variable)
