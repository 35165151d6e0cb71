use Rattle.std.proofs.Common.{◌≡◌, map, drop, length}
use Rattle.dai_rules.specs.Classes.{after_uses, labels_of}
use Rattle.dai_rules.specs.Labels.{AreLabels}
use Rattle.dai_rules.specs.Views.{use_of}
use Rattle.dai_rules.proofs.classes.labels.Given as goal

-- what the uses to come leave is what all leave
abbrev pub invariant-loop-item : goal.invariant-loop-item
invariant-loop-item l = record {
  value : after_uses l.labels.items (map use_of (drop l.item-index l.uses)) ≡ labels_of l.count (map use_of l.uses);
  within : AreLabels l.count l.labels.items;
  len : length l.labels.items ≡ l.count;
}
