use Rattle.std.proofs.Common.{◌≡◌}
use Rattle.dai_rules.specs.Classes.{numbers_from}
use Rattle.dai_rules.proofs.classes.own_labels.Given as goal

abbrev pub invariant-loop-variable : goal.invariant-loop-variable
invariant-loop-variable l = l.labels.items ≡ numbers_from 0 l.variable
