use Rattle.std.proofs.Common.{◌≡◌, map, drop}
use Rattle.std.specs.List.{flat_map}
use Rattle.dai_rules.specs.Sites.{Whole}
use Rattle.dai_rules.specs.Classes.{ordering_faults}
use Rattle.dai_rules.specs.First.{noting_all}
use Rattle.dai_rules.specs.Labels.{AreUnordered}
use Rattle.dai_rules.specs.Views.{ordering_of}
use Rattle.dai_rules.proofs.classes.judge_order.Given as goal

-- with the faults of the comparisons to come, all are noted
abbrev pub invariant-loop-ordering : goal.invariant-loop-ordering
invariant-loop-ordering l =
    (w : Whole) → AreUnordered w.declarations l.labels w.uses l.marks
    → noting_all l.first (flat_map (ordering_faults w l.labels) (map ordering_of (drop l.ordering-index l.orderings))) ≡ noting_all l.fn.first (flat_map (ordering_faults w l.labels) (map ordering_of l.orderings))
