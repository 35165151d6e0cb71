use Rattle.std.proofs.Common.{map, take}
use Rattle.dai_rules.specs.Labels.{AreSummaries}
use Rattle.dai_rules.specs.Views.{use_of}
use Rattle.dai_rules.proofs.classes.summaries.Given as goal

-- the types that the uses so far give
abbrev pub invariant-loop-item : goal.invariant-loop-item
invariant-loop-item l = AreSummaries l.labels (map use_of (take l.item-index l.uses)) l.summaries.items
