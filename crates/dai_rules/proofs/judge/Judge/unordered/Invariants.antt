use Rattle.std.proofs.Common.{map, take}
use Rattle.dai_rules.specs.Labels.{AreUnordered}
use Rattle.dai_rules.specs.Views.{context_of, use_of}
use Rattle.dai_rules.proofs.judge.Judge.unordered.Given as goal

-- the marks of the uses so far
abbrev pub invariant-loop-item : goal.invariant-loop-item
invariant-loop-item l = AreUnordered (context_of l.self).declarations l.labels (map use_of (take l.item-index l.item-items)) l.marks.items
