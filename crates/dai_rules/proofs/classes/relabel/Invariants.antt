use Rattle.std.proofs.Common.{◌≡◌, ◌++◌, take, drop}
use Rattle.dai_rules.specs.Classes.{relabelled}
use Rattle.dai_rules.proofs.classes.relabel.Given as goal

-- those so far have the new label, those to come are as they were
abbrev pub invariant-loop-label : goal.invariant-loop-label
invariant-loop-label l = take l.label-index l.labels ++ relabelled l.from l.to (drop l.label-index l.labels) ≡ relabelled l.from l.to l.fn.labels
