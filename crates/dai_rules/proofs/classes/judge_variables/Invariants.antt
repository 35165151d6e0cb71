use Rattle.std.proofs.Common.{◌≡◌, List, map, drop}
use Rattle.std.specs.List.{flat_map, enumerate_from}
use Rattle.dai_rules.specs.Types.{Use}
use Rattle.dai_rules.specs.Classes.{variable_faults}
use Rattle.dai_rules.specs.First.{noting_all}
use Rattle.dai_rules.specs.Labels.{AreSummaries}
use Rattle.dai_rules.proofs.classes.judge_variables.Given as goal

-- with the faults of the variables to come, all are noted
abbrev pub invariant-loop-number : goal.invariant-loop-number
invariant-loop-number l =
    (uses : List Use) → AreSummaries l.labels uses l.summaries
    → noting_all l.first (flat_map (variable_faults l.labels uses) (enumerate_from l.number (map (λ x. x.now) (drop l.number l.variables)))) ≡ noting_all l.fn.first (flat_map (variable_faults l.labels uses) (enumerate_from 0 (map (λ x. x.now) l.variables)))
