use Rattle.std.proofs.Common.{◌≡◌, ◌-◌, drop}
use Rattle.dai_rules.specs.Sites.{counted_from}
use Rattle.dai_rules.specs.First.{judged}
use Rattle.dai_rules.proofs.judge_statements.count_all.Given as goal

-- with those to come, all are judged
abbrev pub invariant-loop-at : goal.invariant-loop-at
invariant-loop-at l = record {
  first : judged l.first (counted_from l.left (drop l.at-index l.places)) ≡ judged l.fn.first (counted_from l.room l.places);
  left : l.left ≡ l.room - l.at-index;
}
