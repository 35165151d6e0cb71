use Rattle.std.proofs.Common.{◌≡◌, ℕ, ◌<◌, [], length, get_or}
use Rattle.dai_rules.specs.declared.classes.Summary.{Summary}
use Rattle.dai_rules.specs.Labels.{IsSummary}
use Rattle.dai_rules.proofs.classes.no_types.Given as goal

abbrev pub invariant-loop-number : goal.invariant-loop-number
invariant-loop-number l = record {
  count : length l.summaries.items ≡ l.number;
  each : (label : ℕ) (d : Summary) → label < l.number → IsSummary [] (get_or l.summaries.items label d);
}
