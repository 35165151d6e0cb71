use Rattle.std.proofs.Common.{◌≡◌, ℕ, ◌<◌, Bool, false, length, get_or}
use Rattle.dai_rules.proofs.classes.no_marks.Given as goal

abbrev pub invariant-loop-number : goal.invariant-loop-number
invariant-loop-number l = record {
  count : length l.marks.items ≡ l.number;
  each : (label : ℕ) (d : Bool) → label < l.number → get_or l.marks.items label d ≡ false;
}
