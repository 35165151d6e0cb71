use Rattle.std.proofs.Common.{◌≡◌, ◌<◌, ◌⊎◌, ℕ, Some, length, get_or}
use Rattle.dai_trail.specs.Marks.{AreStamps, AreListed, MarksMore, IsCovered}
use Rattle.dai_trail.proofs.marks.Marks.mark_clause.Given as goal

abbrev pub invariant-loop-code : goal.invariant-loop-code
invariant-loop-code l = record {
  stamps : AreStamps l.self (length l.trail.values.items);
  listed : AreListed l.self l.trail;
  more : MarksMore l.initial.self l.self;
  covered : (k : ℕ) → k < l.code-index → (l.fn.apart ≡ Some (get_or l.codes k 0)) ⊎ IsCovered l.trail l.self (get_or l.codes k 0);
}
