use Rattle.std.proofs.Common.{◌-◌, ◌≤◌, length}
use Rattle.dai_trail.specs.Marks.{AreStamps}
use Rattle.dai_trail.proofs.marks.Marks.fit.Given as goal

abbrev pub invariant-loop-self : goal.invariant-loop-self
invariant-loop-self l = record {
  stamps : AreStamps l.self (length l.self.stamps.items);
  within : length l.self.stamps.items ≤ l.vars;
}

abbrev pub decreases-loop-self : goal.decreases-loop-self
decreases-loop-self l = l.vars - length l.self.stamps.items
