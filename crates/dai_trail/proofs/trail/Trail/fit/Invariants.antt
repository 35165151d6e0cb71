use Rattle.std.proofs.Common.{◌-◌, ◌≤◌, length}
use Rattle.dai_trail.specs.Trail.{IsTrail, Widens}
use Rattle.dai_trail.proofs.trail.Trail.fit.Given as goal

abbrev pub invariant-loop-self : goal.invariant-loop-self
invariant-loop-self l = record {
  trail : IsTrail l.self;
  room : length l.self.values.items ≤ l.vars;
  same : Widens l.initial.self l.self;
}

abbrev pub decreases-loop-self : goal.decreases-loop-self
decreases-loop-self l = l.vars - length l.self.values.items
