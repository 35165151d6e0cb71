use Rattle.std.proofs.Common.{◌-◌, ◌≡◌, ◌≤◌}
use Rattle.dai_trail.specs.Trail.{IsTrail, CutsTo}
use Rattle.dai_trail.proofs.trail.Trail.cut.Given as goal

abbrev pub invariant-loop-self : goal.invariant-loop-self
invariant-loop-self l = record {
  trail : IsTrail l.self;
  cuts : CutsTo l.initial.self l.self l.self.len;
  above : l.place ≤ l.self.len;
  root : l.self.root ≡ l.initial.self.root;
}

abbrev pub decreases-loop-self : goal.decreases-loop-self
decreases-loop-self l = l.self.len - l.place
