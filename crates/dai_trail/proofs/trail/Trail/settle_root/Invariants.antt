use Rattle.std.proofs.Common.{◌-◌, ◌≡◌}
use Rattle.dai_trail.specs.Trail.{CutsTo, IsTrail}
use Rattle.dai_trail.proofs.trail.Trail.settle_root.Given as goal

abbrev pub invariant-loop-self : goal.invariant-loop-self
invariant-loop-self l = record {
  trail : IsTrail l.self;
  cuts : CutsTo l.initial.self l.self l.initial.self.len;
  head : l.self.head ≡ l.initial.self.head;
  values : l.self.values.items ≡ l.initial.self.values.items;
}

abbrev pub decreases-loop-self : goal.decreases-loop-self
decreases-loop-self l = l.self.len - l.self.root
