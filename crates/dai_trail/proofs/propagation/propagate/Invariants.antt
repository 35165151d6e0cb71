use Rattle.std.proofs.Common.{◌≤◌, ◌-◌, length}
use Rattle.dai_trail.specs.Trail.{IsSound, KeepsDecisions, rank_of}
use Rattle.dai_trail.proofs.propagation.propagate.Given as goal

abbrev pub invariant-loop-trail : goal.invariant-loop-trail
invariant-loop-trail l = record {
  sound : IsSound l.cnf l.learned l.trail;
  kept : KeepsDecisions l.initial.trail l.trail;
  rank : rank_of l.trail ≤ rank_of l.initial.trail;
}

abbrev pub decreases-loop-trail : goal.decreases-loop-trail
decreases-loop-trail l = length l.initial.trail.values.items - l.trail.head
