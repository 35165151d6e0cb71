use Rattle.std.proofs.Common.{◌≡◌, ◌≤◌, ◌-◌, vec_len}
use Rattle.dai_trail.specs.Trail.{IsSound, KeepsDecisions, rank_of}
use Rattle.dai_trail.proofs.propagation.look_at_watches.Given as goal

abbrev pub invariant-loop-at : goal.invariant-loop-at
invariant-loop-at l = record {
  sound : IsSound l.cnf l.learned l.trail;
  kept : KeepsDecisions l.initial.trail l.trail;
  rank : rank_of l.trail ≤ rank_of l.initial.trail;
  head : l.trail.head ≡ l.initial.trail.head;
}

abbrev pub decreases-loop-at : goal.decreases-loop-at
decreases-loop-at l = vec_len l.list - l.at
