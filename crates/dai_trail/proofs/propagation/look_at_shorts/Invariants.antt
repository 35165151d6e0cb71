use Rattle.std.proofs.Common.{◌≡◌, ◌≤◌}
use Rattle.dai_trail.specs.Trail.{IsSound, KeepsDecisions, rank_of}
use Rattle.dai_trail.proofs.propagation.look_at_shorts.Given as goal

abbrev pub invariant-loop-short : goal.invariant-loop-short
invariant-loop-short l = record {
  sound : IsSound l.cnf l.learned l.trail;
  kept : KeepsDecisions l.initial.trail l.trail;
  rank : rank_of l.trail ≤ rank_of l.initial.trail;
  head : l.trail.head ≡ l.initial.trail.head;
}
