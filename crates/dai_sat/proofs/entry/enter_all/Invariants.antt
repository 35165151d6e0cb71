use Rattle.dai_trail.specs.Trail.{IsSound, KeepsDecisions}
use Rattle.dai_sat.proofs.entry.enter_all.Given as goal

abbrev pub invariant-loop-number : goal.invariant-loop-number
invariant-loop-number l = record {
  sound : IsSound l.cnf l.learned l.trail;
  kept : KeepsDecisions l.initial.trail l.trail;
}
