use Rattle.std.proofs.Common.{◌≡◌, length}
use Rattle.dai_trail.specs.Trail.{IsSound}
use Rattle.dai_trail.specs.Marks.{AreStamps}
use Rattle.dai_sat.specs.Under.{IsUnder, effort}
use Rattle.dai_sat.proofs.question.search.Given as goal

abbrev pub invariant-loop-learned : goal.invariant-loop-learned
invariant-loop-learned l = record {
  sound : IsSound l.cnf l.learned l.trail;
  stamps : AreStamps l.desk.marks (length l.trail.values.items);
  under : IsUnder l.asked.codes.items l.asked.floor l.trail;
  codes : l.asked.codes.items ≡ l.initial.asked.codes.items;
  room : length l.trail.values.items ≡ length l.initial.trail.values.items;
}

abbrev pub decreases-loop-learned : goal.decreases-loop-learned
decreases-loop-learned l = effort l.pace.restarts l.trail
