use Rattle.std.proofs.Common.{◌≡◌, length}
use Rattle.dai_trail.specs.Trail.{IsSound, IsGuided, IsOrdered, rank_of}
use Rattle.dai_trail.specs.Marks.{AreStamps}
use Rattle.dai_sat.proofs.least.solve_counted.Given as goal

abbrev pub invariant-loop-desk : goal.invariant-loop-desk
invariant-loop-desk g l = record {
  sound : IsSound l.cnf l.learned l.trail;
  guided : IsGuided (λ v b. goal.F-post g l.guide.phase v b) l.trail;
  ordered : IsOrdered l.trail;
  stamps : AreStamps l.desk.marks l.cnf.vars;
  room : length l.trail.values.items ≡ l.cnf.vars;
}

abbrev pub decreases-loop-desk : goal.decreases-loop-desk
decreases-loop-desk g l = rank_of l.trail
