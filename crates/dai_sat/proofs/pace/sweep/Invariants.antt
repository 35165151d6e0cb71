use Rattle.std.proofs.Common.{◌≡◌}
use Rattle.dai_trail.specs.Trail.{AreImplied}
use Rattle.dai_sat.proofs.pace.sweep.Given as goal

abbrev pub invariant-loop-number : goal.invariant-loop-number
invariant-loop-number l = record {
  marks : l.desk.marks ≡ l.initial.desk.marks;
  kept : AreImplied l.cnf l.kept;
}
