use Rattle.std.proofs.Common.{◌≤◌}
use Rattle.dai_trail.specs.Marks.{AreMarks}
use Rattle.dai_sat.specs.Under.{AreNames}
use Rattle.dai_sat.proofs.failed.name_decisions.Given as goal

abbrev pub invariant-loop-place : goal.invariant-loop-place
invariant-loop-place l = record {
  marks : AreMarks l.cnf l.trail l.marks;
  names : AreNames l.trail l.code l.marks.named.items;
  within : l.end ≤ l.trail.len;
}

abbrev pub decreases-loop-place : goal.decreases-loop-place
decreases-loop-place l = l.end
