use Rattle.std.proofs.Common.{◌≡◌, ◌≤◌, []}
use Rattle.dai_trail.specs.Marks.{AreMarks}
use Rattle.dai_trail.proofs.analysis.resolve.Given as goal

abbrev pub invariant-loop-place : goal.invariant-loop-place
invariant-loop-place l = record {
  marks : AreMarks l.cnf l.trail l.marks;
  unnamed : l.marks.named.items ≡ [];
  within : l.end ≤ l.trail.len;
}

abbrev pub decreases-loop-place : goal.decreases-loop-place
decreases-loop-place l = l.end
