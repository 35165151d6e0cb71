use Rattle.std.proofs.Common.{◌≡◌}
use Rattle.dai_trail.specs.Marks.{AreMarks}
use Rattle.dai_trail.proofs.minimize.minimize.Given as goal

abbrev pub invariant-loop-number : goal.invariant-loop-number
invariant-loop-number l = record {
  marks : AreMarks l.cnf l.trail l.marks;
  named : l.marks.named.items ≡ l.initial.marks.named.items;
}
