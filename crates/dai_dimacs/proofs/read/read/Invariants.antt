use Rattle.std.proofs.Common.{◌≡◌, ◌+◌, ◌≤◌, ℕ, List, ◌++◌, IfSome, length}
use Rattle.dai_trail.specs.Formula.{IsBelow}
use Rattle.dai_dimacs.specs.Pieces.{lines}
use Rattle.dai_dimacs.specs.Drafts.{AreRead}
use Rattle.dai_dimacs.proofs.read.read.Given as goal

-- the lines so far are read
abbrev pub invariant-loop-draft : goal.invariant-loop-draft
invariant-loop-draft l = record {
  seen : List (List ℕ);
  splits : lines l.bytes ≡ seen ++ lines l.text;
  counted : l.count ≡ length seen;
  room : l.count + length l.text ≤ length l.bytes;
  read : AreRead seen l.draft;
  below : IfSome l.draft (λ d. IsBelow d.cnf.vars d.clause.items);
}

abbrev pub decreases-loop-draft : goal.decreases-loop-draft
decreases-loop-draft l = length l.text
