use Rattle.std.proofs.Common.{◌≡◌, ℕ, true, List, ◌++◌, length}
use Rattle.dai_trail.specs.Formula.{IsBelow}
use Rattle.dai_dimacs.specs.Pieces.{words}
use Rattle.dai_dimacs.specs.Drafts.{Takes}
use Rattle.dai_dimacs.proofs.draft.Draft.take_line.Given as goal

-- the words so far are taken
abbrev pub invariant-loop-word : goal.invariant-loop-word
invariant-loop-word l = record {
  seen : List (List ℕ);
  splits : words l.line ≡ seen ++ words l.text;
  takes : Takes seen l.initial.self l.self true;
  vars : l.self.cnf.vars ≡ l.initial.self.cnf.vars;
  below : IsBelow l.self.cnf.vars l.self.clause.items;
}

abbrev pub decreases-loop-word : goal.decreases-loop-word
decreases-loop-word l = length l.text
