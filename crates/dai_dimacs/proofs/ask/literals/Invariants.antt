use Rattle.std.proofs.Common.{◌≡◌, ℕ, List, [], ◌++◌, length}
use Rattle.dai_trail.specs.Formula.{formula_of}
use Rattle.dai_dimacs.specs.Pieces.{words}
use Rattle.dai_dimacs.specs.Drafts.{AreReadInto}
use Rattle.dai_dimacs.proofs.ask.literals.Given as goal

-- the words so far are the literals, and one clause is missing
abbrev pub invariant-loop-word : goal.invariant-loop-word
invariant-loop-word l = record {
  seen : List (List ℕ);
  splits : words l.line ≡ seen ++ words l.text;
  read : AreReadInto 1 seen (formula_of l.vars []) 1 l.lits.items;
}

abbrev pub decreases-loop-word : goal.decreases-loop-word
decreases-loop-word l = length l.text
