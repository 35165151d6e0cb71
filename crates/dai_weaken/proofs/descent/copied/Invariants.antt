use Rattle.std.proofs.Common.{◌≡◌, take}
use Rattle.dai_weaken.proofs.descent.copied.Given as goal

-- the clauses so far were copied
abbrev pub invariant-loop-clause : goal.invariant-loop-clause
invariant-loop-clause l = l.copies.items ≡ take l.clause-index l.clauses
