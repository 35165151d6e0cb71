-- the clauses so far were copied
use Rattle.std.proofs.Common.{◌≡◌, take}
use Rattle.dai_order.proofs.antichain.copied.Given as goal

abbrev pub invariant-loop-clause : goal.invariant-loop-clause
invariant-loop-clause l = l.copies.items ≡ take l.clause-index l.clauses
