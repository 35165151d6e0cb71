-- the literals so far were moved
use Rattle.std.proofs.Common.{length, take}
use Rattle.dai_order.specs.Variables.{counts_at, atoms_at, AreMovedTo}
use Rattle.dai_order.proofs.variables.moved.Given as goal

abbrev pub invariant-loop-literal : goal.invariant-loop-literal
invariant-loop-literal l = AreMovedTo (length (counts_at l.space l.clause.shape)) l.to (atoms_at l.space l.clause.shape) (atoms_at l.space l.larger) (take l.literal-index l.clause.lits.items) l.lits.items
