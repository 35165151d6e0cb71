-- the forms of the clauses so far were put in
use Rattle.std.proofs.Common.{take}
use Rattle.dai_model.specs.Protocol.{Protocol}
use Rattle.dai_model.specs.Template.{Bounds}
use Rattle.dai_order.specs.Antichains.{AreClauses, AreFormsOf}
use Rattle.dai_order.proofs.antichain.canonical_forms.Given as goal

abbrev pub invariant-loop-clause : goal.invariant-loop-clause
invariant-loop-clause l = (P : Protocol) (B : Bounds) → AreClauses P B l.space l.clauses → AreFormsOf P B l.space (take l.clause-index l.clauses) l.forms.items
