-- no member is below the clause and has no image at one of the places so far, but at those before it
use Rattle.std.proofs.Common.{◌<◌, ◌≤◌, ℕ, length}
use Rattle.dai_model.specs.Protocol.{Protocol}
use Rattle.dai_model.specs.Template.{Bounds}
use Rattle.dai_template.specs.Spaces.{IsClauseOf, clause_of}
use Rattle.dai_template.specs.Lists.{clauses_of}
use Rattle.dai_order.specs.Forms.{AreForms}
use Rattle.dai_order.specs.Parts.{IsBelowBut}
use Rattle.dai_order.proofs.parts.+is_above_from.Given as goal

abbrev pub invariant-loop-place : goal.invariant-loop-place
invariant-loop-place l = (P : Protocol) (B : Bounds) → IsClauseOf P B l.space l.clause → AreForms P B l.space l.members → (k : ℕ) → l.from ≤ k → k < l.place → IsBelowBut P (clauses_of l.space l.members) (clause_of l.space l.clause) k → ⊥

abbrev pub decreases-is_above_from : goal.decreases-is_above_from
decreases-is_above_from l = length l.clause.now.lits.items
