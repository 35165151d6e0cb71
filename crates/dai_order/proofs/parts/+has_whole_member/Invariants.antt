-- no member is below the clause evenly and leaves one of the variables so far out
use Rattle.std.proofs.Common.{◌<◌, ◌/◌, ◌%◌, ℕ, sum}
use Rattle.dai_model.specs.Protocol.{Protocol}
use Rattle.dai_model.specs.Template.{Bounds}
use Rattle.dai_template.specs.Spaces.{IsClauseOf, clause_of}
use Rattle.dai_template.specs.Lists.{clauses_of}
use Rattle.dai_order.specs.Forms.{AreForms}
use Rattle.dai_order.specs.Variables.{counts_at}
use Rattle.dai_order.specs.Parts.{IsBelowWithout}
use Rattle.dai_order.proofs.parts.+has_whole_member.Given as goal

abbrev pub invariant-loop-place : goal.invariant-loop-place
invariant-loop-place l = (P : Protocol) (B : Bounds) → IsClauseOf P B l.space l.clause → AreForms P B l.space l.members → (k : ℕ) → k < l.place → IsBelowWithout P (clauses_of l.space l.members) (clause_of l.space l.clause) (k / 4) (k % 4) → ⊥

abbrev pub decreases-has_whole_member : goal.decreases-has_whole_member
decreases-has_whole_member l = sum (counts_at l.space.now l.clause.now.shape)
