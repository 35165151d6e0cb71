-- no member so far is below the clause
use Rattle.std.proofs.Common.{◌<◌, ℕ, get_or}
use Rattle.dai_model.specs.Protocol.{Protocol}
use Rattle.dai_model.specs.Template.{Bounds}
use Rattle.dai_model.specs.Subsumption.{Subsumes}
use Rattle.dai_template.specs.declared.clause.Clause.{Clause}
use Rattle.dai_template.specs.Spaces.{IsClauseOf, clause_of}
use Rattle.dai_order.specs.Forms.{AreForms}
use Rattle.dai_order.proofs.parts.some_is_below.Given as goal

abbrev pub invariant-loop-member : goal.invariant-loop-member
invariant-loop-member l = (P : Protocol) (B : Bounds) → IsClauseOf P B l.space l.clause → AreForms P B l.space l.members → (k : ℕ) (d : Clause) → k < l.member-index → Subsumes P (clause_of l.space (get_or l.members k d)) (clause_of l.space l.clause) → ⊥
