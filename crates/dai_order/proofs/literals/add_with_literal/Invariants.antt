-- those over the atoms so far were put in
use Rattle.dai_model.specs.Protocol.{Protocol}
use Rattle.dai_model.specs.Template.{Bounds}
use Rattle.dai_template.specs.Spaces.{IsClauseOf, clause_of}
use Rattle.dai_order.specs.Forms.{AreForms, HasGained}
use Rattle.dai_order.specs.Weakenings.{HasLiteralBelow}
use Rattle.dai_order.proofs.literals.add_with_literal.Given as goal

abbrev pub invariant-loop-atom : goal.invariant-loop-atom
invariant-loop-atom l = (P : Protocol) (B : Bounds) → IsClauseOf P B l.space l.clause → AreForms P B l.space l.initial.list.items → HasGained P B l.space (HasLiteralBelow P (clause_of l.space l.clause) l.atom) l.initial.list.items l.list.items
