-- those with the variable at the places so far were put in
use Rattle.dai_model.specs.Protocol.{Protocol}
use Rattle.dai_model.specs.Template.{Bounds}
use Rattle.dai_template.specs.Spaces.{IsClauseOf, clause_of}
use Rattle.dai_order.specs.Forms.{AreForms, HasGained}
use Rattle.dai_order.proofs.VariableGains.{HasVariableFrom}
use Rattle.dai_order.proofs.variables.add_with_variable.Given as goal

abbrev pub invariant-loop-place : goal.invariant-loop-place
invariant-loop-place l = (P : Protocol) (B : Bounds) → IsClauseOf P B l.space l.clause → AreForms P B l.space l.initial.list.items → HasGained P B l.space (HasVariableFrom P B (clause_of l.space l.clause) l.sort l.first l.place) l.initial.list.items l.list.items
