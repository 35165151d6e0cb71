-- the clauses so far have entered
use Rattle.std.proofs.Common.{take}
use Rattle.dai_model.specs.Protocol.{Protocol}
use Rattle.dai_model.specs.Template.{Bounds}
use Rattle.dai_model.proofs.Below.{Each}
use Rattle.dai_template.specs.Spaces.{IsClauseOf}
use Rattle.dai_order.specs.Forms.{AreForms}
use Rattle.dai_order.specs.Antichains.{HaveEntered}
use Rattle.dai_order.proofs.antichain.enter_each.Given as goal

abbrev pub invariant-loop-clause : goal.invariant-loop-clause
invariant-loop-clause l = (P : Protocol) (B : Bounds) → Each (IsClauseOf P B l.space) l.clauses → AreForms P B l.space l.initial.list.items → HaveEntered P B l.space (take l.clause-index l.clauses) l.initial.list.items l.list.items
