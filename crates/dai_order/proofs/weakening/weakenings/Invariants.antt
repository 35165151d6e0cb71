-- the weakenings with a literal more, and those with a variable more of the types so far, were put in
use Rattle.std.proofs.Common.{[]}
use Rattle.dai_model.specs.Protocol.{Protocol}
use Rattle.dai_model.specs.Template.{Bounds}
use Rattle.dai_template.specs.Spaces.{IsClauseOf, clause_of}
use Rattle.dai_order.specs.Forms.{HasGained}
use Rattle.dai_order.proofs.AllWeakenings.{IsWeakerBelow}
use Rattle.dai_order.proofs.weakening.weakenings.Given as goal

abbrev pub invariant-loop-sort : goal.invariant-loop-sort
invariant-loop-sort l = (P : Protocol) (B : Bounds) → IsClauseOf P B l.space l.clause → HasGained P B l.space (IsWeakerBelow P B (clause_of l.space l.clause) l.sort) [] l.weaker.items
