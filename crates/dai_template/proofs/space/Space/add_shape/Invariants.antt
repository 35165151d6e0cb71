-- the clauses with fewer literals were added
use Rattle.dai_model.specs.Protocol.{Protocol}
use Rattle.dai_model.specs.Template.{Bounds}
use Rattle.dai_template.specs.Spaces.{IsSpaceOf}
use Rattle.dai_template.specs.Lists.{IsAdded, HasFewLiterals}
use Rattle.dai_template.proofs.space.Space.add_shape.Given as goal

abbrev pub invariant-loop-literals : goal.invariant-loop-literals
invariant-loop-literals l = (P : Protocol) (B : Bounds) → IsSpaceOf P B l.self → IsAdded P B l.self (HasFewLiterals l.self l.shape l.literals) l.initial.clauses.items l.clauses.items
