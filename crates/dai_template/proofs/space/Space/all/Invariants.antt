-- the clauses over the shapes so far
use Rattle.dai_model.specs.Protocol.{Protocol}
use Rattle.dai_model.specs.Template.{Bounds}
use Rattle.dai_template.specs.Spaces.{IsSpaceOf}
use Rattle.dai_template.specs.Lists.{IsPart, IsOverShapesBelow}
use Rattle.dai_template.proofs.space.Space.all.Given as goal

abbrev pub invariant-loop-shape : goal.invariant-loop-shape
invariant-loop-shape l = (P : Protocol) (B : Bounds) → IsSpaceOf P B l.self → IsPart P B l.self (IsOverShapesBelow l.self l.shape) l.clauses.items
