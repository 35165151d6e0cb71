use Rattle.dai_model.specs.Protocol.{Protocol}
use Rattle.dai_model.specs.Template.{Bounds}
use Rattle.dai_order.specs.Antichains.{IsAntichain}
use Rattle.dai_weaken.specs.Weakening.{IsWithoutStruck}
use Rattle.dai_weaken.proofs.descent.remove_struck.Given as goal

-- the members before this place that are struck are gone
abbrev pub invariant-loop-place : goal.invariant-loop-place
invariant-loop-place l = (P : Protocol) (B : Bounds) → IsAntichain P B l.space l.fn.kept.clauses.items → IsWithoutStruck P B l.space l.fn.kept.clauses.items l.flags l.place l.kept.clauses.items
