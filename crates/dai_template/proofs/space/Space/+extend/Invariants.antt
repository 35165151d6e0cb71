-- the clauses that go on with an atom so far were added
use Rattle.dai_model.specs.Protocol.{Protocol}
use Rattle.dai_model.specs.Template.{Bounds}
use Rattle.dai_template.specs.Spaces.{clause_of}
use Rattle.dai_template.specs.Lists.{IsAdded, IsBegunWith, GoesOnBelow}
use Rattle.dai_template.proofs.space.Space.+extend.Given as goal

abbrev pub decreases-extend : goal.decreases-extend
decreases-extend l = l.left

abbrev pub invariant-loop-atom : goal.invariant-loop-atom
invariant-loop-atom l = (P : Protocol) (B : Bounds) → IsBegunWith P B l.self l.begun l.from l.left → IsAdded P B l.self (GoesOnBelow P (clause_of l.self l.begun) l.from l.left l.atom) l.initial.clauses.items l.clauses.items
