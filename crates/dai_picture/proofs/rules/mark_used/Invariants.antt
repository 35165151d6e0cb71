use Rattle.dai_picture.specs.Rules.{Constrains, AreUsedBelow}
use Rattle.dai_picture.proofs.rules.mark_used.Given as goal

abbrev pub invariant-loop-slot : goal.invariant-loop-slot
invariant-loop-slot l = Constrains l.initial.circuit l.circuit (AreUsedBelow l.slot l.used l.row)
