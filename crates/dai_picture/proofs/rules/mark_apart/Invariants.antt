use Rattle.dai_picture.specs.Rules.{Constrains, AreApartBelow}
use Rattle.dai_picture.proofs.rules.mark_apart.Given as goal

abbrev pub invariant-loop-slot : goal.invariant-loop-slot
invariant-loop-slot l = Constrains l.initial.circuit l.circuit (AreApartBelow l.slot l.row)
