use Rattle.dai_picture.specs.Rules.{Constrains, FallsBelow}
use Rattle.dai_picture.proofs.rules.order.Given as goal

abbrev pub invariant-loop-slot : goal.invariant-loop-slot
invariant-loop-slot l = Constrains l.initial.circuit l.circuit (FallsBelow l.slot l.row)
