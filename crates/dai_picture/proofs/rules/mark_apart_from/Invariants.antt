use Rattle.dai_picture.specs.Rules.{Constrains, IsApartFrom}
use Rattle.dai_picture.proofs.rules.mark_apart_from.Given as goal

abbrev pub invariant-loop-other : goal.invariant-loop-other
invariant-loop-other l = Constrains l.initial.circuit l.circuit (IsApartFrom l.other l.row l.slot)
