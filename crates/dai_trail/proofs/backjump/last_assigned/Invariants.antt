use Rattle.std.proofs.Common.{IfSome}
use Rattle.std.specs.List.{Contains}
use Rattle.dai_trail.proofs.backjump.last_assigned.Given as goal

abbrev pub invariant-loop-number : goal.invariant-loop-number
invariant-loop-number l = IfSome l.last (λ last. Contains l.learned last.1)
