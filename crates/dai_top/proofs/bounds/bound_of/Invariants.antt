use Rattle.std.proofs.Common.{◌≡◌, drop}
use Rattle.dai_top.specs.Bounds.{bound_of}
use Rattle.dai_top.proofs.bounds.bound_of.Given as goal

-- what is left decides
abbrev pub invariant-loop-bound : goal.invariant-loop-bound
invariant-loop-bound l = bound_of l.given l.name ≡ bound_of (drop l.bound-index l.given) l.name
