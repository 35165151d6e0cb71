use Rattle.std.proofs.Common.{◌<◌, ℕ, List}
use Rattle.std.specs.List.{Any}
use Rattle.dai_trail.specs.Codes.{AreCodesOf}
use Rattle.dai_trail.specs.Trail.{IsTrueIn}
use Rattle.dai_sat.proofs.model.first_unmet.Given as goal

abbrev pub invariant-loop-number : goal.invariant-loop-number
invariant-loop-number l = (k : ℕ) → k < l.number → (codes : List ℕ) × AreCodesOf l.cnf k codes × Any (IsTrueIn l.trail) codes
