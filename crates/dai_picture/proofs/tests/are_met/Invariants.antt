use Rattle.std.proofs.Common.{◌<◌, ℕ, [], get_or}
use Rattle.dai_trail.specs.Formula.{IsMetBy}
use Rattle.dai_picture.proofs.tests.are_met.Given as goal

abbrev pub invariant-loop-number : goal.invariant-loop-number
invariant-loop-number l = (k : ℕ) → k < l.number → IsMetBy (get_or l.cnf.clauses k []) l.values
