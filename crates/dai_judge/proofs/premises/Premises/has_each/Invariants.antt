use Rattle.std.proofs.Common.{ℕ, ◌<◌, length, get_or}
use Rattle.std.specs.List.{Contains}
use Rattle.dai_inquiry.specs.declared.keys.Key.{Key}
use Rattle.dai_inquiry.specs.Keys.{clause_in, clauses_in}
use Rattle.dai_judge.proofs.premises.Premises.has_each.Given as goal

abbrev pub invariant-loop-key : goal.invariant-loop-key
invariant-loop-key l = (k : ℕ) (d : Key) → k < l.key-index → k < length l.keys → Contains (clauses_in l.self.keys.items) (clause_in (get_or l.keys k d))
