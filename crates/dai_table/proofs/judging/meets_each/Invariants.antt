use Rattle.std.proofs.Common.{◌≡◌, ◌<◌, ℕ, true, get_or}
use Rattle.std.specs.List.{list_any}
use Rattle.dai_template.specs.declared.clause.Clause.{Clause}
use Rattle.dai_table.specs.Flags.{holds_in}
use Rattle.dai_table.proofs.judging.meets_each.Given as goal

-- each clause so far has a true literal
abbrev pub invariant-loop-clause : goal.invariant-loop-clause
invariant-loop-clause l = (k : ℕ) (d : Clause) → k < l.clause-index → list_any (holds_in l.flags) (get_or l.clauses k d).lits.items ≡ true
