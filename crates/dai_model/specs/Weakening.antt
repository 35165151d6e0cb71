-- Immediate weakenings: the clauses next above a clause in the order of subsumption. Each has one literal more, or
-- one variable more, and is above the clause.
use Rattle.std.specs.Prelude.{◌≡◌, ℕ, ◌+◌, length, sum}
use Rattle.dai_model.specs.Protocol.{Protocol}
use Rattle.dai_model.specs.Clause.{Clause}
use Rattle.dai_model.specs.Template.{Bounds, IsTemplate}
use Rattle.dai_model.specs.Subsumption.{Subsumes}

-- the number of its variables and literals
abbrev pub rank_of : Clause → ℕ
rank_of c = sum c.counts + length c.literals

pub record IsImmediateWeakening (P : Protocol) (B : Bounds) (c weaker : Clause) : Type 0 where
  pub template : IsTemplate P B weaker
  pub below : Subsumes P c weaker
  pub one_more : rank_of weaker ≡ rank_of c + 1

-- a clause between the two that is an immediate weakening of the first
pub record IsCovered (P : Protocol) (B : Bounds) (c above : Clause) : Type 0 where
  pub between : Clause
  pub weakening : IsImmediateWeakening P B c between
  pub below : Subsumes P between above
