-- A worked example for the tests: a type and an ordered type, a relation of pairs over the first, one over the
-- second, and an individual of the first.
use Rattle.std.specs.Prelude.{◌≡◌, ◌≤◌, true, false, [], ◌∷◌, codes}
use Rattle.dai_model.specs.Formula.{no_statements}
use Rattle.dai_model.specs.Protocol.{Protocol}
use Rattle.dai_logic.specs.declared.structure.Structure.{Structure}
use Rattle.dai_logic.specs.Tables.{Fits}
use Rattle.dai_model.specs.Template.{Bounds}
use Rattle.dai_template.specs.declared.clause.Clause.{Clause}
use Rattle.dai_template.specs.declared.space.Space.{Space}
use Rattle.dai_template.specs.Spaces.{IsSpaceOf, IsClauseOf}

abbrev pub links : Protocol
links = record {
  sorts = record { name = codes "t"; ordered = false } ∷ record { name = codes "o"; ordered = true } ∷ [];
  relations = record { name = codes "r"; arguments = 0 ∷ 0 ∷ [] } ∷ record { name = codes "u"; arguments = 1 ∷ [] } ∷ [];
  individuals = record { name = codes "c"; sort = 0 } ∷ [];
  axioms = [];
  init = record { parameters = []; choices = []; code = no_statements };
  actions = [];
  invariants = [];
}

-- a structure with two elements of each type
pub record IsLinked (s : Structure) : Type 0 where
  pub two : s.sizes.items ≡ 2 ∷ 2 ∷ []
  pub fit : Fits links s

-- a space of it with clauses of two literals
pub record HasPairs (space : Space) : Type 0 where
  pub bounds : Bounds
  pub is : IsSpaceOf links bounds space
  pub pairs : 2 ≤ bounds.literals

pub record IsPair (space : Space) (c : Clause) : Type 0 where
  pub bounds : Bounds
  pub is : IsClauseOf links bounds space c
