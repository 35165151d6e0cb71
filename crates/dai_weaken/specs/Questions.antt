-- What may be asked.
use Rattle.std.specs.Prelude.{List}
use Rattle.std.specs.List.{Contains}
use Rattle.dai_model.specs.Protocol.{Protocol}
use Rattle.dai_model.specs.Template.{Bounds}
use Rattle.dai_template.specs.declared.clause.Clause.{Clause}
use Rattle.dai_template.specs.declared.space.Space.{Space}
use Rattle.dai_template.specs.Spaces.{IsSpaceOf, IsClauseOf}

-- a clause of a space of the protocol
pub record IsGoal (P : Protocol) (space : Space) (c : Clause) : Type 0 where
  pub bounds : Bounds
  pub is : IsClauseOf P bounds space c

-- clauses of a space of the protocol
pub record ArePremises (P : Protocol) (space : Space) (clauses : List Clause) : Type 0 where
  pub bounds : Bounds
  pub space_of : IsSpaceOf P bounds space
  pub each : (c : Clause) → Contains clauses c → IsClauseOf P bounds space c
