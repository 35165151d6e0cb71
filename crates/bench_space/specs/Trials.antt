-- What the loops of questions are given.
use Rattle.std.specs.Prelude.{List, Bool, Vec, map, length, ℕ}
use Rattle.std.specs.declared.alloc.Global.{Global}
use Rattle.std.specs.List.{All}
use Rattle.dai_model.specs.Protocol.{Protocol}
use Rattle.dai_model.specs.Template.{Bounds}
use Rattle.dai_logic.specs.declared.structure.Structure.{Structure}
use Rattle.dai_logic.specs.Tables.{Fits, bits_of}
use Rattle.dai_template.specs.declared.clause.Clause.{Clause}
use Rattle.dai_template.specs.declared.space.Space.{Space}
use Rattle.dai_template.specs.Spaces.{IsSpaceOf, IsClauseOf}

-- how many tuples each table has
abbrev pub table_lengths : Vec (Vec Bool Global) Global → List ℕ
table_lengths tables = map (λ (t : List Bool). length t) (bits_of tables)

-- the protocol's space within some bounds
pub record HasBounds (P : Protocol) (space : Space) : Type 0 where
  pub bounds : Bounds
  pub is : IsSpaceOf P bounds space

-- a clause of a protocol's space, and structures of the protocol
pub record IsAskedOfEach (space : Space) (c : Clause) (states : List Structure) : Type 0 where
  pub protocol : Protocol
  pub bounds : Bounds
  pub is : IsClauseOf protocol bounds space c
  pub fit : All (Fits protocol) states

-- the same with clauses
pub record AreAskedOfEach (space : Space) (cs : List Clause) (states : List Structure) : Type 0 where
  pub protocol : Protocol
  pub bounds : Bounds
  pub are : All (IsClauseOf protocol bounds space) cs
  pub fit : All (Fits protocol) states
