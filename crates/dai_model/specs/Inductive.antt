-- Inductive lists of clauses over a class of structures, and the greatest inductive set, which is their union.
use Rattle.std.specs.Prelude.{List}
use Rattle.std.specs.List.{Contains}
use Rattle.dai_model.specs.Protocol.{Protocol}
use Rattle.dai_model.specs.Structure.{Structure, IsStructure}
use Rattle.dai_model.specs.Value.{SatisfiesAxioms}
use Rattle.dai_model.specs.Reachable.{IsInitial, IsStep}
use Rattle.dai_model.specs.Clause.{Clause, MeetsEach}
use Rattle.dai_model.specs.Template.{Bounds, IsTemplate}
use Rattle.dai_model.specs.Classes.{Class, Belongs}

pub record IsInductive (C : Class) (P : Protocol) (clauses : List Clause) : Type 0 where
  pub initiation : (s : Structure) → Belongs C s → IsInitial P s → MeetsEach P s clauses
  pub consecution : (s t : Structure) → Belongs C s → IsStructure P s → SatisfiesAxioms P s → MeetsEach P s clauses → IsStep P s t → MeetsEach P t clauses

-- some inductive list of templates contains the clause
pub record IsInGreatest (C : Class) (P : Protocol) (B : Bounds) (c : Clause) : Type 0 where
  pub witness : List Clause
  pub templates : (d : Clause) → Contains witness d → IsTemplate P B d
  pub inductive : IsInductive C P witness
  pub member : Contains witness c

-- an inductive list of templates that contains all of these clauses
pub record LieInOne (C : Class) (P : Protocol) (B : Bounds) (clauses : List Clause) : Type 0 where
  pub witness : List Clause
  pub templates : (d : Clause) → Contains witness d → IsTemplate P B d
  pub inductive : IsInductive C P witness
  pub members : (c : Clause) → Contains clauses c → Contains witness c
