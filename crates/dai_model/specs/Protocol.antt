-- A protocol: the declarations of a file, after Ivy. Names and labels are lists of bytes.
use Rattle.std.specs.Prelude.{ℕ, Bool, List}
use Rattle.dai_model.specs.Formula.{Formula, Statements}

pub record Sort : Type 0 where
  pub name : List ℕ
  pub ordered : Bool

-- a relation and the types of its arguments
pub record Relation : Type 0 where
  pub name : List ℕ
  pub arguments : List ℕ

pub record Individual : Type 0 where
  pub name : List ℕ
  pub sort : ℕ

-- the types of the parameters and of the local choices, and the statements
pub record Block : Type 0 where
  pub parameters : List ℕ
  pub choices : List ℕ
  pub code : Statements

pub record Action : Type 0 where
  pub name : List ℕ
  pub block : Block

pub record Invariant : Type 0 where
  pub label : List ℕ
  pub body : Formula

-- the actions are the exported ones; axioms and invariants are closed
pub record Protocol : Type 0 where
  pub sorts : List Sort
  pub relations : List Relation
  pub individuals : List Individual
  pub axioms : List Formula
  pub init : Block
  pub actions : List Action
  pub invariants : List Invariant
