-- The language of the logic: terms, formulas and statements as trees (many-sorted first-order logic with
-- equality; the statements are those of Ivy). Types, relations, individuals and variables are numbers.
use Rattle.std.specs.Prelude.{ℕ, Bool, List}

-- a variable, an individual, a parameter or a local choice of a block
pub data Term : Type 0 where
  variable : ℕ → Term
  individual : ℕ → Term
  parameter : ℕ → Term
  choice : ℕ → Term

mutual
  pub data Formula : Type 0 where
    truth : Bool → Formula
    relates : ℕ → List Term → Formula
    same : Term → Term → Formula
    less : Term → Term → Formula
    less_or_same : Term → Term → Formula
    negation : Formula → Formula
    conjunction : Formulas → Formula
    disjunction : Formulas → Formula
    implication : Formula → Formula → Formula
    equivalence : Formulas → Formula
    -- a variable, its type, and the body
    universal : ℕ → ℕ → Formula → Formula
    existential : ℕ → ℕ → Formula → Formula

  pub data Formulas : Type 0 where
    no_formulas : Formulas
    with_formula : Formula → Formulas → Formulas

mutual
  pub data Statement : Type 0 where
    requirement : Formula → Statement
    -- a relation, the terms of the target, and the new value
    update_relation : ℕ → List Term → Formula → Statement
    update_individual : ℕ → Term → Statement
    conditional : Formula → Statements → Statements → Statement

  pub data Statements : Type 0 where
    no_statements : Statements
    with_statement : Statement → Statements → Statements
