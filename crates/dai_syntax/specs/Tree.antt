-- The tree of a file, as it is written: names are texts with their places, and nothing is resolved.
use Rattle.std.specs.Prelude.{ℕ, Bool, List, Option}
use Rattle.dai_syntax.specs.declared.tree.Name.{Name}
use Rattle.dai_syntax.specs.declared.tree.Binder.{Binder}
use Rattle.dai_syntax.specs.declared.tree.Arg.{Arg}
use Rattle.dai_syntax.specs.declared.tree.Op.{Op}

mutual
  pub data Formula : Type 0 where
    truth : Bool → Formula
    -- a name with its arguments
    atom : Name → List Arg → Formula
    comparison : Arg → Op → Arg → Formula
    negation : Formula → Formula
    -- chains of `&`, of `|` and of `<->`, of two parts at least
    conjunction : Formulas → Formula
    disjunction : Formulas → Formula
    equivalence : Formulas → Formula
    implication : Formula → Formula → Formula
    -- whether it is universal, its variables, its body, and the place of the word that begins it
    quantified : Bool → List Binder → Formula → ℕ → Formula

  pub data Formulas : Type 0 where
    no_formulas : Formulas
    with_formula : Formula → Formulas → Formulas

mutual
  pub data Statement : Type 0 where
    requirement : Formula → Statement
    -- a name with its arguments, and the right side
    assignment : Name → List Arg → Formula → Statement
    conditional : Formula → Statements → Statements → Statement
    with_locals : List Binder → Statements → Statement

  pub data Statements : Type 0 where
    no_statements : Statements
    with_statement : Statement → Statements → Statements

pub data Declaration : Type 0 where
  -- a type, and whether it is ordered
  sort : Name → Bool → Declaration
  relation : Name → List Binder → Declaration
  -- a name and its type
  individual : Name → Name → Declaration
  -- the place of the word that begins it
  axiom_of : Formula → ℕ → Declaration
  init : Statements → Declaration
  -- a name, the parameters, the body, and whether `export` stands before it
  action : Name → List Binder → Statements → Bool → Declaration
  export : Name → Declaration
  -- the label, the formula, and the place of the word that begins it
  invariant : Option Name → Formula → ℕ → Declaration
