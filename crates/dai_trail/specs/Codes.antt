use Rattle.std.specs.Prelude.{◌≡◌, ◌+◌, ◌*◌, ◌/◌, ◌%◌, ◌<◌, ◌==◌, ℕ, Bool, true, false, List, [], length, map, slice_index, slice_index_or}
use Rattle.std.specs.List.{All}
use Rattle.dai_trail.specs.declared.cnf.Lit.{Lit}
use Rattle.dai_trail.specs.Formula.{Formula, value_at}

-- the digit of a truth value
abbrev pub digit : Bool → ℕ
digit true = 1
digit false = 0

-- a literal as one number: twice its variable, and 1 more where it is positive
abbrev pub code_of : Lit → ℕ
code_of l = 2 * l.var + digit l.positive

-- the literal that a number stands for
abbrev pub lit_of : ℕ → Lit
lit_of code = record { var = code / 2; positive = code % 2 == 1 }

-- the variables of coded clauses are below a count
abbrev pub AreBelow : ℕ → List (List ℕ) → Type 0
AreBelow count clauses = All (λ codes. (k : ℕ) → k < length codes → slice_index codes k / 2 < count) clauses

-- an assignment makes the coded literal true
abbrev pub Agrees : List Bool → ℕ → Type 0
Agrees bits code = digit (value_at bits (code / 2)) ≡ code % 2

-- an assignment makes each coded literal false
abbrev pub AreDenied : List Bool → List ℕ → Type 0
AreDenied bits codes = (k : ℕ) → k < length codes → Agrees bits (slice_index codes k) → ⊥

-- the literals of a clause as numbers
pub record AreCodesOf (formula : Formula) (number : ℕ) (codes : List ℕ) : Type 0 where
  pub lits : map lit_of codes ≡ slice_index_or formula.clauses number []
  pub below : (k : ℕ) → k < length codes → slice_index codes k / 2 < formula.vars
