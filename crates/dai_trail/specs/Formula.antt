use Rattle.std.specs.Prelude.{◌≡◌, ◌≢◌, ◌<◌, ℕ, Bool, false, List, length, slice_index_or}
use Rattle.std.specs.List.{All, Any}
use Rattle.dai_trail.specs.declared.cnf.Lit.{Lit}

-- a formula in conjunctive form: its number of variables and its clauses
pub record Formula : Type 0 where
  pub vars : ℕ
  pub clauses : List (List Lit)

-- the formula with these parts
abbrev pub formula_of : ℕ → List (List Lit) → Formula
formula_of vars clauses = record { vars = vars; clauses = clauses }

-- each literal's variable is below a count
abbrev pub IsBelow : ℕ → List Lit → Type 0
IsBelow count clause = All (λ l. l.var < count) clause

-- the value of a variable in an assignment
abbrev pub value_at : List Bool → ℕ → Bool
value_at bits var = slice_index_or bits var false

-- the literal's variable has the value that the literal wants
abbrev pub IsTrueAt : List Bool → Lit → Type 0
IsTrueAt bits l = value_at bits l.var ≡ l.positive

-- an assignment makes some literal of the clause true
abbrev pub IsMetBy : List Lit → List Bool → Type 0
IsMetBy clause bits = Any (IsTrueAt bits) clause

-- an assignment meets each clause of the formula
abbrev pub AreMetBy : Formula → List Bool → Type 0
AreMetBy formula bits = All (λ clause. IsMetBy clause bits) formula.clauses

-- an assignment of all variables that meets each clause
pub record IsModelOf (formula : Formula) (bits : List Bool) : Type 0 where
  pub whole : length bits ≡ formula.vars
  pub meets : AreMetBy formula bits

-- compared with any other model, at the first variable where the two differ it has the preferred value
pub record IsLeastModelOf (prefers : ℕ → Bool → Type 0) (formula : Formula) (bits : List Bool) : Type 0 where
  pub model : IsModelOf formula bits
  pub least : (other : List Bool) → IsModelOf formula other → (var : ℕ) → var < formula.vars → ((u : ℕ) → u < var → value_at bits u ≡ value_at other u) → value_at bits var ≢ value_at other var → prefers var (value_at bits var)

-- no assignment meets the clauses
abbrev pub IsUnsatisfiable : Formula → Type 0
IsUnsatisfiable formula = (bits : List Bool) → IsModelOf formula bits → ⊥

-- no assignment, of any length, meets the clauses
abbrev pub IsContradiction : Formula → Type 0
IsContradiction formula = (bits : List Bool) → AreMetBy formula bits → ⊥
