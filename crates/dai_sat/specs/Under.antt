use Rattle.std.specs.Prelude.{◌≡◌, ◌+◌, ◌-◌, ◌*◌, ◌/◌, ◌^◌, ◌<◌, ◌≤◌, ◌⊎◌, ℕ, Bool, Option, Some, None, List, length, map, slice_index, IsTrue}
use Rattle.std.specs.List.{All, Contains}
use Rattle.dai_sat.specs.declared.answer.Outcome.{Outcome}
use Rattle.dai_sat.specs.declared.answer.Outcome.TheVariants.{Model, Unsat}
use Rattle.dai_sat.specs.declared.question.Found.{Found}
use Rattle.dai_sat.specs.declared.question.Found.TheVariants as found
use Rattle.dai_trail.specs.declared.cnf.Lit.{Lit}
use Rattle.dai_trail.specs.declared.trail.Trail.{Trail}
use Rattle.dai_trail.specs.declared.marks.Marks.{Marks}
use Rattle.dai_trail.specs.Formula.{Formula, IsModelOf, AreMetBy, IsTrueAt, IsContradiction}
use Rattle.dai_trail.specs.Codes.{lit_of}
use Rattle.dai_trail.specs.Trail.{IsDecision, IsTrueIn, IsSound, code_at, rank_of}
use Rattle.dai_trail.specs.Marks.{AreStamps, AgreesWithAll}

-- a literal is one of the assumptions
abbrev pub IsAsked : List ℕ → ℕ → Type 0
IsAsked asked code = (m : ℕ) × (m < length asked) × (slice_index asked m ≡ code)

-- each assumption stands below a place of the trail
abbrev pub AreAskedBelow : List ℕ → Trail → ℕ → Type 0
AreAskedBelow asked t floor = (k : ℕ) → k < length asked → (j : ℕ) × (j < floor) × (code_at t j ≡ slice_index asked k)

-- each decision is an assumption
abbrev pub AreDecisionsAsked : List ℕ → Trail → Type 0
AreDecisionsAsked asked t = (i : ℕ) → i < t.len → IsDecision t i → IsAsked asked (code_at t i)

-- the decisions below the floor are assumptions, and where one stands behind it all assumptions stand below it
pub record IsUnder (asked : List ℕ) (floor : ℕ) (t : Trail) : Type 0 where
  pub asks : (i : ℕ) → i < t.len → i < floor → IsDecision t i → IsAsked asked (code_at t i)
  pub met : (i : ℕ) → i < t.len → floor ≤ i → IsDecision t i → AreAskedBelow asked t floor

-- a decision stands at a place or behind it
pub record IsDecidedFrom (t : Trail) (floor : ℕ) : Type 0 where
  pub place : ℕ
  pub within : place < t.len
  pub behind : floor ≤ place
  pub decision : IsDecision t place

-- all assumptions stand on the trail
pub record IsPast (asked : List ℕ) (floor : ℕ) (t : Trail) : Type 0 where
  pub under : IsUnder asked floor t
  pub within : floor ≤ t.len
  pub met : AreAskedBelow asked t floor

-- an assumption is not true, and each decision is an assumption
pub record IsWanted (asked : List ℕ) (floor : ℕ) (t : Trail) (number : ℕ) : Type 0 where
  pub within : number < length asked
  pub unmet : IsTrueIn t (slice_index asked number) → ⊥
  pub asks : AreDecisionsAsked asked t
  pub far : length t.values.items ≤ floor

-- each name is a given literal or a decision of the trail
abbrev pub AreNames : Trail → ℕ → List ℕ → Type 0
AreNames t code names = (k : ℕ) → k < length names → (slice_index names k ≡ code) ⊎ ((i : ℕ) × (i < t.len) × IsDecision t i × (slice_index names k ≡ code_at t i))

-- no model makes the names true, each of which is a given literal or a decision
pub record AreFailed (formula : Formula) (t : Trail) (code : ℕ) (names : List ℕ) : Type 0 where
  pub sources : AreNames t code names
  pub refutes : (bits : List Bool) → AreMetBy formula bits → AgreesWithAll bits names → ⊥

-- no model makes the named literals true, each of which is one of the assumptions
pub record IsFailure (formula : Formula) (asked : List ℕ) (names : List Lit) : Type 0 where
  pub asks : All (λ l. Contains (map lit_of asked) l) names
  pub refutes : (bits : List Bool) → AreMetBy formula bits → All (IsTrueAt bits) names → ⊥

-- what a search came to is right
abbrev pub IsFoundFor : Formula → List ℕ → Found → Type 0
IsFoundFor formula asked (found.Model bits) = IsModelOf formula bits.items × All (IsTrueAt bits.items) (map lit_of asked)
IsFoundFor formula asked (found.Failed names) = IsFailure formula asked names.items
IsFoundFor formula asked found.Unsat = IsContradiction formula

-- after a choice: the rank fell, or something was found
abbrev pub IsChoiceOf : Formula → List ℕ → ℕ → Trail → Trail → Option Found → Type 0
IsChoiceOf formula asked floor old new None = (rank_of new < rank_of old) × IsUnder asked floor new
IsChoiceOf formula asked floor old new (Some found) = IsFoundFor formula asked found

-- each variable of the assumptions is below the count
abbrev pub AreAskedOf : Formula → List ℕ → Type 0
AreAskedOf formula asked = (k : ℕ) → k < length asked → slice_index asked k / 2 < formula.vars

-- a model that meets the assumptions, or some of the assumptions that no model meets
abbrev pub IsOutcomeOf : Formula → List Lit → Outcome → Type 0
IsOutcomeOf formula assumptions (Model bits) = IsModelOf formula bits.items × All (IsTrueAt bits.items) assumptions
IsOutcomeOf formula assumptions (Unsat names) = All (λ l. Contains assumptions l) names.items × ((bits : List Bool) → IsModelOf formula bits → All (IsTrueAt bits) names.items → ⊥)

-- a solver between two questions
pub record IsReady (formula : Formula) (learned : List (List ℕ)) (t : Trail) (m : Marks) (refuted : Bool) : Type 0 where
  pub sound : IsSound formula learned t
  pub stamps : AreStamps m (length t.values.items)
  pub room : length t.values.items ≤ formula.vars
  pub none : IsTrue refuted → IsContradiction formula

-- what is left to do after a number of restarts: it falls with each step of the search
abbrev pub effort : ℕ → Trail → ℕ
effort restarts t = (2 ^ 64 - 1 - restarts) * (3 ^ length t.values.items + 1) + rank_of t
