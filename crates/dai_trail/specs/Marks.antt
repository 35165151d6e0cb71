use Rattle.std.specs.Prelude.{◌≡◌, ◌/◌, ◌<◌, ◌≤◌, ◌⊎◌, ◌++◌, ◌∷◌, ℕ, Bool, List, [], drop, length, slice_index}
use Rattle.dai_trail.specs.declared.trail.Trail.{Trail}
use Rattle.dai_trail.specs.declared.marks.Marks.{Marks}
use Rattle.dai_trail.specs.Formula.{Formula, AreMetBy}
use Rattle.dai_trail.specs.Codes.{Agrees, AreDenied}
use Rattle.dai_trail.specs.Trail.{IsFalseIn, IsDecision, code_at, place_of}

-- a variable is marked
abbrev pub IsMarked : Marks → ℕ → Type 0
IsMarked m var = slice_index m.stamps.items var ≡ m.stamp

-- there is a stamp for each variable, and none is newer than now
pub record AreStamps (m : Marks) (vars : ℕ) : Type 0 where
  pub room : length m.stamps.items ≡ vars
  pub positive : 0 < m.stamp
  pub newest : (var : ℕ) → slice_index m.stamps.items var ≤ m.stamp

-- for each marked variable its false literal was listed
pub record AreListed (m : Marks) (t : Trail) : Type 0 where
  pub listed : (var : ℕ) → IsMarked m var → (k : ℕ) × (k < length m.marked.items) × (slice_index m.marked.items k / 2 ≡ var) × IsFalseIn t (slice_index m.marked.items k)

-- what was marked is marked
pub record MarksMore (old new : Marks) : Type 0 where
  pub more : (var : ℕ) → IsMarked old var → IsMarked new var
  pub named : new.named.items ≡ old.named.items

-- one variable is not marked any more
pub record Unmarks (old new : Marks) (var : ℕ) : Type 0 where
  pub fewer : (u : ℕ) → IsMarked new u → IsMarked old u
  pub others : (u : ℕ) → (u ≡ var → ⊥) → IsMarked old u → IsMarked new u
  pub marked : new.marked.items ≡ old.marked.items
  pub named : new.named.items ≡ old.named.items

-- the variable of a literal is not marked any more, and the literal is named
pub record Names (old new : Marks) (code : ℕ) : Type 0 where
  pub fewer : (u : ℕ) → IsMarked new u → IsMarked old u
  pub others : (u : ℕ) → (u ≡ code / 2 → ⊥) → IsMarked old u → IsMarked new u
  pub marked : new.marked.items ≡ old.marked.items
  pub named : new.named.items ≡ old.named.items ++ code ∷ []

-- a literal is false, and marked unless it is so by the formula alone
abbrev pub IsCovered : Trail → Marks → ℕ → Type 0
IsCovered t m code = IsFalseIn t code × (IsMarked m (code / 2) ⊎ (place_of t (code / 2) < t.root))

-- a literal is covered, and of another variable than a given one
pub record IsCoveredBeside (t : Trail) (m : Marks) (apart code : ℕ) : Type 0 where
  pub other : code / 2 ≡ apart / 2 → ⊥
  pub covered : IsCovered t m code

-- each model makes some literal of the clause true
pub record IsImplied (formula : Formula) (codes : List ℕ) : Type 0 where
  pub implies : (bits : List Bool) → AreMetBy formula bits → AreDenied bits codes → ⊥

-- the other literals of some implied clause are covered, so that it makes the literal at a place true
pub record IsRedundantAt (formula : Formula) (t : Trail) (m : Marks) (place : ℕ) : Type 0 where
  pub codes : List ℕ
  pub implied : IsImplied formula codes
  pub covers : (k : ℕ) → k < length codes → (slice_index codes k ≡ code_at t place) ⊎ IsCoveredBeside t m (code_at t place) (slice_index codes k)

-- an assignment makes each coded literal true
abbrev pub AgreesWithAll : List Bool → List ℕ → Type 0
AgreesWithAll bits codes = (k : ℕ) → k < length codes → Agrees bits (slice_index codes k)

-- no model makes each marked literal of the trail and each named literal true
pub record MarksRefute (formula : Formula) (t : Trail) (m : Marks) : Type 0 where
  pub refutes : (bits : List Bool) → AreMetBy formula bits → AgreesWithAll bits m.named.items → ((i : ℕ) → i < t.len → IsMarked m (code_at t i / 2) → Agrees bits (code_at t i)) → ⊥

-- marks that are sound, and refute the trail
pub record AreMarks (formula : Formula) (t : Trail) (m : Marks) : Type 0 where
  pub stamps : AreStamps m (length t.values.items)
  pub listed : AreListed m t
  pub refute : MarksRefute formula t m

-- each literal is false by a literal below a place
pub record AreFalseBelow (t : Trail) (codes : List ℕ) (place : ℕ) : Type 0 where
  pub lost : (k : ℕ) → k < length codes → IsFalseIn t (slice_index codes k)
  pub below : (k : ℕ) → k < length codes → place_of t (slice_index codes k / 2) < place

-- back at this place all literals of a clause but the first are false, and that one is free
pub record IsUnitAt (t : Trail) (codes : List ℕ) (place : ℕ) : Type 0 where
  pub within : place < t.len
  pub decision : IsDecision t place
  pub some : 0 < length codes
  pub assigned : IsFalseIn t (slice_index codes 0)
  pub freed : place ≤ place_of t (slice_index codes 0 / 2)
  pub others : AreFalseBelow t (drop 1 codes) place
