use Rattle.std.specs.Prelude.{◌≡◌, ◌+◌, ◌*◌, ◌/◌, ◌%◌, ◌<◌, ◌≤◌, ◌==◌, ℕ, Bool, List, [], length, slice_index, slice_index_or, slice_set, take, nat_lt, if◌then◌else◌}
use Rattle.std.specs.List.{Any, sum_by}
use Rattle.dai_trail.specs.declared.trail.Trail.{Trail}
use Rattle.dai_trail.specs.declared.trail.TheConstants.{DECISION}
use Rattle.dai_trail.specs.Formula.{Formula, AreMetBy, IsModelOf, value_at}
use Rattle.dai_trail.specs.Codes.{digit, Agrees, AreDenied, AreCodesOf}
use Rattle.dai_trail.specs.Rank.{rank}

-- the value of a variable: 0 or 1, or at least 2 where it is free
abbrev pub value_in : Trail → ℕ → ℕ
value_in t var = slice_index_or t.values.items var 2

-- the literal at a place of the trail
abbrev pub code_at : Trail → ℕ → ℕ
code_at t i = slice_index t.codes.items i

-- the place of a variable's literal
abbrev pub place_of : Trail → ℕ → ℕ
place_of t var = slice_index t.places.items var

-- the literal at a place was decided
abbrev pub IsDecision : Trail → ℕ → Type 0
IsDecision t i = slice_index t.reasons.items i ≡ DECISION

abbrev pub IsTrueIn : Trail → ℕ → Type 0
IsTrueIn t code = value_in t (code / 2) ≡ code % 2

abbrev pub IsFalseIn : Trail → ℕ → Type 0
IsFalseIn t code = value_in t (code / 2) + code % 2 ≡ 1

-- a variable is below the count and has no value
abbrev pub IsOpenIn : Trail → ℕ → Type 0
IsOpenIn t var = (var < length t.values.items) × (2 ≤ value_in t var)

abbrev pub IsFreeIn : Trail → ℕ → Type 0
IsFreeIn t code = IsOpenIn t (code / 2)

-- 1 for a value, 0 for a free variable
abbrev pub one_if_assigned : ℕ → ℕ
one_if_assigned value = if nat_lt value 2 then 1 else 0

-- the literals on the trail are the variables with a value, each once
pub record IsMirror (t : Trail) : Type 0 where
  pub codes_room : length t.codes.items ≡ length t.values.items
  pub reasons_room : length t.reasons.items ≡ length t.values.items
  pub places_room : length t.places.items ≡ length t.values.items
  pub count : t.len ≤ sum_by one_if_assigned t.values.items
  pub placed : (var : ℕ) → value_in t var < 2 → place_of t var < t.len
  pub named : (var : ℕ) → value_in t var < 2 → code_at t (place_of t var) ≡ 2 * var + value_in t var
  pub entered : (i : ℕ) → i < t.len → place_of t (code_at t i / 2) ≡ i
  pub holding : (i : ℕ) → i < t.len → IsTrueIn t (code_at t i)

-- a trail between two steps: nothing was decided below the root, and below `next` no variable is free
pub record IsTrail (t : Trail) : Type 0 where
  pub mirror : IsMirror t
  pub root_in : t.root ≤ t.len
  pub root_forced : (i : ℕ) → i < t.root → IsDecision t i → ⊥
  pub next_after : (u : ℕ) → u < t.next → value_in t u < 2

-- one more literal
pub record Enters (old new : Trail) (code reason : ℕ) : Type 0 where
  pub codes : new.codes.items ≡ slice_set old.codes.items old.len code
  pub reasons : new.reasons.items ≡ slice_set old.reasons.items old.len reason
  pub len : new.len ≡ old.len + 1
  pub head : new.head ≡ old.head
  pub room : length new.values.items ≡ length old.values.items

-- more variables, which are free
pub record Widens (old new : Trail) : Type 0 where
  pub len : new.len ≡ old.len
  pub codes : (i : ℕ) → code_at new i ≡ code_at old i
  pub reasons : (i : ℕ) → slice_index new.reasons.items i ≡ slice_index old.reasons.items i

-- no literal but decisions has a reason any more
pub record ForgetsReasons (old new : Trail) : Type 0 where
  pub codes : new.codes.items ≡ old.codes.items
  pub values : new.values.items ≡ old.values.items
  pub len : new.len ≡ old.len
  pub decisions : (i : ℕ) → i < old.len → IsDecision new i → IsDecision old i
  pub kept : (i : ℕ) → i < old.len → IsDecision old i → IsDecision new i

-- back to the literals below a place
pub record CutsTo (old new : Trail) (place : ℕ) : Type 0 where
  pub codes : new.codes.items ≡ old.codes.items
  pub reasons : new.reasons.items ≡ old.reasons.items
  pub places : new.places.items ≡ old.places.items
  pub len : new.len ≡ place
  pub room : length new.values.items ≡ length old.values.items

-- an assignment makes each literal below a place of the trail true
abbrev pub AgreesBelow : List Bool → Trail → ℕ → Type 0
AgreesBelow bits t k = (i : ℕ) → i < k → Agrees bits (code_at t i)

-- an assignment makes each decision below a place of the trail true
abbrev pub AgreesWithDecisions : List Bool → Trail → ℕ → Type 0
AgreesWithDecisions bits t k = (i : ℕ) → i < k → IsDecision t i → Agrees bits (code_at t i)

-- each model that makes the decisions below a place true makes each literal below it true
pub record IsForced (formula : Formula) (t : Trail) : Type 0 where
  pub entails : (bits : List Bool) → AreMetBy formula bits → (k : ℕ) → k ≤ t.len → AgreesWithDecisions bits t k → AgreesBelow bits t k

-- each model makes some literal of each clause true
pub record AreImplied (formula : Formula) (clauses : List (List ℕ)) : Type 0 where
  pub implies : (bits : List Bool) → AreMetBy formula bits → (k : ℕ) → k < length clauses → AreDenied bits (slice_index_or clauses k []) → ⊥

-- a trail between two steps, whose literals follow from its decisions, and learned clauses that follow
pub record IsSound (formula : Formula) (learned : List (List ℕ)) (t : Trail) : Type 0 where
  pub trail : IsTrail t
  pub forced : IsForced formula t
  pub implied : AreImplied formula learned

-- each decision of the new trail stood in the old one, behind the same literals
pub record KeepsDecisions (old new : Trail) : Type 0 where
  pub stood : (i : ℕ) → i < new.len → IsDecision new i → (i < old.len) × IsDecision old i
  pub same : (i : ℕ) → i < new.len → IsDecision new i → (j : ℕ) → j ≤ i → code_at new j ≡ code_at old j
  pub room : length new.values.items ≡ length old.values.items

-- each decision took the preferred value
pub record IsGuided (prefers : ℕ → Bool → Type 0) (t : Trail) : Type 0 where
  pub preferred : (i : ℕ) → i < t.len → IsDecision t i → prefers (code_at t i / 2) (code_at t i % 2 == 1)

-- each decision was made at the first variable with no value
pub record IsOrdered (t : Trail) : Type 0 where
  pub ordered : (i : ℕ) → i < t.len → IsDecision t i → (u : ℕ) → u < code_at t i / 2 → (j : ℕ) × (j < i) × (code_at t j / 2 ≡ u)

-- no model makes each literal of the trail true
pub record IsRefuted (formula : Formula) (t : Trail) : Type 0 where
  pub refutes : (bits : List Bool) → AreMetBy formula bits → AgreesBelow bits t t.len → ⊥

-- some literal of each clause is true
pub record MeetsClauses (formula : Formula) (t : Trail) : Type 0 where
  pub met : (number : ℕ) → number < length formula.clauses → (codes : List ℕ) × AreCodesOf formula number codes × Any (IsTrueIn t) codes

-- no literal of a clause is true
pub record MissesClause (formula : Formula) (t : Trail) (number : ℕ) : Type 0 where
  pub within : number < length formula.clauses
  pub codes : List ℕ
  pub are_codes : AreCodesOf formula number codes
  pub unmet : Any (IsTrueIn t) codes → ⊥

-- a model of the formula that has the values of the trail
pub record IsFullModel (formula : Formula) (t : Trail) (bits : List Bool) : Type 0 where
  pub model : IsModelOf formula bits
  pub same : (var : ℕ) → var < formula.vars → digit (value_at bits var) ≡ value_in t var

-- the rank of a trail: it falls with each step of the solver
abbrev pub rank_of : Trail → ℕ
rank_of t = rank (length t.values.items) (take t.len t.reasons.items)
