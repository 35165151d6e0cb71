-- Relativised values: the value of a formula whose quantifiers range over sets of elements. Those that are
-- existential in force range over one set, those that are universal in force over another. A set is a test of a
-- type and an element.
use Rattle.std.specs.Prelude.{ℕ, ◌&&◌, ◌||◌, Bool, true, false, not, map, nat_lt, nat_le, nat_eq, IsTrue}
use Rattle.std.specs.Option.{IfSome}
use Rattle.dai_model.specs.Formula.{Formula, truth, relates, same, less, less_or_same, negation, conjunction, disjunction, implication, equivalence, universal, existential, Formulas, no_formulas, with_formula, Statement, requirement, update_relation, update_individual, conditional, Statements, no_statements, with_statement}
use Rattle.dai_model.specs.Protocol.{Protocol}
use Rattle.dai_model.specs.Structure.{Structure, size_of}
use Rattle.dai_model.specs.Value.{Environment, bind, every, some, implies, agree, value_of_term, value_of}
use Rattle.dai_model.specs.Execution.{after_statement}

pub record Ranges : Type 0 where
  pub existential : ℕ → ℕ → Bool
  pub universal : ℕ → ℕ → Bool

-- the range of a `forall`, and of an `exists`, under an even number of negations or under an odd one
abbrev pub range_of_every : Ranges → Bool → ℕ → ℕ → Bool
range_of_every R true = R.universal
range_of_every R false = R.existential

abbrev pub range_of_some : Ranges → Bool → ℕ → ℕ → Bool
range_of_some R true = R.existential
range_of_some R false = R.universal

abbrev mutual
  pub value_among : Structure → Ranges → Bool → Environment → Formula → Bool
  value_among s R even env (truth b) = b
  value_among s R even env (relates r ts) = s.holds r (map (value_of_term s env) ts)
  value_among s R even env (same a b) = nat_eq (value_of_term s env a) (value_of_term s env b)
  value_among s R even env (less a b) = nat_lt (value_of_term s env a) (value_of_term s env b)
  value_among s R even env (less_or_same a b) = nat_le (value_of_term s env a) (value_of_term s env b)
  value_among s R even env (negation f) = not (value_among s R (not even) env f)
  value_among s R even env (conjunction fs) = all_hold_among s R even env fs
  value_among s R even env (disjunction fs) = some_holds_among s R even env fs
  value_among s R even env (implication f g) = implies (value_among s R (not even) env f) (value_among s R even env g)
  value_among s R even env (equivalence fs) = all_agree_among s R even env fs
  value_among s R even env (universal v sort f) = every (size_of s sort) (λ e. implies (range_of_every R even sort e) (value_among s R even (bind env v e) f))
  value_among s R even env (existential v sort f) = some (size_of s sort) (λ e. range_of_some R even sort e && value_among s R even (bind env v e) f)

  pub all_hold_among : Structure → Ranges → Bool → Environment → Formulas → Bool
  all_hold_among s R even env no_formulas = true
  all_hold_among s R even env (with_formula f fs) = value_among s R even env f && all_hold_among s R even env fs

  pub some_holds_among : Structure → Ranges → Bool → Environment → Formulas → Bool
  some_holds_among s R even env no_formulas = false
  some_holds_among s R even env (with_formula f fs) = value_among s R even env f || some_holds_among s R even env fs

  pub all_agree_among : Structure → Ranges → Bool → Environment → Formulas → Bool
  all_agree_among s R even env no_formulas = true
  all_agree_among s R even env (with_formula f fs) = agree (value_among s R even env f) (all_agree_among s R even env fs)

-- every quantifier ranges over the chosen elements
abbrev pub within : (ℕ → ℕ → Bool) → Ranges
within chosen = record { existential = chosen; universal = chosen }

-- the witnesses are chosen elements; what is said of all is said of all elements
abbrev pub witnessed : (ℕ → ℕ → Bool) → Ranges
witnessed chosen = record { existential = chosen; universal = λ sort e. true }

-- where the formula stands under no negation, it is true with chosen elements for its existential quantifiers
abbrev pub IsWitnessed : Structure → (ℕ → ℕ → Bool) → Environment → Formula → Type 0
IsWitnessed s chosen env f = IsTrue (value_among s (witnessed chosen) true env f)

-- the one claim or the other, by a test
abbrev pub IfElse : Bool → Type 0 → Type 0 → Type 0
IfElse true A B = A
IfElse false A B = B

-- each requirement that is executed is true with chosen elements for its existential quantifiers
abbrev mutual
  pub HasWitnesses : Protocol → (ℕ → ℕ → Bool) → Environment → Statement → Structure → Type 0
  HasWitnesses P chosen env (requirement f) s = IsWitnessed s chosen env f
  HasWitnesses P chosen env (update_relation r target f) s = Unit {0}
  HasWitnesses P chosen env (update_individual i t) s = Unit {0}
  HasWitnesses P chosen env (conditional f first second) s = IfElse (value_of s env f) (HaveWitnesses P chosen env first s) (HaveWitnesses P chosen env second s)

  pub HaveWitnesses : Protocol → (ℕ → ℕ → Bool) → Environment → Statements → Structure → Type 0
  HaveWitnesses P chosen env no_statements s = Unit {0}
  HaveWitnesses P chosen env (with_statement c cs) s = HasWitnesses P chosen env c s × IfSome (after_statement P env c s) (HaveWitnesses P chosen env cs)
