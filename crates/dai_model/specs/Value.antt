-- The value of a formula in a structure (Tarski). A quantifier ranges over all elements of its type.
use Rattle.std.specs.Prelude.{ℕ, zero, suc, ◌&&◌, ◌||◌, Bool, true, false, not, List, [], map, slice_index_or, nat_lt, nat_le, nat_eq, IsTrue, if◌then◌else◌}
use Rattle.std.specs.List.{All}
use Rattle.dai_model.specs.Formula.{Term, variable, individual, parameter, choice, Formula, truth, relates, same, less, less_or_same, negation, conjunction, disjunction, implication, equivalence, universal, existential, Formulas, no_formulas, with_formula}
use Rattle.dai_model.specs.Protocol.{Protocol}
use Rattle.dai_model.specs.Structure.{Structure, size_of}

-- what variables, parameters and choices stand for
pub record Environment : Type 0 where
  pub variables : ℕ → ℕ
  pub parameters : List ℕ
  pub choices : List ℕ

-- the environment of a block before any variable is bound
abbrev pub environment_of : List ℕ → List ℕ → Environment
environment_of arguments choices = record { variables = λ _. 0; parameters = arguments; choices = choices }

abbrev pub empty_environment : Environment
empty_environment = environment_of [] []

-- the variable stands for the element, all else as before
abbrev pub bind : Environment → ℕ → ℕ → Environment
bind env v e = record env { variables = λ w. if nat_eq w v then e else env.variables w }

-- whether all elements, or some element, of a type of this size pass the test
abbrev pub every : ℕ → (ℕ → Bool) → Bool
every zero test = true
every (suc n) test = every n test && test n

abbrev pub some : ℕ → (ℕ → Bool) → Bool
some zero test = false
some (suc n) test = some n test || test n

abbrev pub implies : Bool → Bool → Bool
implies true q = q
implies false q = true

abbrev pub agree : Bool → Bool → Bool
agree true q = q
agree false q = not q

abbrev pub value_of_term : Structure → Environment → Term → ℕ
value_of_term s env (variable v) = env.variables v
value_of_term s env (individual i) = s.element i
value_of_term s env (parameter p) = slice_index_or env.parameters p 0
value_of_term s env (choice c) = slice_index_or env.choices c 0

abbrev mutual
  pub value_of : Structure → Environment → Formula → Bool
  value_of s env (truth b) = b
  value_of s env (relates r ts) = s.holds r (map (value_of_term s env) ts)
  value_of s env (same a b) = nat_eq (value_of_term s env a) (value_of_term s env b)
  value_of s env (less a b) = nat_lt (value_of_term s env a) (value_of_term s env b)
  value_of s env (less_or_same a b) = nat_le (value_of_term s env a) (value_of_term s env b)
  value_of s env (negation f) = not (value_of s env f)
  value_of s env (conjunction fs) = all_hold s env fs
  value_of s env (disjunction fs) = some_holds s env fs
  value_of s env (implication f g) = implies (value_of s env f) (value_of s env g)
  value_of s env (equivalence fs) = all_agree s env fs
  value_of s env (universal v sort f) = every (size_of s sort) (λ e. value_of s (bind env v e) f)
  value_of s env (existential v sort f) = some (size_of s sort) (λ e. value_of s (bind env v e) f)

  pub all_hold : Structure → Environment → Formulas → Bool
  all_hold s env no_formulas = true
  all_hold s env (with_formula f fs) = value_of s env f && all_hold s env fs

  pub some_holds : Structure → Environment → Formulas → Bool
  some_holds s env no_formulas = false
  some_holds s env (with_formula f fs) = value_of s env f || some_holds s env fs

  -- a chain of `<->` by association: an even number of its parts is false
  pub all_agree : Structure → Environment → Formulas → Bool
  all_agree s env no_formulas = true
  all_agree s env (with_formula f fs) = agree (value_of s env f) (all_agree s env fs)

-- the structure gives the closed formula the value true
abbrev pub Satisfies : Structure → Formula → Type 0
Satisfies s f = IsTrue (value_of s empty_environment f)

abbrev pub SatisfiesAxioms : Protocol → Structure → Type 0
SatisfiesAxioms P s = All (Satisfies s) P.axioms
