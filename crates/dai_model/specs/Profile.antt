-- The profile: what every accepted protocol keeps to besides being well-sorted. Axioms and invariants are
-- universal, requirements are exists-forall, and nothing else has a quantifier, so that a question about all
-- sizes is answered at computed sizes (Bernays and Schönfinkel 1928, Ramsey 1930).
--
-- A quantifier is universal in force where it is `forall` under an even number of negations or `exists` under
-- an odd number; the left side of an implication counts as one. Else it is existential in force.
use Rattle.std.specs.Prelude.{ℕ, ◌≤◌, ◌&&◌, ◌||◌, ◌++◌, Bool, true, false, not, List, [], ◌∷◌, map, length, nat_eq, IsTrue, if◌then◌else◌}
use Rattle.std.specs.List.{All, IsDistinct}
use Rattle.std.specs.Cmp.Lexicographic.{pointwise}
use Rattle.dai_model.specs.Formula.{Term, variable, individual, parameter, choice, Formula, truth, relates, same, less, less_or_same, negation, conjunction, disjunction, implication, equivalence, universal, existential, Formulas, no_formulas, with_formula, Statement, requirement, update_relation, update_individual, conditional, Statements, no_statements, with_statement}
use Rattle.dai_model.specs.Protocol.{Protocol, Sort, Relation, Individual, Block, Action, Invariant}
use Rattle.dai_model.specs.WellSorted.{IsProtocol}

abbrev mutual
  pub has_quantifier : Formula → Bool
  has_quantifier (truth b) = false
  has_quantifier (relates r ts) = false
  has_quantifier (same a b) = false
  has_quantifier (less a b) = false
  has_quantifier (less_or_same a b) = false
  has_quantifier (negation f) = has_quantifier f
  has_quantifier (conjunction fs) = some_have_quantifier fs
  has_quantifier (disjunction fs) = some_have_quantifier fs
  has_quantifier (implication f g) = has_quantifier f || has_quantifier g
  has_quantifier (equivalence fs) = some_have_quantifier fs
  has_quantifier (universal v sort f) = true
  has_quantifier (existential v sort f) = true

  pub some_have_quantifier : Formulas → Bool
  some_have_quantifier no_formulas = false
  some_have_quantifier (with_formula f fs) = has_quantifier f || some_have_quantifier fs

-- whether each quantifier is universal in force and none stands under `<->`, where the formula stands under an
-- even number of negations, or under an odd one
abbrev mutual
  pub is_universal : Bool → Formula → Bool
  is_universal even (truth b) = true
  is_universal even (relates r ts) = true
  is_universal even (same a b) = true
  is_universal even (less a b) = true
  is_universal even (less_or_same a b) = true
  is_universal even (negation f) = is_universal (not even) f
  is_universal even (conjunction fs) = are_universal even fs
  is_universal even (disjunction fs) = are_universal even fs
  is_universal even (implication f g) = is_universal (not even) f && is_universal even g
  is_universal even (equivalence fs) = not (some_have_quantifier fs)
  is_universal even (universal v sort f) = even && is_universal even f
  is_universal even (existential v sort f) = not even && is_universal even f

  pub are_universal : Bool → Formulas → Bool
  are_universal even no_formulas = true
  are_universal even (with_formula f fs) = is_universal even f && are_universal even fs

-- whether no quantifier that is existential in force stands inside one that is universal in force, and none
-- stands under `<->`
abbrev mutual
  pub is_exists_forall : Bool → Formula → Bool
  is_exists_forall even (truth b) = true
  is_exists_forall even (relates r ts) = true
  is_exists_forall even (same a b) = true
  is_exists_forall even (less a b) = true
  is_exists_forall even (less_or_same a b) = true
  is_exists_forall even (negation f) = is_exists_forall (not even) f
  is_exists_forall even (conjunction fs) = are_exists_forall even fs
  is_exists_forall even (disjunction fs) = are_exists_forall even fs
  is_exists_forall even (implication f g) = is_exists_forall (not even) f && is_exists_forall even g
  is_exists_forall even (equivalence fs) = not (some_have_quantifier fs)
  is_exists_forall even (universal v sort f) = if even then is_universal even f else is_exists_forall even f
  is_exists_forall even (existential v sort f) = if even then is_exists_forall even f else is_universal even f

  pub are_exists_forall : Bool → Formulas → Bool
  are_exists_forall even no_formulas = true
  are_exists_forall even (with_formula f fs) = is_exists_forall even f && are_exists_forall even fs

-- the types of the variables that are existential in force, in order
abbrev mutual
  pub witnesses : Bool → Formula → List ℕ
  witnesses even (truth b) = []
  witnesses even (relates r ts) = []
  witnesses even (same a b) = []
  witnesses even (less a b) = []
  witnesses even (less_or_same a b) = []
  witnesses even (negation f) = witnesses (not even) f
  witnesses even (conjunction fs) = witnesses_of_each even fs
  witnesses even (disjunction fs) = witnesses_of_each even fs
  witnesses even (implication f g) = witnesses (not even) f ++ witnesses even g
  witnesses even (equivalence fs) = witnesses_of_each even fs
  witnesses even (universal v sort f) = (if even then [] else sort ∷ []) ++ witnesses even f
  witnesses even (existential v sort f) = (if even then sort ∷ [] else []) ++ witnesses even f

  pub witnesses_of_each : Bool → Formulas → List ℕ
  witnesses_of_each even no_formulas = []
  witnesses_of_each even (with_formula f fs) = witnesses even f ++ witnesses_of_each even fs

-- the variables that the formula binds, in order
abbrev mutual
  pub bound_variables : Formula → List ℕ
  bound_variables (truth b) = []
  bound_variables (relates r ts) = []
  bound_variables (same a b) = []
  bound_variables (less a b) = []
  bound_variables (less_or_same a b) = []
  bound_variables (negation f) = bound_variables f
  bound_variables (conjunction fs) = bound_variables_of_each fs
  bound_variables (disjunction fs) = bound_variables_of_each fs
  bound_variables (implication f g) = bound_variables f ++ bound_variables g
  bound_variables (equivalence fs) = bound_variables_of_each fs
  bound_variables (universal v sort f) = v ∷ bound_variables f
  bound_variables (existential v sort f) = v ∷ bound_variables f

  pub bound_variables_of_each : Formulas → List ℕ
  bound_variables_of_each no_formulas = []
  bound_variables_of_each (with_formula f fs) = bound_variables f ++ bound_variables_of_each fs

-- the variables of a target, in order
abbrev pub target_variables : List Term → List ℕ
target_variables [] = []
target_variables (variable v ∷ ts) = v ∷ target_variables ts
target_variables (individual i ∷ ts) = target_variables ts
target_variables (parameter p ∷ ts) = target_variables ts
target_variables (choice c ∷ ts) = target_variables ts

-- the requirements of a block's code
abbrev mutual
  pub requirements_of : Statement → List Formula
  requirements_of (requirement f) = f ∷ []
  requirements_of (update_relation r target f) = []
  requirements_of (update_individual i t) = []
  requirements_of (conditional f first second) = requirements_in first ++ requirements_in second

  pub requirements_in : Statements → List Formula
  requirements_in no_statements = []
  requirements_in (with_statement c cs) = requirements_of c ++ requirements_in cs

-- the types of the variables that are existential in force in the requirements
abbrev pub witnesses_in : List Formula → List ℕ
witnesses_in [] = []
witnesses_in (f ∷ fs) = witnesses true f ++ witnesses_in fs

-- at most twelve variables, and each bound once
pub record BindsOnce (vs : List ℕ) : Type 0 where
  pub once : IsDistinct nat_eq vs
  pub few : length vs ≤ 12

pub record IsUniversalSentence (f : Formula) : Type 0 where
  pub force : IsTrue (is_universal true f)
  pub binds : BindsOnce (bound_variables f)

pub record IsExistsForallSentence (f : Formula) : Type 0 where
  pub force : IsTrue (is_exists_forall true f)
  pub binds : BindsOnce (bound_variables f)

-- a right side and a condition have no quantifier, and no variable stands twice in a target
abbrev mutual
  pub IsDirect : Statement → Type 0
  IsDirect (requirement f) = IsExistsForallSentence f
  IsDirect (update_relation r target f) = IsTrue (not (has_quantifier f)) × BindsOnce (target_variables target)
  IsDirect (update_individual i t) = Unit {0}
  IsDirect (conditional f first second) = IsTrue (not (has_quantifier f)) × AreDirect first × AreDirect second

  pub AreDirect : Statements → Type 0
  AreDirect no_statements = Unit {0}
  AreDirect (with_statement c cs) = IsDirect c × AreDirect cs

pub record IsBlockInProfile (block : Block) : Type 0 where
  pub direct : AreDirect block.code
  pub few_parameters : length block.parameters ≤ 6
  pub few_choices : length block.choices ≤ 6
  pub few_witnesses : length (witnesses_in (requirements_in block.code)) ≤ 16

-- types, relations, individuals and actions share one set of names
abbrev pub declared_names : Protocol → List (List ℕ)
declared_names P =
    map (λ (T : Sort). T.name) P.sorts
    ++ (map (λ (R : Relation). R.name) P.relations
    ++ (map (λ (I : Individual). I.name) P.individuals
    ++ map (λ (a : Action). a.name) P.actions))

pub record IsInProfile (P : Protocol) : Type 0 where
  pub named_apart : IsDistinct (pointwise nat_eq) (declared_names P)
  pub few_sorts : length P.sorts ≤ 8
  pub few_relations : length P.relations ≤ 64
  pub few_arguments : All (λ (R : Relation). length R.arguments ≤ 5) P.relations
  pub few_individuals : length P.individuals ≤ 16
  pub few_axioms : length P.axioms ≤ 64
  pub axioms : All IsUniversalSentence P.axioms
  pub init : IsBlockInProfile P.init
  pub few_actions : length P.actions ≤ 64
  pub actions : All (λ (a : Action). IsBlockInProfile a.block) P.actions
  pub few_invariants : length P.invariants ≤ 64
  pub invariants : All (λ (f : Invariant). IsUniversalSentence f.body) P.invariants

-- well-sorted and in the profile
pub record IsAccepted (P : Protocol) : Type 0 where
  pub sorted : IsProtocol P
  pub profile : IsInProfile P
