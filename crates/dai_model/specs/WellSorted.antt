-- Well-sorted protocols: every term has the type that its place asks for, and nothing assigns a symbol that
-- an axiom names.
use Rattle.std.specs.Prelude.{slice_index_or, ◌≡◌, ℕ, ◌<◌, ◌||◌, Bool, false, List, [], ◌∷◌, map, length, Option, Some, None, slice_get, nat_eq, IsTrue, if◌then◌else◌}
use Rattle.std.specs.Option.{option_map}
use Rattle.std.specs.List.{All, list_any}
use Rattle.dai_model.specs.Formula.{Term, variable, individual, parameter, choice, Formula, truth, relates, same, less, less_or_same, negation, conjunction, disjunction, implication, equivalence, universal, existential, Formulas, no_formulas, with_formula, Statement, requirement, update_relation, update_individual, conditional, Statements, no_statements, with_statement}
use Rattle.dai_model.specs.Protocol.{Protocol, Sort, Relation, Individual, Block, Action, Invariant}
use Rattle.dai_model.specs.Value.{Environment}

-- the types of the variables in scope, and of the parameters and choices
pub record Scope : Type 0 where
  pub variables : ℕ → Option ℕ
  pub parameters : List ℕ
  pub choices : List ℕ

abbrev pub scope_of : Block → Scope
scope_of block = record { variables = λ _. None; parameters = block.parameters; choices = block.choices }

abbrev pub closed_scope : Scope
closed_scope = record { variables = λ _. None; parameters = []; choices = [] }

abbrev pub with_variable : Scope → ℕ → ℕ → Scope
with_variable scope v sort = record scope { variables = λ w. if nat_eq w v then Some sort else scope.variables w }

abbrev pub sort_of : Protocol → Scope → Term → Option ℕ
sort_of P scope (variable v) = scope.variables v
sort_of P scope (individual i) = option_map (λ (I : Individual). I.sort) (slice_get P.individuals i)
sort_of P scope (parameter p) = slice_get scope.parameters p
sort_of P scope (choice c) = slice_get scope.choices c

abbrev pub HasSort : Protocol → Scope → Term → ℕ → Type 0
HasSort P scope t sort = sort_of P scope t ≡ Some sort

-- terms of these types, in order
abbrev pub HaveSorts : Protocol → Scope → List Term → List ℕ → Type 0
HaveSorts P scope ts sorts = map (sort_of P scope) ts ≡ map Some sorts

abbrev pub IsOrdered : Protocol → ℕ → Type 0
IsOrdered P sort = (T : Sort) × (slice_get P.sorts sort ≡ Some T) × IsTrue T.ordered

abbrev pub RelatesWell : Protocol → Scope → ℕ → List Term → Type 0
RelatesWell P scope r ts = (R : Relation) × (slice_get P.relations r ≡ Some R) × HaveSorts P scope ts R.arguments

abbrev mutual
  pub IsWellSorted : Protocol → Scope → Formula → Type 0
  IsWellSorted P scope (truth b) = Unit {0}
  IsWellSorted P scope (relates r ts) = RelatesWell P scope r ts
  IsWellSorted P scope (same a b) = (sort : ℕ) × HasSort P scope a sort × HasSort P scope b sort
  IsWellSorted P scope (less a b) = (sort : ℕ) × HasSort P scope a sort × HasSort P scope b sort × IsOrdered P sort
  IsWellSorted P scope (less_or_same a b) = (sort : ℕ) × HasSort P scope a sort × HasSort P scope b sort × IsOrdered P sort
  IsWellSorted P scope (negation f) = IsWellSorted P scope f
  IsWellSorted P scope (conjunction fs) = AreWellSorted P scope fs
  IsWellSorted P scope (disjunction fs) = AreWellSorted P scope fs
  IsWellSorted P scope (implication f g) = IsWellSorted P scope f × IsWellSorted P scope g
  IsWellSorted P scope (equivalence fs) = AreWellSorted P scope fs
  IsWellSorted P scope (universal v sort f) = (sort < length P.sorts) × IsWellSorted P (with_variable scope v sort) f
  IsWellSorted P scope (existential v sort f) = (sort < length P.sorts) × IsWellSorted P (with_variable scope v sort) f

  pub AreWellSorted : Protocol → Scope → Formulas → Type 0
  AreWellSorted P scope no_formulas = Unit {0}
  AreWellSorted P scope (with_formula f fs) = IsWellSorted P scope f × AreWellSorted P scope fs

-- the target's variables have the types of their places
abbrev pub target_scope : Scope → List Term → List ℕ → Scope
target_scope scope [] sorts = scope
target_scope scope (t ∷ ts) [] = scope
target_scope scope (variable v ∷ ts) (sort ∷ sorts) = target_scope (with_variable scope v sort) ts sorts
target_scope scope (individual i ∷ ts) (sort ∷ sorts) = target_scope scope ts sorts
target_scope scope (parameter p ∷ ts) (sort ∷ sorts) = target_scope scope ts sorts
target_scope scope (choice c ∷ ts) (sort ∷ sorts) = target_scope scope ts sorts

abbrev pub UpdatesWell : Protocol → Scope → List Term → Formula → Relation → Type 0
UpdatesWell P scope target f R =
    let inside = target_scope scope target R.arguments in
    HaveSorts P inside target R.arguments × IsWellSorted P inside f

abbrev mutual
  pub IsWellSortedStatement : Protocol → Scope → Statement → Type 0
  IsWellSortedStatement P scope (requirement f) = IsWellSorted P scope f
  IsWellSortedStatement P scope (update_relation r target f) = (R : Relation) × (slice_get P.relations r ≡ Some R) × UpdatesWell P scope target f R
  IsWellSortedStatement P scope (update_individual i t) = (I : Individual) × (slice_get P.individuals i ≡ Some I) × HasSort P scope t I.sort
  IsWellSortedStatement P scope (conditional f first second) = IsWellSorted P scope f × IsWellSortedCode P scope first × IsWellSortedCode P scope second

  pub IsWellSortedCode : Protocol → Scope → Statements → Type 0
  IsWellSortedCode P scope no_statements = Unit {0}
  IsWellSortedCode P scope (with_statement c cs) = IsWellSortedStatement P scope c × IsWellSortedCode P scope cs

pub record IsWellSortedBlock (P : Protocol) (block : Block) : Type 0 where
  pub parameters : All (λ sort. sort < length P.sorts) block.parameters
  pub choices : All (λ sort. sort < length P.sorts) block.choices
  pub code : IsWellSortedCode P (scope_of block) block.code

-- each name in scope stands for an element of its type
pub record EnvironmentFits (scope : Scope) (sizes : List ℕ) (env : Environment) : Type 0 where
  pub variables : (v sort : ℕ) → scope.variables v ≡ Some sort → env.variables v < slice_index_or sizes sort 0
  pub parameters : (p sort : ℕ) → slice_get scope.parameters p ≡ Some sort → slice_index_or env.parameters p 0 < slice_index_or sizes sort 0
  pub choices : (c sort : ℕ) → slice_get scope.choices c ≡ Some sort → slice_index_or env.choices c 0 < slice_index_or sizes sort 0

-- what a formula may name and a statement may assign
pub data Symbol : Type 0 where
  a_relation : ℕ → Symbol
  an_individual : ℕ → Symbol

abbrev pub is_relation : Symbol → ℕ → Bool
is_relation (a_relation q) r = nat_eq q r
is_relation (an_individual j) r = false

abbrev pub is_the_individual : Symbol → ℕ → Bool
is_the_individual (a_relation q) i = false
is_the_individual (an_individual j) i = nat_eq j i

abbrev pub term_names : Symbol → Term → Bool
term_names x (variable v) = false
term_names x (individual i) = is_the_individual x i
term_names x (parameter p) = false
term_names x (choice c) = false

abbrev mutual
  pub names : Symbol → Formula → Bool
  names x (truth b) = false
  names x (relates r ts) = is_relation x r || list_any (term_names x) ts
  names x (same a b) = term_names x a || term_names x b
  names x (less a b) = term_names x a || term_names x b
  names x (less_or_same a b) = term_names x a || term_names x b
  names x (negation f) = names x f
  names x (conjunction fs) = some_names x fs
  names x (disjunction fs) = some_names x fs
  names x (implication f g) = names x f || names x g
  names x (equivalence fs) = some_names x fs
  names x (universal v sort f) = names x f
  names x (existential v sort f) = names x f

  pub some_names : Symbol → Formulas → Bool
  some_names x no_formulas = false
  some_names x (with_formula f fs) = names x f || some_names x fs

abbrev mutual
  pub assigns : Symbol → Statement → Bool
  assigns x (requirement f) = false
  assigns x (update_relation r target f) = is_relation x r
  assigns x (update_individual i t) = is_the_individual x i
  assigns x (conditional f first second) = some_assigns x first || some_assigns x second

  pub some_assigns : Symbol → Statements → Bool
  some_assigns x no_statements = false
  some_assigns x (with_statement c cs) = assigns x c || some_assigns x cs

-- the block assigns nothing that an axiom names
abbrev pub SparesAxioms : Protocol → Block → Type 0
SparesAxioms P block = (x : Symbol) → All (λ f. IsTrue (names x f) → some_assigns x block.code ≡ false) P.axioms

pub record IsProtocol (P : Protocol) : Type 0 where
  pub relations : All (λ (R : Relation). All (λ sort. sort < length P.sorts) R.arguments) P.relations
  pub individuals : All (λ (I : Individual). I.sort < length P.sorts) P.individuals
  pub axioms : All (IsWellSorted P closed_scope) P.axioms
  pub init : IsWellSortedBlock P P.init
  pub no_arguments : P.init.parameters ≡ []
  pub actions : All (λ (a : Action). IsWellSortedBlock P a.block) P.actions
  pub invariants : All (λ (f : Invariant). IsWellSorted P closed_scope f.body) P.invariants
  pub init_spares : SparesAxioms P P.init
  pub actions_spare : All (λ (a : Action). SparesAxioms P a.block) P.actions
