-- Elements for the variables of a clause in one array, four places for each type.
use Rattle.std.specs.Prelude.{◌≡◌, ℕ, ◌+◌, ◌*◌, ◌<◌, ◌≤◌, Bool, true, false, ◌≢◌, not, if◌then◌else◌, nat_eq, List, [], length, map, slice_index, slice_index_or, Some, slice_get, ◌⊎◌}
use Rattle.std.specs.List.{All, Contains, list_any}
use Rattle.dai_model.specs.Protocol.{Protocol, Sort, Relation, Individual}
use Rattle.dai_model.specs.Structure as Model
use Rattle.dai_model.specs.Structure.{is_tuple}
use Rattle.dai_model.specs.Clause.{Variable, Literal, Atom, tuple, is_individual, atoms_of, literal_among, literal_value}
use Rattle.dai_model.specs.Placement.{Apart, of_sort, ArePlacements}
use Rattle.dai_logic.specs.declared.structure.Structure.{Structure}
use Rattle.dai_logic.specs.Tables.{structure_of, tables_of, tuple_count, Fits}
use Rattle.dai_template.specs.ClauseFormulas.{orders_of}

abbrev pub element_in : List ℕ → Variable → ℕ
element_in values v = slice_index values (4 * v.sort + v.number)

abbrev pub sorts_of : List Variable → List ℕ
sorts_of vs = map (λ (v : Variable). v.sort) vs

-- the variables have places, and stand for a tuple of the relation, whose table is whole
pub record IsReadAt (s : Structure) (values : List ℕ) (relation : ℕ) (vs : List Variable) : Type 0 where
  pub long : length values ≡ 32
  pub places : All (λ (v : Variable). 4 * v.sort + v.number < length values) vs
  pub tuple : is_tuple s.sizes.items (sorts_of vs) (map (element_in values) vs) ≡ true
  pub known : relation < length (tables_of s)
  pub whole : length (slice_index_or (tables_of s) relation []) ≡ tuple_count s.sizes.items (sorts_of vs)

-- the atom is one of the protocol's
abbrev pub IsNamed : Protocol → Atom → Type 0
IsNamed P (tuple r vs) = (R : Relation) × (slice_get P.relations r ≡ Some R) × (sorts_of vs ≡ R.arguments)
IsNamed P (is_individual v i) = (I : Individual) × (slice_get P.individuals i ≡ Some I) × (v.sort ≡ I.sort)

-- the variables have places, and the relation, with its table, or the individual is there
abbrev pub IsValued : Protocol → Structure → List ℕ → Atom → Type 0
IsValued P s values (tuple r vs) = IsReadAt s values r vs × ((R : Relation) × (slice_get P.relations r ≡ Some R) × (sorts_of vs ≡ R.arguments))
IsValued P s values (is_individual v i) = (length values ≡ 32) × (4 * v.sort + v.number < 32) × (i < length s.values.items)

abbrev pub atom_in : Model.Structure → List ℕ → Atom → Bool
atom_in s values (tuple r vs) = s.holds r (map (element_in values) vs)
atom_in s values (is_individual v i) = nat_eq (element_in values v) (s.element i)

abbrev pub literal_in : Model.Structure → List ℕ → Literal → Bool
literal_in s values l = if l.negated then not (atom_in s values l.atom) else atom_in s values l.atom

-- the variable comes before this one of this type
abbrev pub Before : ℕ → ℕ → ℕ → ℕ → Type 0
Before t i sort number = (t < sort) ⊎ ((t ≡ sort) × (i < number))

-- the elements for the variables before one are those of the array
abbrev pub Agree : List ℕ → ℕ → ℕ → List (List ℕ) → List ℕ → Type 0
Agree counts sort number elements values = (t i : ℕ) → i < slice_index counts t → Before t i sort number → slice_index (of_sort elements t) i ≡ slice_index values (4 * t + i)

-- the elements for the variables before one are placed
pub record IsBegun (P : Protocol) (sizes counts : List ℕ) (sort number : ℕ) (values : List ℕ) : Type 0 where
  pub long : length values ≡ 32
  pub inside : (t i : ℕ) → i < slice_index counts t → Before t i sort number → slice_index values (4 * t + i) < slice_index sizes t
  pub apart : (t : ℕ) (T : Sort) (i j : ℕ) → slice_get P.sorts t ≡ Some T → i < j → j < slice_index counts t → Before t j sort number → Apart T.ordered (slice_index values (4 * t + i)) (slice_index values (4 * t + j))

-- a shape of the protocol with literals over it, and a structure that fits
pub record IsJudged (P : Protocol) (orders : List Bool) (counts : List ℕ) (atoms : List Atom) (literals : List ℕ) (s : Structure) : Type 0 where
  pub fits : Fits P s
  pub orders_are : orders ≡ orders_of P
  pub atoms_are : atoms ≡ atoms_of P counts
  pub of_the_shape : All (λ literal. literal < 2 * length atoms) literals
  pub each : length counts ≡ length P.sorts
  pub few_types : length counts ≤ 8
  pub few : (t : ℕ) → slice_index counts t ≤ 4

-- the element may stand for this variable beside those of the variables before it
abbrev pub MayStand : Bool → ℕ → ℕ → ℕ → List ℕ → Type 0
MayStand ordered sort number e values = (i : ℕ) → i < number → Apart ordered (slice_index values (4 * sort + i)) e

-- a variable of the atom
abbrev pub IsVariableIn : Variable → Atom → Type 0
IsVariableIn v (tuple r vs) = Contains vs v
IsVariableIn v (is_individual w i) = v ≡ w

-- each variable of the atom
abbrev pub AreAll : (Variable → Type 0) → Atom → Type 0
AreAll Q (tuple r vs) = All Q vs
AreAll Q (is_individual v i) = Q v

-- the variable stands for the element in its place
abbrev pub IsBound : List Bool → Variable → Type 0
IsBound bound v = slice_index_or bound (4 * v.sort + v.number) false ≡ true

-- at least as many elements of each type as variables
abbrev pub AreEnough : List ℕ → List ℕ → Type 0
AreEnough counts sizes = (t : ℕ) → slice_index counts t ≤ slice_index sizes t

-- an ordered type has elements below and above for the variables before and after this one
abbrev pub HasRoom : Bool → ℕ → ℕ → ℕ → ℕ → Type 0
HasRoom true count size i e = (i ≤ e) × (e + count ≤ size + i)
HasRoom false count size i e = Unit {0}

-- two elements for two variables of one type, the first of them earlier: apart, and in an ordered type with room
-- for the variables between
abbrev pub AreSpaced : Bool → ℕ → ℕ → ℕ → ℕ → Type 0
AreSpaced true i e j f = e + j ≤ f + i
AreSpaced false i e j f = e ≢ f

-- the same, whichever of them is earlier
abbrev pub IsBeside : Bool → ℕ → ℕ → ℕ → ℕ → Type 0
IsBeside ordered i e j f = (i < j → AreSpaced ordered i e j f) × (j < i → AreSpaced ordered j f i e)

-- the element may stand for this variable beside those of the others, with room for all variables of the type
abbrev pub LeavesRoom : Bool → ℕ → ℕ → ℕ → ℕ → ℕ → List Bool → List ℕ → Type 0
LeavesRoom ordered count size sort number e bound values = HasRoom ordered count size number e × ((i : ℕ) → i < count → IsBound bound (record { sort = sort; number = i }) → IsBeside ordered number e i (slice_index values (4 * sort + i)))

-- elements for some of the variables, with room for the others
pub record IsPartial (P : Protocol) (sizes counts : List ℕ) (bound : List Bool) (values : List ℕ) : Type 0 where
  pub places : length bound ≡ 32
  pub long : length values ≡ 32
  pub inside : (t i : ℕ) → i < slice_index counts t → IsBound bound (record { sort = t; number = i }) → slice_index values (4 * t + i) < slice_index sizes t
  pub room : (t : ℕ) (T : Sort) (i : ℕ) → slice_get P.sorts t ≡ Some T → i < slice_index counts t → IsBound bound (record { sort = t; number = i }) → HasRoom T.ordered (slice_index counts t) (slice_index sizes t) i (slice_index values (4 * t + i))
  pub spaced : (t : ℕ) (T : Sort) (i j : ℕ) → slice_get P.sorts t ≡ Some T → i < j → j < slice_index counts t → IsBound bound (record { sort = t; number = i }) → IsBound bound (record { sort = t; number = j }) → AreSpaced T.ordered i (slice_index values (4 * t + i)) j (slice_index values (4 * t + j))

-- the elements are those of the array for the variables that have theirs there
abbrev pub IsCompletion : List ℕ → List Bool → List ℕ → List (List ℕ) → Type 0
IsCompletion counts bound values elements = (t i : ℕ) → i < slice_index counts t → IsBound bound (record { sort = t; number = i }) → slice_index (of_sort elements t) i ≡ slice_index values (4 * t + i)

-- whatever the other variables stand for, some of the literals is true
abbrev pub IsMetFrom : Protocol → List ℕ → List Atom → List ℕ → Structure → List Bool → List ℕ → Type 0
IsMetFrom P counts atoms literals s bound values = (elements : List (List ℕ)) → ArePlacements P counts s.sizes.items elements → IsCompletion counts bound values elements → list_any (literal_value (structure_of P s) elements) (map (literal_among atoms) literals) ≡ true

-- what is asked of a search that has come to this literal
pub record IsOpen (orders : List Bool) (counts : List ℕ) (atoms : List Atom) (literals : List ℕ) (s : Structure) (at : ℕ) (bound : List Bool) (values : List ℕ) : Type 0 where
  pub protocol : Protocol
  pub judged : IsJudged protocol orders counts atoms literals s
  pub partial : IsPartial protocol s.sizes.items counts bound values
  pub enough : AreEnough counts s.sizes.items
  pub inside : at ≤ length literals
