-- Renamings of a clause by an array of new numbers, four places for each type, and the canonical clause.
use Rattle.std.specs.Prelude.{◌≡◌, ◌≢◌, ℕ, ◌+◌, ◌*◌, ◌%◌, ◌<◌, ◌≤◌, ◌^◌, Bool, true, false, Some, slice_get, List, [], ◌∷◌, length, map, sum_by, take, slice_index, slice_index_or, if◌then◌else◌, nat_lt}
use Rattle.std.specs.List.{All, Contains}
use Rattle.std.specs.Ordering.{nat_cmp}
use Rattle.std.specs.Cmp.Lexicographic.{slice_cmp}
use Rattle.std.specs.declared.cmp.Ordering.TheVariants.{Less, Greater}
use Rattle.dai_model.specs.Protocol.{Protocol, Sort, Individual}
use Rattle.dai_model.specs.Placement.{ArePlacements}
use Rattle.dai_model.specs.Structure.{is_tuple}
use Rattle.dai_model.specs.Clause.{Variable, Atom, tuple, is_individual, atoms_of, atom_number, literal_among, no_atom}
use Rattle.dai_model.specs.Limits.{tuples_at}
use Rattle.dai_model.specs.Template.{Bounds}
use Rattle.dai_model.specs.Subsumption.{image_of, IsRenaming, IsCanonical}
use Rattle.dai_logic.specs.Counts.{tuple_place, tuple_count}
use Rattle.dai_template.specs.declared.clause.Clause.{Clause}
use Rattle.dai_template.specs.declared.space.Space.{Space}
use Rattle.dai_template.specs.Meeting.{element_in, sorts_of, Agree, IsBegun}
use Rattle.dai_template.specs.Spaces.{IsClauseOf, clause_of}

-- a number of an atom: as many atoms of the shape come before it
abbrev pub place_of_atom : Protocol → List ℕ → Atom → ℕ
place_of_atom P counts (tuple r vs) = sum_by (tuples_at counts) (take r P.relations) + tuple_place counts (sorts_of vs) (map (λ (v : Variable). v.number) vs)
place_of_atom P counts (is_individual v i) = sum_by (tuples_at counts) P.relations + sum_by (λ (I : Individual). slice_index counts I.sort) (take i P.individuals) + v.number

-- the variable, the atom and the literal's number under the new numbers
abbrev pub renamed_variable : List ℕ → Variable → Variable
renamed_variable to v = record { sort = v.sort; number = element_in to v }

abbrev pub renamed_atom : List ℕ → Atom → Atom
renamed_atom to (tuple r vs) = tuple r (map (renamed_variable to) vs)
renamed_atom to (is_individual v i) = is_individual (renamed_variable to v) i

abbrev pub renamed_literal : Protocol → List ℕ → List ℕ → ℕ → ℕ
renamed_literal P counts to l = 2 * place_of_atom P counts (renamed_atom to (literal_among (atoms_of P counts) l).atom) + l % 2

-- a number put into a list in order
abbrev pub put_in_order : ℕ → List ℕ → List ℕ
put_in_order n [] = n ∷ []
put_in_order n (m ∷ ms) = if nat_lt n m then n ∷ m ∷ ms else m ∷ put_in_order n ms

abbrev pub put_all_in_order : List ℕ → List ℕ → List ℕ
put_all_in_order [] sorted = sorted
put_all_in_order (n ∷ ns) sorted = put_all_in_order ns (put_in_order n sorted)

abbrev pub renamed_literals : Protocol → List ℕ → List ℕ → List ℕ → List ℕ
renamed_literals P counts to literals = put_all_in_order (map (renamed_literal P counts to) literals) []

-- literals of the shape in order, no atom twice
pub record AreLiterals (P : Protocol) (counts literals : List ℕ) : Type 0 where
  pub of_the_shape : All (λ l. l < 2 * length (atoms_of P counts)) literals
  pub each_atom_once : (i j : ℕ) → i < j → j < length literals → atom_number (slice_index literals i) < atom_number (slice_index literals j)

-- a shape of few variables and atoms, and which of the types keep their order
pub record IsShapeOf (P : Protocol) (orders : List Bool) (counts : List ℕ) (atoms : List Atom) : Type 0 where
  pub orders_are : (t : ℕ) (T : Sort) → slice_get P.sorts t ≡ Some T → slice_index_or orders t false ≡ T.ordered
  pub order_each : length counts ≤ length orders
  pub atoms_are : atoms ≡ atoms_of P counts
  pub each : length counts ≡ length P.sorts
  pub few_types : length counts ≤ 8
  pub few : (t : ℕ) → slice_index counts t ≤ 4
  pub few_atoms : length atoms ≤ 64

-- variables that have places, with new numbers in range
pub record IsPlaceable (counts to : List ℕ) (vs : List Variable) : Type 0 where
  pub long : length to ≡ 32
  pub places : All (λ (v : Variable). 4 * v.sort + v.number < length to) vs
  pub tuple : is_tuple counts (sorts_of vs) (map (element_in to) vs) ≡ true
  pub bound : tuple_count counts (sorts_of vs) < 2 ^ 64

-- all variables of a shape have new numbers
pub record IsRenamed (P : Protocol) (counts : List ℕ) (atoms : List Atom) (to : List ℕ) : Type 0 where
  pub orders : List Bool
  pub shape : IsShapeOf P orders counts atoms
  pub begun : IsBegun P counts counts (length counts) 0 to

-- the same of some protocol, with a literal of this atom
pub record IsRenamable (counts : List ℕ) (atom : Atom) (literal : ℕ) (to : List ℕ) : Type 0 where
  pub protocol : Protocol
  pub atoms : List Atom
  pub renamed : IsRenamed protocol counts atoms to
  pub inside : literal < 2 * length atoms
  pub is : atom ≡ slice_index_or atoms (atom_number literal) no_atom

-- an injection takes each of the literals to one of the others, which are as many
pub record IsImage (P : Protocol) (counts : List ℕ) (to : List (List ℕ)) (literals others : List ℕ) : Type 0 where
  pub are : AreLiterals P counts others
  pub as_many : length literals ≡ length others
  pub taken : (l : ℕ) → Contains literals l → Contains (map (literal_among (atoms_of P counts)) others) (image_of to (literal_among (atoms_of P counts) l))

-- a renaming gives literals that come before these
pub record IsSmallerImage (P : Protocol) (counts literals others : List ℕ) : Type 0 where
  pub to : List (List ℕ)
  pub places : ArePlacements P counts counts to
  pub image : IsImage P counts to literals others
  pub less : slice_cmp nat_cmp others literals ≡ Less

-- no renaming with these new numbers so far gives literals that come before these
abbrev pub IsLeastFrom : Protocol → List ℕ → List ℕ → ℕ → ℕ → List ℕ → Type 0
IsLeastFrom P counts literals sort number values = (to : List (List ℕ)) → ArePlacements P counts counts to → Agree counts sort number to values → (others : List ℕ) → IsImage P counts to literals others → slice_cmp nat_cmp literals others ≢ Greater

-- what is asked of a search that has come to this variable
pub record IsSought (orders : List Bool) (counts : List ℕ) (atoms : List Atom) (literals : List ℕ) (sort number : ℕ) (to : List ℕ) : Type 0 where
  pub protocol : Protocol
  pub shape : IsShapeOf protocol orders counts atoms
  pub literals_are : AreLiterals protocol counts literals
  pub few_literals : length literals ≤ 8
  pub begun : IsBegun protocol counts counts sort number to
  pub sort_inside : sort ≤ length counts
  pub number_inside : number ≤ slice_index counts sort

-- a renaming of the clause, which comes before it
pub record IsSmallerRenaming (P : Protocol) (B : Bounds) (space : Space) (c smaller : Clause) : Type 0 where
  pub of_the_space : IsClauseOf P B space smaller
  pub renaming : IsRenaming P (clause_of space c) (clause_of space smaller)
  pub less : slice_cmp nat_cmp smaller.lits.items c.lits.items ≡ Less

-- a canonical renaming of the clause
pub record IsCanonicalForm (P : Protocol) (B : Bounds) (space : Space) (c canonical : Clause) : Type 0 where
  pub of_the_space : IsClauseOf P B space canonical
  pub renaming : IsRenaming P (clause_of space c) (clause_of space canonical)
  pub least : IsCanonical P B (clause_of space canonical)

-- the types of the atom's variables are below a number
abbrev pub AreTypesBelow : ℕ → Atom → Type 0
AreTypesBelow n (tuple r vs) = All (λ (v : Variable). v.sort < n) vs
AreTypesBelow n (is_individual v i) = v.sort < n

-- a shape of few types, and literals over its atoms
pub record IsTyped (types : ℕ) (atoms : List Atom) (literals : List ℕ) : Type 0 where
  pub few : All (AreTypesBelow 8) atoms
  pub known : All (AreTypesBelow types) atoms
  pub inside : All (λ l. l < 2 * length atoms) literals

abbrev pub IsSame : List Bool → List Bool → ℕ → Type 0
IsSame kept ordered t = slice_index_or kept t false ≡ slice_index_or ordered t false

-- the types of the atom's variables are kept where they are ordered
abbrev pub AreAsOrdered : List Bool → List Bool → Atom → Type 0
AreAsOrdered kept ordered (tuple r vs) = All (λ (v : Variable). IsSame kept ordered v.sort) vs
AreAsOrdered kept ordered (is_individual v i) = IsSame kept ordered v.sort

-- the types of the atom's variables were let go, but for the ordered ones
pub record IsFreed (ordered old new : List Bool) (atom : Atom) : Type 0 where
  pub long : length new ≡ length old
  pub freed : AreAsOrdered new ordered atom
  pub stays : (t : ℕ) → IsSame old ordered t → IsSame new ordered t
  pub keeps : (t : ℕ) → slice_index_or ordered t false ≡ true → slice_index_or old t false ≡ true → slice_index_or new t false ≡ true

-- ordered types are kept, and of the literals' types no others
pub record AreKept (ordered : List Bool) (atoms : List Atom) (literals : List ℕ) (kept : List Bool) : Type 0 where
  pub long : length kept ≡ 8
  pub keeps : (t : ℕ) → t < 8 → slice_index_or ordered t false ≡ true → slice_index_or kept t false ≡ true
  pub freed : (k : ℕ) → k < length literals → AreAsOrdered kept ordered (literal_among atoms (slice_index literals k)).atom
