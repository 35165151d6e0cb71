-- Shapes, atoms and clauses (after DistAI's templates). A shape gives each type a number of variables. Its
-- atoms are numbered in a fixed order, and a literal is twice its atom's number, plus 1 where it is negated.
use Rattle.std.specs.Prelude.{ℕ, ◌/◌, ◌%◌, Bool, not, List, [], ◌∷◌, ◌++◌, map, nat_eq, slice_index, slice_index_or, IsTrue, zero, suc, if◌then◌else◌}
use Rattle.std.specs.List.{Contains, list_any, flat_map, enumerate_from}
use Rattle.dai_model.specs.Protocol.{Protocol, Relation, Individual}
use Rattle.dai_model.specs.Structure.{Structure}
use Rattle.dai_model.specs.Placement.{of_sort, ArePlacements}

-- a type and the variable's own number within it
pub record Variable : Type 0 where
  pub sort : ℕ
  pub number : ℕ

pub data Atom : Type 0 where
  tuple : ℕ → List Variable → Atom
  is_individual : Variable → ℕ → Atom

abbrev pub numbers_below : ℕ → List ℕ
numbers_below zero = []
numbers_below (suc n) = numbers_below n ++ n ∷ []

abbrev pub variables_of : List ℕ → ℕ → List Variable
variables_of counts sort = map (λ (n : ℕ). record { sort = sort; number = n }) (numbers_below (slice_index counts sort))

-- one member of each list, in lexicographic order
abbrev pub choose_each : List (List Variable) → List (List Variable)
choose_each [] = [] ∷ []
choose_each (vs ∷ rest) = flat_map (λ v. map (λ (chosen : List Variable). v ∷ chosen) (choose_each rest)) vs

abbrev pub relation_atoms : List ℕ → ℕ × Relation → List Atom
relation_atoms counts r = map (tuple r.0) (choose_each (map (variables_of counts) r.1.arguments))

abbrev pub individual_atoms : List ℕ → ℕ × Individual → List Atom
individual_atoms counts i = map (λ (v : Variable). is_individual v i.0) (variables_of counts i.1.sort)

-- the atoms of a shape: for each relation its tuples of variables, then for each individual its equations
abbrev pub atoms_of : Protocol → List ℕ → List Atom
atoms_of P counts = flat_map (relation_atoms counts) (enumerate_from 0 P.relations) ++ flat_map (individual_atoms counts) (enumerate_from 0 P.individuals)

-- a shape, by its number of variables of each type, and its literals
pub record Clause : Type 0 where
  pub counts : List ℕ
  pub literals : List ℕ

pub record Literal : Type 0 where
  pub atom : Atom
  pub negated : Bool

abbrev pub no_atom : Atom
no_atom = tuple 0 []

abbrev pub atom_number : ℕ → ℕ
atom_number literal = literal / 2

abbrev pub is_negated : ℕ → Bool
is_negated literal = nat_eq (literal % 2) 1

-- the literal of this number, over these atoms
abbrev pub literal_among : List Atom → ℕ → Literal
literal_among atoms literal = record { atom = slice_index_or atoms (atom_number literal) no_atom; negated = is_negated literal }

abbrev pub literals_of : Protocol → Clause → List Literal
literals_of P c = map (literal_among (atoms_of P c.counts)) c.literals

-- the element that the variable stands for
abbrev pub value_at : List (List ℕ) → Variable → ℕ
value_at elements v = slice_index (of_sort elements v.sort) v.number

abbrev pub atom_value : Structure → List (List ℕ) → Atom → Bool
atom_value s elements (tuple r vs) = s.holds r (map (value_at elements) vs)
atom_value s elements (is_individual v i) = nat_eq (value_at elements v) (s.element i)

abbrev pub literal_value : Structure → List (List ℕ) → Literal → Bool
literal_value s elements l = if l.negated then not (atom_value s elements l.atom) else atom_value s elements l.atom

abbrev pub clause_value : Protocol → Structure → Clause → List (List ℕ) → Bool
clause_value P s c elements = list_any (literal_value s elements) (literals_of P c)

-- every placement of the clause's variables makes some literal true
abbrev pub Meets : Protocol → Structure → Clause → Type 0
Meets P s c = (elements : List (List ℕ)) → ArePlacements P c.counts s.sizes elements → IsTrue (clause_value P s c elements)

abbrev pub MeetsEach : Protocol → Structure → List Clause → Type 0
MeetsEach P s clauses = (c : Clause) → Contains clauses c → Meets P s c
