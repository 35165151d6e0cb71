-- Structures of model theory: a size for each type, a set of tuples for each relation, and an element for
-- each individual. Sizes are unbounded. The elements of a type of size n are the numbers below n, and an
-- ordered type is ordered as its numbers are.
use Rattle.std.specs.Prelude.{◌≡◌, ℕ, ◌<◌, ◌≤◌, ◌&&◌, Bool, true, false, List, [], ◌∷◌, length, Option, Some, None, slice_get, slice_index_or, nat_lt, IsTrue}
use Rattle.std.specs.List.{All}
use Rattle.dai_model.specs.Protocol.{Protocol, Individual, Relation}

pub record Structure : Type 0 where
  pub sizes : List ℕ
  -- whether the tuple is in the relation of this number
  pub holds : ℕ → List ℕ → Bool
  -- what the individual of this number is
  pub element : ℕ → ℕ

abbrev pub size_of : Structure → ℕ → ℕ
size_of s sort = slice_index_or s.sizes sort 0

-- one element of each of these types, in order
abbrev pub is_tuple : List ℕ → List ℕ → List ℕ → Bool
is_tuple sizes [] [] = true
is_tuple sizes [] (e ∷ es) = false
is_tuple sizes (sort ∷ sorts) [] = false
is_tuple sizes (sort ∷ sorts) (e ∷ es) = nat_lt e (slice_index_or sizes sort 0) && is_tuple sizes sorts es

abbrev pub is_tuple_for : List ℕ → Option Relation → List ℕ → Bool
is_tuple_for sizes None es = false
is_tuple_for sizes (Some r) es = is_tuple sizes r.arguments es

-- the tuples that the relation of this number may have
abbrev pub is_tuple_of : Protocol → List ℕ → ℕ → List ℕ → Bool
is_tuple_of P sizes relation es = is_tuple_for sizes (slice_get P.relations relation) es

-- A structure of the protocol. Outside the protocol's relations, individuals and elements nothing holds and
-- each element is 0, so that two structures which agree inside are the same one.
pub record IsStructure (P : Protocol) (s : Structure) : Type 0 where
  pub one_size_each : length s.sizes ≡ length P.sorts
  pub inhabited : All (λ size. 0 < size) s.sizes
  pub tuples_inside : (relation : ℕ) (es : List ℕ) → IsTrue (s.holds relation es) → IsTrue (is_tuple_of P s.sizes relation es)
  pub elements_inside : (i : ℕ) (I : Individual) → slice_get P.individuals i ≡ Some I → s.element i < size_of s I.sort
  pub nothing_outside : (i : ℕ) → length P.individuals ≤ i → s.element i ≡ 0
