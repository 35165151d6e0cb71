-- Cuts: the substructure on a set of elements, renumbered in order. The set is a test of a type and an element.
use Rattle.std.specs.Prelude.{◌≡◌, ℕ, zero, suc, ◌+◌, ◌<◌, Bool, List, [], ◌∷◌, length, Some, slice_get, slice_index, nat_lt, nat_eq, count_by, IsTrue, if◌then◌else◌}
use Rattle.dai_model.specs.Protocol.{Protocol, Individual}
use Rattle.dai_model.specs.Structure.{Structure, IsStructure, size_of}
use Rattle.dai_model.specs.Clause.{Variable, value_at}
use Rattle.dai_cut.specs.Embedding.{IsEmbedding}

-- how many of the numbers below n pass the test
abbrev pub count_below : (ℕ → Bool) → ℕ → ℕ
count_below test zero = 0
count_below test (suc n) = count_below test n + (if test n then 1 else 0)

-- the one of them that has k of them below it
abbrev pub nth_below : (ℕ → Bool) → ℕ → ℕ → ℕ
nth_below test zero k = 0
nth_below test (suc n) k = if nat_lt k (count_below test n) then nth_below test n k else n

-- the chosen elements by their numbers in order, type by type
abbrev pub numbering : Structure → (ℕ → ℕ → Bool) → ℕ → ℕ → ℕ
numbering s chosen sort number = nth_below (chosen sort) (size_of s sort) number

-- the number of a chosen element
abbrev pub place_of : (ℕ → ℕ → Bool) → ℕ → ℕ → ℕ
place_of chosen sort e = count_below (chosen sort) e

-- the set has an element of each type and is closed under the individuals
pub record IsClosed (P : Protocol) (s : Structure) (chosen : ℕ → ℕ → Bool) : Type 0 where
  pub inhabited : (sort : ℕ) → sort < length P.sorts → (e : ℕ) × (e < size_of s sort) × IsTrue (chosen sort e)
  pub individuals : (i : ℕ) (I : Individual) → slice_get P.individuals i ≡ Some I → IsTrue (chosen I.sort (s.element i))

-- the structure that is embedded in s with the chosen elements as its image
pub record IsCut (P : Protocol) (s : Structure) (chosen : ℕ → ℕ → Bool) (small : Structure) : Type 0 where
  pub structure : IsStructure P small
  pub sizes : (sort : ℕ) → sort < length P.sorts → size_of small sort ≡ count_below (chosen sort) (size_of s sort)
  pub embedding : IsEmbedding P small s (numbering s chosen)

-- the set holds the elements of these types, in order
abbrev pub AreChosen : (ℕ → ℕ → Bool) → List ℕ → List ℕ → Type 0
AreChosen chosen [] es = Unit {0}
AreChosen chosen (sort ∷ sorts) [] = Unit {0}
AreChosen chosen (sort ∷ sorts) (e ∷ es) = IsTrue (chosen sort e) × AreChosen chosen sorts es

-- the set holds what each variable of the shape stands for
abbrev pub VariablesAreChosen : (ℕ → ℕ → Bool) → List ℕ → List (List ℕ) → Type 0
VariablesAreChosen chosen counts elements = (v : Variable) → v.number < slice_index counts v.sort → IsTrue (chosen v.sort (value_at elements v))

-- an element of a type
pub record Element : Type 0 where
  pub sort : ℕ
  pub number : ℕ

-- how many of the elements are of the type
abbrev pub count_in : ℕ → List Element → ℕ
count_in sort marks = count_by (λ (m : Element). nat_eq m.sort sort) marks

-- the set holds each of the elements
abbrev pub HoldsEach : (ℕ → ℕ → Bool) → List Element → Type 0
HoldsEach chosen [] = Unit {0}
HoldsEach chosen (m ∷ marks) = IsTrue (chosen m.sort m.number) × HoldsEach chosen marks
