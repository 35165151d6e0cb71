-- How the variables of a clause stand for elements: apart from one another within a type, and increasing
-- where the type is ordered. One definition serves assignments, injections, renamings and printed guards.
use Rattle.std.specs.Prelude.{◌≡◌, ◌≢◌, ℕ, ◌<◌, Bool, true, false, List, [], length, Some, slice_get, slice_index, slice_index_or}
use Rattle.dai_model.specs.Protocol.{Protocol, Sort}

-- two variables of one type, the first of them earlier
abbrev pub Apart : Bool → ℕ → ℕ → Type 0
Apart true d e = d < e
Apart false d e = d ≢ e

-- elements below a size for so many variables of one type
pub record IsPlacement (ordered : Bool) (count size : ℕ) (elements : List ℕ) : Type 0 where
  pub one_each : length elements ≡ count
  pub inside : (i : ℕ) → i < count → slice_index elements i < size
  pub apart : (i j : ℕ) → i < j → j < count → Apart ordered (slice_index elements i) (slice_index elements j)

-- the numbers for a type, of one list for each type
abbrev pub of_sort : List (List ℕ) → ℕ → List ℕ
of_sort lists sort = slice_index_or lists sort []

-- for each type a placement of its variables among so many elements
pub record ArePlacements (P : Protocol) (counts sizes : List ℕ) (elements : List (List ℕ)) : Type 0 where
  pub one_list_each : length elements ≡ length P.sorts
  pub each : (sort : ℕ) (T : Sort) → slice_get P.sorts sort ≡ Some T → IsPlacement T.ordered (slice_index counts sort) (slice_index sizes sort) (of_sort elements sort)
