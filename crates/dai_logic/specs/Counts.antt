-- How many tuples there are of some types, and the place of each in lexicographic order.
use Rattle.std.specs.Prelude.{ℕ, ◌+◌, ◌*◌, ◌/◌, ◌%◌, List, [], ◌∷◌, slice_index}

abbrev pub tuple_count : List ℕ → List ℕ → ℕ
tuple_count sizes [] = 1
tuple_count sizes (sort ∷ sorts) = slice_index sizes sort * tuple_count sizes sorts

-- the place of a tuple
abbrev pub tuple_place : List ℕ → List ℕ → List ℕ → ℕ
tuple_place sizes [] es = 0
tuple_place sizes (sort ∷ sorts) [] = 0
tuple_place sizes (sort ∷ sorts) (e ∷ es) = e * tuple_count sizes sorts + tuple_place sizes sorts es

-- the tuple at a place
abbrev pub tuple_at : List ℕ → List ℕ → ℕ → List ℕ
tuple_at sizes [] place = []
tuple_at sizes (sort ∷ sorts) place = place / tuple_count sizes sorts ∷ tuple_at sizes sorts (place % tuple_count sizes sorts)
