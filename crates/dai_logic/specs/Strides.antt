-- The numbers of a layout: of each relation, how many tuples there are of its types from each argument on.
use Rattle.std.specs.Prelude.{◌≡◌, ℕ, ◌<◌, ◌^◌, List, [], ◌∷◌, length, map, Vec}
use Rattle.std.specs.declared.alloc.Global.{Global}
use Rattle.std.specs.List.{All}
use Rattle.dai_logic.specs.Counts.{tuple_count}

abbrev pub counts_of : List ℕ → List ℕ → List ℕ
counts_of sizes [] = 1 ∷ []
counts_of sizes (sort ∷ sorts) = tuple_count sizes (sort ∷ sorts) ∷ counts_of sizes sorts

-- the numbers of each row
abbrev pub rows_of : Vec (Vec ℕ Global) Global → List (List ℕ)
rows_of rows = map (λ (row : Vec ℕ Global). row.items) rows.items

-- types with a size of at least 1, whose tuples are few enough to be numbered
pub record AreNumbered (sizes sorts : List ℕ) : Type 0 where
  pub known : All (λ sort. sort < length sizes) sorts
  pub inhabited : All (λ size. 0 < size) sizes
  pub few : tuple_count sizes sorts < 2 ^ 64

-- each relation's types can be numbered, and its numbers are those of its types
pub record AreStrides (sizes : List ℕ) (sorts counts : List (List ℕ)) : Type 0 where
  pub numbered : All (AreNumbered sizes) sorts
  pub exact : counts ≡ map (counts_of sizes) sorts
