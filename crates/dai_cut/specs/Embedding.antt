-- Embeddings of model theory. For each type a map takes the elements of a small structure to elements of a large
-- one, in order; each relation holds of a tuple in the small structure exactly where it holds of the tuple's image in
-- the large one, and each individual is taken to itself. The maps are given by a type and an element.
use Rattle.std.specs.Prelude.{◌≡◌, ℕ, ◌<◌, List, [], ◌∷◌, Bool, Some, slice_get, slice_index_or, nat_eq, map, length, IsTrue}
use Rattle.dai_model.specs.Protocol.{Protocol, Relation, Individual}
use Rattle.dai_model.specs.Structure.{Structure, IsStructure, size_of, is_tuple}
use Rattle.dai_model.specs.Value.{Environment, some}
use Rattle.dai_model.specs.WellSorted.{Scope, EnvironmentFits}
use Rattle.dai_model.specs.Placement.{of_sort}
use Rattle.dai_model.specs.Clause.{numbers_below}

-- the image of a tuple of these types
abbrev pub images : (ℕ → ℕ → ℕ) → List ℕ → List ℕ → List ℕ
images maps [] es = []
images maps (sort ∷ sorts) [] = []
images maps (sort ∷ sorts) (e ∷ es) = maps sort e ∷ images maps sorts es

pub record IsEmbedding (P : Protocol) (small large : Structure) (maps : ℕ → ℕ → ℕ) : Type 0 where
  pub inside : (sort e : ℕ) → e < size_of small sort → maps sort e < size_of large sort
  pub increasing : (sort d e : ℕ) → d < e → e < size_of small sort → maps sort d < maps sort e
  pub relations : (r : ℕ) (R : Relation) (es : List ℕ) → slice_get P.relations r ≡ Some R → IsTrue (is_tuple small.sizes R.arguments es) → small.holds r es ≡ large.holds r (images maps R.arguments es)
  pub individuals : (i : ℕ) (I : Individual) → slice_get P.individuals i ≡ Some I → large.element i ≡ maps I.sort (small.element i)

-- each name in scope stands in the large structure for the image of what it stands for in the small one
pub record AreImages (scope : Scope) (maps : ℕ → ℕ → ℕ) (small large : Environment) : Type 0 where
  pub variables : (v sort : ℕ) → scope.variables v ≡ Some sort → large.variables v ≡ maps sort (small.variables v)
  pub parameters : (p sort : ℕ) → slice_get scope.parameters p ≡ Some sort → slice_index_or large.parameters p 0 ≡ maps sort (slice_index_or small.parameters p 0)
  pub choices : (c sort : ℕ) → slice_get scope.choices c ≡ Some sort → slice_index_or large.choices c 0 ≡ maps sort (slice_index_or small.choices c 0)

-- the small structure, with what names stand for in it, is embedded in the large one
pub record IsEmbeddedAt (P : Protocol) (scope : Scope) (small large : Structure) (maps : ℕ → ℕ → ℕ) (own other : Environment) : Type 0 where
  pub structure : IsStructure P small
  pub embedding : IsEmbedding P small large maps
  pub fits : EnvironmentFits scope small.sizes own
  pub images : AreImages scope maps own other

-- the element is the image of an element of the small structure
abbrev pub is_image : Structure → (ℕ → ℕ → ℕ) → ℕ → ℕ → Bool
is_image small maps sort d = some (size_of small sort) (λ e. nat_eq (maps sort e) d)

-- the placement of the variables at the images of the elements
abbrev pub image_of_placement : Protocol → (ℕ → ℕ → ℕ) → List (List ℕ) → List (List ℕ)
image_of_placement P maps elements = map (λ sort. map (maps sort) (of_sort elements sort)) (numbers_below (length P.sorts))
