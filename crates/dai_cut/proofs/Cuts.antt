-- Steps and clauses in a cut.
use Rattle.std.proofs.Common.{◌≡◌, ◌<◌, length, ℕ, zero, suc, Bool, true, List, [], ◌∷◌, Some, sym, ◌∙◌, ap, subst, refl, arith}
use Rattle.std.specs.Prelude.{nat_lt, slice_get, slice_index, slice_index_or}
use Rattle.dai_model.specs.Protocol.{Protocol, Block}
use Rattle.dai_model.specs.Structure.{Structure, IsStructure, size_of, is_tuple}
use Rattle.dai_model.specs.Value.{environment_of}
use Rattle.dai_model.specs.Execution.{executes}
use Rattle.dai_model.specs.WellSorted.{scope_of, IsWellSortedBlock}
use Rattle.dai_model.specs.Profile.{AreDirect}
use Rattle.dai_model.specs.Placement.{of_sort, ArePlacements}
use Rattle.dai_model.specs.Clause.{Clause, clause_value, value_at}
use Rattle.dai_model.specs.Template.{Bounds, IsTemplate}
use Rattle.dai_model.proofs.Typed.{and_left, and_right, block_fits}
use Rattle.dai_model.proofs.Below.{slice_get-some}
use Rattle.dai_cut.specs.Embedding.{images, IsEmbedding, image_of_placement}
use Rattle.dai_cut.specs.Among.{HaveWitnesses}
use Rattle.dai_cut.specs.Cut.{count_below, nth_below, numbering, place_of, IsCut, AreChosen, VariablesAreChosen}
use Rattle.dai_cut.proofs.Numbering.{count_below-step, nth_of_place}
use Rattle.dai_cut.proofs.Embedded.{both, from_lt, lt_test, Stand, Named}
use Rattle.dai_cut.proofs.Cutting.{sort_below, image_is_chosen}
use Rattle.dai_cut.proofs.Executed.{code_left}
use Rattle.dai_cut.proofs.Placed.{Placed, mapped_placements, variable_image, variable_inside, clause_same}

pub stand : (P : Protocol) (s : Structure) (chosen : ℕ → ℕ → Bool) (small : Structure) → IsCut P s chosen small → Stand P small s (numbering s chosen)
stand P s chosen small is = record { structure = is.structure; embedding = is.embedding }

-- a chosen element has its number in the cut
pub place_inside : (P : Protocol) (s : Structure) (chosen : ℕ → ℕ → Bool) (small : Structure) (sort e : ℕ) → IsStructure P s → IsCut P s chosen small → e < size_of s sort → chosen sort e ≡ true → place_of chosen sort e < size_of small sort
place_inside P s chosen small sort e st is below passes =
    let size = is.sizes sort (sort_below P s sort e st below) in
    let step = count_below-step (chosen sort) e (size_of s sort) below passes in
    omega (arith, size, step)

pub places_inside : (P : Protocol) (s : Structure) (chosen : ℕ → ℕ → Bool) (small : Structure) (sorts es : List ℕ) → IsStructure P s → IsCut P s chosen small → is_tuple s.sizes sorts es ≡ true → AreChosen chosen sorts es → is_tuple small.sizes sorts (images (place_of chosen) sorts es) ≡ true
places_inside P s chosen small [] [] st is h k = refl
places_inside P s chosen small [] (e ∷ es) st is h k = absurd (let n : ⊥ = cc in n)
places_inside P s chosen small (sort ∷ sorts) [] st is h k = absurd (let n : ⊥ = cc in n)
places_inside P s chosen small (sort ∷ sorts) (e ∷ es) st is h k =
    both _ _ (lt_test _ _ (place_inside P s chosen small sort e st is (from_lt _ _ (and_left _ (is_tuple s.sizes sorts es) h)) k.0))
    (places_inside P s chosen small sorts es st is (and_right (nat_lt e (slice_index_or s.sizes sort 0)) _ h) k.1)

-- the elements are the images of their numbers
argument_image : (s : Structure) (chosen : ℕ → ℕ → Bool) (sorts es : List ℕ) (p sort : ℕ) → is_tuple s.sizes sorts es ≡ true → AreChosen chosen sorts es → slice_get sorts p ≡ Some sort → slice_index_or es p 0 ≡ numbering s chosen sort (slice_index_or (images (place_of chosen) sorts es) p 0)
argument_image s chosen [] es p sort h k found = absurd (let n : ⊥ = cc in n)
argument_image s chosen (t ∷ sorts) [] p sort h k found = absurd (let n : ⊥ = cc in n)
argument_image s chosen (t ∷ sorts) (e ∷ es) zero sort h k found =
    let same : t ≡ sort = cc in
    let below = from_lt _ _ (and_left _ (is_tuple s.sizes sorts es) h) in
    subst (λ u. e ≡ numbering s chosen u (place_of chosen t e)) same (sym (nth_of_place (chosen t) (size_of s t) e below k.0))
argument_image s chosen (t ∷ sorts) (e ∷ es) (suc p) sort h k found = argument_image s chosen sorts es p sort (and_right (nat_lt e (slice_index_or s.sizes t 0)) _ h) k.1 found

pub block_named : (P : Protocol) (block : Block) (s : Structure) (chosen : ℕ → ℕ → Bool) (small : Structure) (arguments choices : List ℕ) → IsStructure P s → IsCut P s chosen small → is_tuple s.sizes block.parameters arguments ≡ true → is_tuple s.sizes block.choices choices ≡ true → AreChosen chosen block.parameters arguments → AreChosen chosen block.choices choices → Named (scope_of block) small (numbering s chosen) (environment_of (images (place_of chosen) block.parameters arguments) (images (place_of chosen) block.choices choices)) (environment_of arguments choices)
block_named P block s chosen small arguments choices st is given picked given_chosen picked_chosen = record {
  fits = block_fits small.sizes block (images (place_of chosen) block.parameters arguments) (images (place_of chosen) block.choices choices) (places_inside P s chosen small block.parameters arguments st is given given_chosen) (places_inside P s chosen small block.choices choices st is picked picked_chosen);
  images = record {
    variables = λ v sort h. absurd (let n : ⊥ = cc in n);
    parameters = λ p sort h. argument_image s chosen block.parameters arguments p sort given given_chosen h;
    choices = λ p sort h. argument_image s chosen block.choices choices p sort picked picked_chosen h;
  };
}

cut_after : (P : Protocol) (s t : Structure) (chosen : ℕ → ℕ → Bool) (small u : Structure) → IsCut P s chosen small → Stand P u t (numbering s chosen) → u.sizes ≡ small.sizes → t.sizes ≡ s.sizes → IsCut P t chosen u
cut_after P s t chosen small u is left own other = record {
  structure = left.structure;
  sizes = λ sort below.
      ap (λ (sizes : List ℕ). slice_index_or sizes sort 0) own
      ∙ (is.sizes sort below ∙ ap (λ (sizes : List ℕ). count_below (chosen sort) (slice_index_or sizes sort 0)) (sym other));
  embedding = subst (λ (sizes : List ℕ). IsEmbedding P u t (λ sort number. nth_below (chosen sort) (slice_index_or sizes sort 0) number)) (sym other) left.embedding;
}

-- the block leaves from the cut a cut of what it leaves
pub record CutLeft (P : Protocol) (block : Block) (t : Structure) (chosen : ℕ → ℕ → Bool) (small : Structure) (arguments choices : List ℕ) : Type 0 where
  pub after : Structure
  pub leaves : executes P block small (images (place_of chosen) block.parameters arguments) (images (place_of chosen) block.choices choices) ≡ Some after
  pub is_cut : IsCut P t chosen after

pub block_left : (P : Protocol) (block : Block) (s t : Structure) (chosen : ℕ → ℕ → Bool) (small : Structure) (arguments choices : List ℕ) → IsWellSortedBlock P block → AreDirect block.code → IsStructure P s → IsCut P s chosen small → is_tuple s.sizes block.parameters arguments ≡ true → is_tuple s.sizes block.choices choices ≡ true → AreChosen chosen block.parameters arguments → AreChosen chosen block.choices choices → HaveWitnesses P chosen (environment_of arguments choices) block.code s → executes P block s arguments choices ≡ Some t → CutLeft P block t chosen small arguments choices
block_left P block s t chosen small arguments choices w direct st is given picked given_chosen picked_chosen wit h =
    let left = code_left P (scope_of block) (numbering s chosen) (environment_of (images (place_of chosen) block.parameters arguments) (images (place_of chosen) block.choices choices)) (environment_of arguments choices) chosen block.code small s t
    (stand P s chosen small is)
    (block_named P block s chosen small arguments choices st is given picked given_chosen picked_chosen)
    (record { covers = λ sort d below k. image_is_chosen P s chosen small st is sort d below ∙ k })
    w.code direct wit h in
    record {
      after = left.after;
      leaves = left.leaves;
      is_cut = cut_after P s t chosen small left.after is left.stand left.own_sizes left.other_sizes;
    }

-- the placement by numbers of a placement of chosen elements
pub numbered_placements : (P : Protocol) (counts : List ℕ) (s : Structure) (chosen : ℕ → ℕ → Bool) (small : Structure) (elements : List (List ℕ)) → IsStructure P s → IsCut P s chosen small → ArePlacements P counts s.sizes elements → VariablesAreChosen chosen counts elements → ArePlacements P counts small.sizes (image_of_placement P (place_of chosen) elements)
numbered_placements P counts s chosen small elements st is p picked =
    mapped_placements P (place_of chosen) counts s.sizes small.sizes elements
    (λ sort below.
    let found = slice_get-some P.sorts sort below in
    let own = p.each sort found.0 found.1 in
    let held : (i : ℕ) → i < slice_index counts sort → chosen sort (slice_index (of_sort elements sort) i) ≡ true = λ i h. picked (record { sort = sort; number = i }) h in
    record {
      inside = λ i h. place_inside P s chosen small sort (slice_index (of_sort elements sort) i) st is (own.inside i h) (held i h);
      increasing = λ i j h k before. count_below-step (chosen sort) (slice_index (of_sort elements sort) i) (slice_index (of_sort elements sort) j) before (held i h);
    })
    p

pub numbered_placed : (P : Protocol) (counts : List ℕ) (s : Structure) (chosen : ℕ → ℕ → Bool) (small : Structure) (elements : List (List ℕ)) → length counts ≡ length P.sorts → IsStructure P s → IsCut P s chosen small → ArePlacements P counts s.sizes elements → VariablesAreChosen chosen counts elements → Placed small (numbering s chosen) counts (image_of_placement P (place_of chosen) elements) elements
numbered_placed P counts s chosen small elements long st is p picked =
    let numbered = numbered_placements P counts s chosen small elements st is p picked in
    record {
      inside = λ v inside. variable_inside P counts small.sizes (image_of_placement P (place_of chosen) elements) v long numbered inside;
      images = λ v inside.
          let at = variable_image P (place_of chosen) counts s.sizes elements v long p inside in
          let below = variable_inside P counts s.sizes elements v long p inside in
          sym (ap (numbering s chosen v.sort) at ∙ nth_of_place (chosen v.sort) (size_of s v.sort) (value_at elements v) below (picked v inside));
    }

pub cut_value : (P : Protocol) (B : Bounds) (c : Clause) (s : Structure) (chosen : ℕ → ℕ → Bool) (small : Structure) (elements : List (List ℕ)) → IsTemplate P B c → IsStructure P s → IsCut P s chosen small → ArePlacements P c.counts s.sizes elements → VariablesAreChosen chosen c.counts elements → clause_value P small c (image_of_placement P (place_of chosen) elements) ≡ clause_value P s c elements
cut_value P B c s chosen small elements t st is p picked =
    clause_same P B small s (numbering s chosen) c (image_of_placement P (place_of chosen) elements) elements (stand P s chosen small is) t
    (numbered_placed P c.counts s chosen small elements t.one_count_each st is p picked)
