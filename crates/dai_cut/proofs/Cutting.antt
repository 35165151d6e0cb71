-- Each set of elements that has one of each type and is closed under the individuals has a cut.
use Rattle.std.proofs.Common.{◌≡◌, ◌<◌, ◌≤◌, get_or, length, ℕ, zero, suc, ◌&&◌, Bool, true, false, List, [], ◌∷◌, map, Option, Some, None, sym, ◌∙◌, ap, subst, refl, arith, inl, inr, ◌⊎◌}
use Rattle.std.specs.Prelude.{slice_get}
use Rattle.std.proofs.lemmas.List.{get_or-map, length-map, get_or_past}
use Rattle.std.proofs.lemmas.Bool.{cases_lt}
use Rattle.dai_model.specs.Protocol.{Protocol, Relation, Individual}
use Rattle.dai_model.specs.Structure.{Structure, IsStructure, size_of, is_tuple, is_tuple_for}
use Rattle.dai_model.specs.WellSorted.{IsProtocol}
use Rattle.dai_model.specs.Clause.{numbers_below}
use Rattle.dai_model.proofs.Typed.{and_left, slice_get-length}
use Rattle.dai_model.proofs.Folds.{numbers_below-length}
use Rattle.dai_model.proofs.Below.{numbers_below-at}
use Rattle.dai_cut.specs.Embedding.{images, IsEmbedding, is_image}
use Rattle.dai_cut.specs.Cut.{count_below, numbering, place_of, IsClosed, IsCut}
use Rattle.dai_cut.proofs.Numbering.{count_below-step, nth_is, nth_increasing, nth_of_place}
use Rattle.dai_cut.proofs.Embedded.{same_bool, image_is, image_from}

abbrev cut_sizes : Protocol → Structure → (ℕ → ℕ → Bool) → List ℕ
cut_sizes P s chosen = map (λ sort. count_below (chosen sort) (size_of s sort)) (numbers_below (length P.sorts))

abbrev holds_at : Structure → (ℕ → ℕ → Bool) → List ℕ → ℕ → Option Relation → List ℕ → Bool
holds_at s chosen sizes r None es = false
holds_at s chosen sizes r (Some R) es = is_tuple sizes R.arguments es && s.holds r (images (numbering s chosen) R.arguments es)

abbrev element_at : Structure → (ℕ → ℕ → Bool) → ℕ → Option Individual → ℕ
element_at s chosen i None = 0
element_at s chosen i (Some I) = place_of chosen I.sort (s.element i)

abbrev cut : Protocol → Structure → (ℕ → ℕ → Bool) → Structure
cut P s chosen = record {
  sizes = cut_sizes P s chosen;
  holds = λ r es. holds_at s chosen (cut_sizes P s chosen) r (slice_get P.relations r) es;
  element = λ i. element_at s chosen i (slice_get P.individuals i);
}

cut_length : (P : Protocol) (s : Structure) (chosen : ℕ → ℕ → Bool) → length (cut_sizes P s chosen) ≡ length P.sorts
cut_length P s chosen = length-map (numbers_below (length P.sorts)) _ ∙ numbers_below-length (length P.sorts)

cut_size : (P : Protocol) (s : Structure) (chosen : ℕ → ℕ → Bool) (sort d : ℕ) → sort < length P.sorts → get_or (cut_sizes P s chosen) sort d ≡ count_below (chosen sort) (size_of s sort)
cut_size P s chosen sort d h =
    let e = numbers_below-length (length P.sorts) in
    let here : sort < length (numbers_below (length P.sorts)) = omega (arith, e, h) in
    get_or-map (λ t. count_below (chosen t) (size_of s t)) (numbers_below (length P.sorts)) sort 0 d here
    ∙ ap (λ t. count_below (chosen t) (size_of s t)) (numbers_below-at (length P.sorts) sort 0 h)

-- a type with an element is one of the protocol
pub sort_below : (P : Protocol) (s : Structure) (sort e : ℕ) → IsStructure P s → e < size_of s sort → sort < length P.sorts
sort_below P s sort e st h = by_length (cases_lt sort (length s.sizes))
  where
    by_length : (sort < length s.sizes) ⊎ (length s.sizes ≤ sort) → sort < length P.sorts
    by_length (inl below) = let k = st.one_size_each in omega (arith, below, k)
    by_length (inr past) = let k = get_or_past s.sizes sort 0 past in absurd (omega (arith, k, h))

holds_inside : (s : Structure) (chosen : ℕ → ℕ → Bool) (sizes : List ℕ) (r : ℕ) (o : Option Relation) (es : List ℕ) → holds_at s chosen sizes r o es ≡ true → is_tuple_for sizes o es ≡ true
holds_inside s chosen sizes r None es h = h
holds_inside s chosen sizes r (Some R) es h = and_left (is_tuple sizes R.arguments es) (s.holds r (images (numbering s chosen) R.arguments es)) h

no_individual : {A : Type 0} (xs : List A) (i : ℕ) → length xs ≤ i → slice_get xs i ≡ None
no_individual [] i h = refl
no_individual (x ∷ xs) zero h = absurd (omega arith)
no_individual (x ∷ xs) (suc i) h = no_individual xs i (omega arith)

all_sorts : (P : Protocol) (I : Individual) (i : ℕ) → IsProtocol P → slice_get P.individuals i ≡ Some I → I.sort < length P.sorts
all_sorts P I i p h =
    let below = slice_get-length P.individuals i I h in
    subst (λ (J : Individual). J.sort < length P.sorts) (found_at P.individuals i I I h) (p.individuals i I below)
  where
    found_at : (xs : List Individual) (i : ℕ) (x d : Individual) → slice_get xs i ≡ Some x → get_or xs i d ≡ x
    found_at [] i x d h = absurd (let k : ⊥ = cc in k)
    found_at (y ∷ xs) zero x d h = cc
    found_at (y ∷ xs) (suc i) x d h = found_at xs i x d h

is_structure : (P : Protocol) (s : Structure) (chosen : ℕ → ℕ → Bool) → IsProtocol P → IsStructure P s → IsClosed P s chosen → IsStructure P (cut P s chosen)
is_structure P s chosen p st closed = record {
  one_size_each = cut_length P s chosen;
  inhabited = λ k d below.
      let e = cut_length P s chosen in
      let here : k < length P.sorts = omega (arith, e, below) in
      let one = closed.inhabited k here in
      let step = count_below-step (chosen k) one.0 (size_of s k) one.1 one.2 in
      subst (λ n. 0 < n) (sym (cut_size P s chosen k d here)) (omega (arith, step));
  tuples_inside = λ r es h. holds_inside s chosen (cut_sizes P s chosen) r (slice_get P.relations r) es h;
  elements_inside = λ i I h.
      let below = all_sorts P I i p h in
      let step = count_below-step (chosen I.sort) (s.element i) (size_of s I.sort) (st.elements_inside i I h) (closed.individuals i I h) in
      subst (λ o. element_at s chosen i o < size_of (cut P s chosen) I.sort) (sym h)
      (subst (λ n. place_of chosen I.sort (s.element i) < n) (sym (cut_size P s chosen I.sort 0 below)) step);
  nothing_outside = λ i h. ap (element_at s chosen i) (no_individual P.individuals i h);
}

and_by : (a b : Bool) → a ≡ true → (a && b) ≡ b
and_by true b h = refl
and_by false b h = absurd (let k : ⊥ = cc in k)

is_embedding : (P : Protocol) (s : Structure) (chosen : ℕ → ℕ → Bool) → IsProtocol P → IsStructure P s → IsClosed P s chosen → IsEmbedding P (cut P s chosen) s (numbering s chosen)
is_embedding P s chosen p st closed =
    let own = is_structure P s chosen p st closed in
    record {
      inside = λ sort e h.
          let size = cut_size P s chosen sort 0 (sort_below P (cut P s chosen) sort e own h) in
          (nth_is (chosen sort) (size_of s sort) e (omega (arith, size, h))).below;
      increasing = λ sort d e h below.
          let size = cut_size P s chosen sort 0 (sort_below P (cut P s chosen) sort e own below) in
          nth_increasing (chosen sort) (size_of s sort) d e h (omega (arith, size, below));
      relations = λ r R es h inside.
          subst (λ o. holds_at s chosen (cut_sizes P s chosen) r o es ≡ s.holds r (images (numbering s chosen) R.arguments es)) (sym h)
          (and_by (is_tuple (cut_sizes P s chosen) R.arguments es) (s.holds r (images (numbering s chosen) R.arguments es)) inside);
      individuals = λ i I h.
          subst (λ o. s.element i ≡ numbering s chosen I.sort (element_at s chosen i o)) (sym h)
          (sym (nth_of_place (chosen I.sort) (size_of s I.sort) (s.element i) (st.elements_inside i I h) (closed.individuals i I h)));
    }

pub cut_exists : (P : Protocol) (s : Structure) (chosen : ℕ → ℕ → Bool) → IsProtocol P → IsStructure P s → IsClosed P s chosen → (small : Structure) × IsCut P s chosen small
cut_exists P s chosen p st closed = (
  cut P s chosen,
  record {
    structure = is_structure P s chosen p st closed;
    sizes = λ sort below. cut_size P s chosen sort 0 below;
    embedding = is_embedding P s chosen p st closed;
  },
)

-- the image is the chosen elements
pub image_is_chosen : (P : Protocol) (s : Structure) (chosen : ℕ → ℕ → Bool) (small : Structure) → IsStructure P s → IsCut P s chosen small → (sort d : ℕ) → d < size_of s sort → is_image small (numbering s chosen) sort d ≡ chosen sort d
image_is_chosen P s chosen small st cut_is sort d below =
    let size = cut_is.sizes sort (sort_below P s sort d st below) in
    same_bool (is_image small (numbering s chosen) sort d) (chosen sort d)
    (λ h.
    let from = image_from small (numbering s chosen) sort d h in
    let known = from.1 in
    subst (λ x. chosen sort x ≡ true) from.2 (nth_is (chosen sort) (size_of s sort) from.0 (omega (arith, size, known))).passes)
    (λ h.
    let step = count_below-step (chosen sort) d (size_of s sort) below h in
    let at = nth_of_place (chosen sort) (size_of s sort) d below h in
    subst (λ x. is_image small (numbering s chosen) sort x ≡ true) at (image_is small (numbering s chosen) sort (place_of chosen sort d) (omega (arith, size, step))))
