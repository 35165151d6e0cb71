-- Elements for some of the variables of a clause: one more has its element, and all have theirs in the end.
use Rattle.std.proofs.Common.{◌≡◌, ◌≢◌, ◌<◌, ◌≤◌, ℕ, zero, suc, ◌+◌, ◌*◌, Bool, true, false, List, [], ◌∷◌, length, get_or, set, Some, sym, ap, ◌∙◌, refl, subst, arith, inl, inr, ◌⊎◌}
use Rattle.std.specs.Prelude.{slice_index, slice_get}
use Rattle.std.proofs.lemmas.Bool.{cases_eq}
use Rattle.std.proofs.lemmas.List.{get_or-set_same, get_or-set_other, length-set}
use Rattle.dai_model.specs.Protocol.{Protocol, Sort}
use Rattle.dai_model.specs.Placement.{of_sort, ArePlacements}
use Rattle.dai_template.specs.Meeting.{IsBound, HasRoom, AreSpaced, LeavesRoom, IsPartial, IsCompletion}
use Rattle.dai_template.proofs.MetFrom.{count_inside}
use Rattle.dai_template.proofs.Choices.{IsSearched, sort_at}
use Rattle.dai_template.proofs.Rooms.{placed_spaced, placed_room}

-- how many places have no element
abbrev pub open_count : List Bool → ℕ
open_count [] = 0
open_count (true ∷ bs) = open_count bs
open_count (false ∷ bs) = suc (open_count bs)

pub not_true : (b : Bool) → (b ≡ true → ⊥) → b ≡ false
not_true true h = absurd (h refl)
not_true false h = refl

pub open_fewer : (bound : List Bool) (p : ℕ) → p < length bound → get_or bound p false ≡ false → open_count (set bound p true) + 1 ≡ open_count bound
open_fewer bound p below h = fewer bound p h below
  where
    fewer : (bound : List Bool) (p : ℕ) → get_or bound p false ≡ false → p < length bound → open_count (set bound p true) + 1 ≡ open_count bound
    fewer [] p h below = absurd (omega (arith, below))
    fewer (true ∷ bs) zero h below = absurd (let k : ⊥ = cc in k)
    fewer (false ∷ bs) zero h below = omega arith
    fewer (true ∷ bs) (suc p) h below = fewer bs p h (omega (arith, below))
    fewer (false ∷ bs) (suc p) h below = let k = fewer bs p h (omega (arith, below)) in omega (arith, k)

pub fewer_at : (bound : List Bool) (p q : ℕ) → p ≡ q → p < length bound → (get_or bound p false ≡ true → ⊥) → open_count (set bound q true) + 1 ≡ open_count bound
fewer_at bound p q same below none = subst (λ k. open_count (set bound k true) + 1 ≡ open_count bound) same (open_fewer bound p below (not_true (get_or bound p false) none))

spaced_as : (a b : Bool) (i e j f k c l d : ℕ) → a ≡ b → i ≡ k → e ≡ c → j ≡ l → f ≡ d → AreSpaced a i e j f → AreSpaced b k c l d
spaced_as a b i e j f k c l d p q r s t h = subst (λ x. AreSpaced x k c l d) p (subst (λ x. AreSpaced a x c l d) q (subst (λ x. AreSpaced a i x l d) r (subst (λ x. AreSpaced a i e x d) s (subst (λ x. AreSpaced a i e j x) t h))))

room_as : (a b : Bool) (count size i e counts sizes k c : ℕ) → a ≡ b → count ≡ counts → size ≡ sizes → i ≡ k → e ≡ c → HasRoom a count size i e → HasRoom b counts sizes k c
room_as a b count size i e counts sizes k c p q r s t h = subst (λ x. HasRoom x counts sizes k c) p (subst (λ x. HasRoom a x sizes k c) q (subst (λ x. HasRoom a count x k c) r (subst (λ x. HasRoom a count size x c) s (subst (λ x. HasRoom a count size i x) t h))))

-- one variable more
record IsNext (sizes counts : List ℕ) (bound : List Bool) (values : List ℕ) (sort number e : ℕ) : Type 0 where
  pub places : length bound ≡ 32
  pub long : length values ≡ 32
  pub types : length counts ≤ 8
  pub few : (t : ℕ) → slice_index counts t ≤ 4
  pub inside : number < slice_index counts sort
  pub none : IsBound bound (record { sort = sort; number = number }) → ⊥

place_inside : (counts : List ℕ) (sort number : ℕ) → length counts ≤ 8 → ((t : ℕ) → slice_index counts t ≤ 4) → number < slice_index counts sort → 4 * sort + number < 32
place_inside counts sort number types few inside = let k = few sort in let l = count_inside counts sort number inside in omega (arith, inside, k, l, types)

own_value : (sizes counts : List ℕ) (bound : List Bool) (values : List ℕ) (sort number e t i : ℕ) → IsNext sizes counts bound values sort number e → 4 * t + i ≡ 4 * sort + number → slice_index (set values (4 * sort + number) e) (4 * t + i) ≡ e
own_value sizes counts bound values sort number e t i n same =
    ap (λ x. get_or (set values (4 * sort + number) e) x 0) same ∙ get_or-set_same values (4 * sort + number) e 0 (let k = place_inside counts sort number n.types n.few n.inside in let l = n.long in omega (arith, k, l))

other_value : (values : List ℕ) (p q e : ℕ) → q ≢ p → slice_index (set values p e) q ≡ slice_index values q
other_value values p q e other = get_or-set_other values p q e 0 (λ same. other same)

was_bound : (bound : List Bool) (p q : ℕ) → q ≢ p → get_or (set bound p true) q false ≡ true → get_or bound q false ≡ true
was_bound bound p q other b = sym (get_or-set_other bound p q true false (λ same. other same)) ∙ b

same_sort : (counts : List ℕ) (t i sort number : ℕ) → ((u : ℕ) → slice_index counts u ≤ 4) → i < slice_index counts t → number < slice_index counts sort → 4 * t + i ≡ 4 * sort + number → t ≡ sort
same_sort counts t i sort number few a b same = let k = few t in let l = few sort in omega (arith, a, b, k, l, same)

same_number : (counts : List ℕ) (t i sort number : ℕ) → ((u : ℕ) → slice_index counts u ≤ 4) → i < slice_index counts t → number < slice_index counts sort → 4 * t + i ≡ 4 * sort + number → i ≡ number
same_number counts t i sort number few a b same = let k = few t in let l = few sort in omega (arith, a, b, k, l, same)

pub partial_more : (P : Protocol) (orders : List Bool) (sizes counts : List ℕ) (bound : List Bool) (values : List ℕ) (sort number e : ℕ) → IsSearched P orders counts → IsPartial P sizes counts bound values → number < slice_index counts sort → (IsBound bound (record { sort = sort; number = number }) → ⊥) → e < slice_index sizes sort → LeavesRoom (get_or orders sort false) (slice_index counts sort) (slice_index sizes sort) sort number e bound values → IsPartial P sizes counts (set bound (4 * sort + number) true) (set values (4 * sort + number) e)
partial_more P orders sizes counts bound values sort number e j h room none below leaves = record {
  places = length-set bound (4 * sort + number) true ∙ h.places;
  long = length-set values (4 * sort + number) e ∙ h.long;
  inside = λ t i k b. inside_at t i k b (cases_eq (4 * t + i) (4 * sort + number));
  room = λ t T i f k b. room_at t T i f k b (cases_eq (4 * t + i) (4 * sort + number));
  spaced = λ t T i l f before k b c. spaced_at t T i l f before k b c (cases_eq (4 * t + i) (4 * sort + number)) (cases_eq (4 * t + l) (4 * sort + number));
}
  where
    next : IsNext sizes counts bound values sort number e
    next = record { places = h.places; long = h.long; types = j.few_types; few = j.few; inside = room; none = none }

    inside_at : (t i : ℕ) → i < slice_index counts t → IsBound (set bound (4 * sort + number) true) (record { sort = t; number = i }) → (4 * t + i ≡ 4 * sort + number) ⊎ (4 * t + i ≢ 4 * sort + number) → slice_index (set values (4 * sort + number) e) (4 * t + i) < slice_index sizes t
    inside_at t i k b (inl same) =
        subst (λ u. slice_index (set values (4 * sort + number) e) (4 * t + i) < slice_index sizes u) (sym (same_sort counts t i sort number j.few k room same))
        (subst (λ x. x < slice_index sizes sort) (sym (own_value sizes counts bound values sort number e t i next same)) below)
    inside_at t i k b (inr other) = subst (λ x. x < slice_index sizes t) (sym (other_value values (4 * sort + number) (4 * t + i) e other)) (h.inside t i k (was_bound bound (4 * sort + number) (4 * t + i) other b))

    order_of : (t : ℕ) (T : Sort) → slice_get P.sorts t ≡ Some T → t ≡ sort → get_or orders sort false ≡ T.ordered
    order_of t T f same = ap (λ u. get_or orders u false) (sym same) ∙ j.orders_are t T f

    room_at : (t : ℕ) (T : Sort) (i : ℕ) → slice_get P.sorts t ≡ Some T → i < slice_index counts t → IsBound (set bound (4 * sort + number) true) (record { sort = t; number = i }) → (4 * t + i ≡ 4 * sort + number) ⊎ (4 * t + i ≢ 4 * sort + number) → HasRoom T.ordered (slice_index counts t) (slice_index sizes t) i (slice_index (set values (4 * sort + number) e) (4 * t + i))
    room_at t T i f k b (inl same) =
        let ts = same_sort counts t i sort number j.few k room same in
        room_as (get_or orders sort false) T.ordered _ _ _ _ _ _ _ _ (order_of t T f ts) (ap (slice_index counts) (sym ts)) (ap (slice_index sizes) (sym ts)) (sym (same_number counts t i sort number j.few k room same)) (sym (own_value sizes counts bound values sort number e t i next same)) leaves.0
    room_at t T i f k b (inr other) = room_as T.ordered T.ordered _ _ _ _ _ _ _ _ refl refl refl refl (sym (other_value values (4 * sort + number) (4 * t + i) e other)) (h.room t T i f k (was_bound bound (4 * sort + number) (4 * t + i) other b))

    spaced_at : (t : ℕ) (T : Sort) (i l : ℕ) → slice_get P.sorts t ≡ Some T → i < l → l < slice_index counts t → IsBound (set bound (4 * sort + number) true) (record { sort = t; number = i }) → IsBound (set bound (4 * sort + number) true) (record { sort = t; number = l }) → (4 * t + i ≡ 4 * sort + number) ⊎ (4 * t + i ≢ 4 * sort + number) → (4 * t + l ≡ 4 * sort + number) ⊎ (4 * t + l ≢ 4 * sort + number) → AreSpaced T.ordered i (slice_index (set values (4 * sort + number) e) (4 * t + i)) l (slice_index (set values (4 * sort + number) e) (4 * t + l))
    spaced_at t T i l f before k b c (inl first) (inl second) = absurd (omega (arith, first, second, before))
    spaced_at t T i l f before k b c (inl first) (inr other) =
        let ts = same_sort counts t i sort number j.few (omega (arith, before, k)) room first in
        let is = same_number counts t i sort number j.few (omega (arith, before, k)) room first in
        let there = was_bound bound (4 * sort + number) (4 * t + l) other c in
        spaced_as (get_or orders sort false) T.ordered _ _ _ _ _ _ _ _ (order_of t T f ts) (sym is) (sym (own_value sizes counts bound values sort number e t i next first)) refl (ap (λ u. slice_index values (4 * u + l)) (sym ts) ∙ sym (other_value values (4 * sort + number) (4 * t + l) e other))
        ((leaves.1 l (subst (λ u. l < slice_index counts u) ts k) (subst (λ u. get_or bound (4 * u + l) false ≡ true) ts there)).0 (omega (arith, is, before)))
    spaced_at t T i l f before k b c (inr other) (inl second) =
        let ts = same_sort counts t l sort number j.few k room second in
        let is = same_number counts t l sort number j.few k room second in
        let there = was_bound bound (4 * sort + number) (4 * t + i) other b in
        let within : i < slice_index counts t = omega (arith, before, k) in
        spaced_as (get_or orders sort false) T.ordered _ _ _ _ _ _ _ _ (order_of t T f ts) refl (ap (λ u. slice_index values (4 * u + i)) (sym ts) ∙ sym (other_value values (4 * sort + number) (4 * t + i) e other)) (sym is) (sym (own_value sizes counts bound values sort number e t l next second))
        ((leaves.1 i (subst (λ u. i < slice_index counts u) ts within) (subst (λ u. get_or bound (4 * u + i) false ≡ true) ts there)).1 (omega (arith, is, before)))
    spaced_at t T i l f before k b c (inr first) (inr second) =
        spaced_as T.ordered T.ordered _ _ _ _ _ _ _ _ refl refl (sym (other_value values (4 * sort + number) (4 * t + i) e first)) refl (sym (other_value values (4 * sort + number) (4 * t + l) e second)) (h.spaced t T i l f before k (was_bound bound (4 * sort + number) (4 * t + i) first b) (was_bound bound (4 * sort + number) (4 * t + l) second c))

-- what completes the elements with one more completes those without it
pub completes_fewer : (counts : List ℕ) (bound : List Bool) (values : List ℕ) (sort number e : ℕ) (elements : List (List ℕ)) → (IsBound bound (record { sort = sort; number = number }) → ⊥) → IsCompletion counts (set bound (4 * sort + number) true) (set values (4 * sort + number) e) elements → length bound ≡ 32 → IsCompletion counts bound values elements
completes_fewer counts bound values sort number e elements none c long t i k b =
    let other : 4 * t + i ≢ 4 * sort + number = λ same. none (subst (λ x. get_or bound x false ≡ true) same b) in
    c t i k (get_or-set_other bound (4 * sort + number) (4 * t + i) true false (λ same. other same) ∙ b) ∙ other_value values (4 * sort + number) (4 * t + i) e other

-- and the other way for the element that the placement has
pub completes_more : (sizes counts : List ℕ) (bound : List Bool) (values : List ℕ) (sort number : ℕ) (elements : List (List ℕ)) → length values ≡ 32 → length bound ≡ 32 → length counts ≤ 8 → ((t : ℕ) → slice_index counts t ≤ 4) → number < slice_index counts sort → (IsBound bound (record { sort = sort; number = number }) → ⊥) → IsCompletion counts bound values elements → IsCompletion counts (set bound (4 * sort + number) true) (set values (4 * sort + number) (slice_index (of_sort elements sort) number)) elements
completes_more sizes counts bound values sort number elements long places types few inside none c t i k b = either (cases_eq (4 * t + i) (4 * sort + number))
  where
    either : (4 * t + i ≡ 4 * sort + number) ⊎ (4 * t + i ≢ 4 * sort + number) → slice_index (of_sort elements t) i ≡ slice_index (set values (4 * sort + number) (slice_index (of_sort elements sort) number)) (4 * t + i)
    either (inl same) =
        ap (λ u. slice_index (of_sort elements u) i) (same_sort counts t i sort number few k inside same) ∙ (ap (slice_index (of_sort elements sort)) (same_number counts t i sort number few k inside same)
        ∙ sym (own_value sizes counts bound values sort number (slice_index (of_sort elements sort) number) t i (record { places = places; long = long; types = types; few = few; inside = inside; none = none }) same))
    either (inr other) = c t i k (was_bound bound (4 * sort + number) (4 * t + i) other b) ∙ sym (other_value values (4 * sort + number) (4 * t + i) (slice_index (of_sort elements sort) number) other)

-- an element of a placement leaves room for the others
pub placed_leaves : (P : Protocol) (orders : List Bool) (sizes counts : List ℕ) (bound : List Bool) (values : List ℕ) (sort number : ℕ) (elements : List (List ℕ)) → IsSearched P orders counts → number < slice_index counts sort → ArePlacements P counts sizes elements → IsCompletion counts bound values elements → (slice_index (of_sort elements sort) number < slice_index sizes sort) × LeavesRoom (get_or orders sort false) (slice_index counts sort) (slice_index sizes sort) sort number (slice_index (of_sort elements sort) number) bound values
placed_leaves P orders sizes counts bound values sort number elements j inside placed c =
    let known = count_inside counts sort number inside in
    let found = sort_at P.sorts sort (let k = j.each in omega (arith, k, known)) in
    let here = placed.each sort found.0 found.1 in
    let order : found.0.ordered ≡ get_or orders sort false = sym (j.orders_are sort found.0 found.1) in
    let xs = of_sort elements sort in (
      here.inside number inside,
      (
        room_as found.0.ordered (get_or orders sort false) _ _ _ _ _ _ _ _ order refl refl refl refl (placed_room found.0.ordered (slice_index counts sort) (slice_index sizes sort) xs here number inside),
        λ i k b. (
          λ before. spaced_as found.0.ordered (get_or orders sort false) _ _ _ _ _ _ _ _ order refl refl refl (c sort i k b) (placed_spaced found.0.ordered (slice_index counts sort) (slice_index sizes sort) xs here number i before k),
          λ after. spaced_as found.0.ordered (get_or orders sort false) _ _ _ _ _ _ _ _ order refl (c sort i k b) refl refl (placed_spaced found.0.ordered (slice_index counts sort) (slice_index sizes sort) xs here i number after inside),
        ),
      ),
    )
