-- Elements for some of the variables, with room for the others, are completed to a placement.
use Rattle.std.proofs.Common.{◌≡◌, ◌≢◌, ◌<◌, ◌≤◌, ℕ, zero, suc, ◌+◌, ◌*◌, ◌/◌, ◌%◌, Bool, true, false, List, length, get_or, set, sym, ap, ◌∙◌, refl, subst, arith, inl, inr, ◌⊎◌}
use Rattle.std.specs.Prelude.{slice_index}
use Rattle.std.proofs.lemmas.Bool.{cases_lt}
use Rattle.std.proofs.lemmas.List.{get_or-set_same, get_or-set_other, get_or_past}
use Rattle.dai_model.specs.Protocol.{Protocol}
use Rattle.dai_model.specs.Placement.{Apart, of_sort, IsPlacement, ArePlacements}
use Rattle.dai_model.proofs.Counting.{IsOneToOne, no_fewer}
use Rattle.dai_template.specs.Meeting.{IsBound, AreEnough, HasRoom, AreSpaced, LeavesRoom, IsPartial, IsCompletion, IsBegun}
use Rattle.dai_template.proofs.MetFrom.{count_inside, cut, cut_at, cut_placed}
use Rattle.dai_template.proofs.Choices.{IsSearched, sort_at}
use Rattle.dai_template.proofs.Rooms.{true_or_not, room_found}
use Rattle.dai_template.proofs.Partial.{partial_more}

-- more variables have their elements, those before a place among them
record IsFilled (P : Protocol) (sizes counts : List ℕ) (bound : List Bool) (values : List ℕ) (k : ℕ) : Type 0 where
  pub all : List Bool
  pub elements : List ℕ
  pub partial : IsPartial P sizes counts all elements
  pub keeps : (t i : ℕ) → i < slice_index counts t → IsBound bound (record { sort = t; number = i }) → IsBound all (record { sort = t; number = i }) × (slice_index elements (4 * t + i) ≡ slice_index values (4 * t + i))
  pub filled : (t i : ℕ) → i < slice_index counts t → 4 * t + i < k → IsBound all (record { sort = t; number = i })

fill : (P : Protocol) (orders : List Bool) (sizes counts : List ℕ) (bound : List Bool) (values : List ℕ) → IsSearched P orders counts → AreEnough counts sizes → IsPartial P sizes counts bound values → (k : ℕ) → k ≤ 32 → IsFilled P sizes counts bound values k
fill P orders sizes counts bound values j enough h zero le = record {
  all = bound;
  elements = values;
  partial = h;
  keeps = λ t i inside b. (b, refl);
  filled = λ t i inside before. absurd (omega (arith, before));
}
fill P orders sizes counts bound values j enough h (suc k) le =
    let w = fill P orders sizes counts bound values j enough h k (omega (arith, le)) in
    with_this w (true_or_not (get_or w.all k false)) (cases_lt (k % 4) (slice_index counts (k / 4)))
  where
    place : 4 * (k / 4) + k % 4 ≡ k
    place = omega arith

    with_this : (w : IsFilled P sizes counts bound values k) → (get_or w.all k false ≡ true) ⊎ (get_or w.all k false ≡ true → ⊥) → (k % 4 < slice_index counts (k / 4)) ⊎ (slice_index counts (k / 4) ≤ k % 4) → IsFilled P sizes counts bound values (suc k)
    with_this w here (inr past) = record {
      all = w.all;
      elements = w.elements;
      partial = w.partial;
      keeps = w.keeps;
      filled = λ t i inside before. w.filled t i inside (let other : 4 * t + i ≢ k = λ same. (let four = j.few t in let ts : t ≡ k / 4 = omega (arith, same, inside, four) in let is : i ≡ k % 4 = omega (arith, same, inside, four) in let a = ap (slice_index counts) ts in omega (arith, a, is, inside, past)) in omega (arith, before, other));
    }
    with_this w (inl here) (inl own) = record {
      all = w.all;
      elements = w.elements;
      partial = w.partial;
      keeps = w.keeps;
      filled = λ t i inside before. at_place t i inside (cases_lt (4 * t + i) k) before;
    }
      where
        at_place : (t i : ℕ) → i < slice_index counts t → (4 * t + i < k) ⊎ (k ≤ 4 * t + i) → 4 * t + i < suc k → IsBound w.all (record { sort = t; number = i })
        at_place t i inside (inl earlier) before = w.filled t i inside earlier
        at_place t i inside (inr past) before = let same : 4 * t + i ≡ k = omega (arith, past, before) in subst (λ x. get_or w.all x false ≡ true) (sym same) here
    with_this w (inr none) (inl own) = record {
      all = set w.all (4 * (k / 4) + k % 4) true;
      elements = set w.elements (4 * (k / 4) + k % 4) choice.0;
      partial = partial_more P orders sizes counts w.all w.elements (k / 4) (k % 4) choice.0 j w.partial own free choice.1 choice.2;
      keeps = λ t i inside b.
          let was = w.keeps t i inside b in
          let other : 4 * t + i ≢ 4 * (k / 4) + k % 4 = λ same. free (subst (λ x. get_or w.all x false ≡ true) same was.0) in (
            get_or-set_other w.all (4 * (k / 4) + k % 4) (4 * t + i) true false (λ same. other same) ∙ was.0,
            get_or-set_other w.elements (4 * (k / 4) + k % 4) (4 * t + i) choice.0 0 (λ same. other same) ∙ was.1,
          );
      filled = λ t i inside before. at_place t i inside (cases_lt (4 * t + i) k) before;
    }
      where
        free : IsBound w.all (record { sort = k / 4; number = k % 4 }) → ⊥
        free b = none (ap (λ x. get_or w.all x false) (sym place) ∙ b)

        choice : (e : ℕ) × (e < slice_index sizes (k / 4)) × LeavesRoom (get_or orders (k / 4) false) (slice_index counts (k / 4)) (slice_index sizes (k / 4)) (k / 4) (k % 4) e w.all w.elements
        choice =
            let known = count_inside counts (k / 4) (k % 4) own in
            let found = sort_at P.sorts (k / 4) (let l = j.each in omega (arith, l, known)) in
            let order : found.0.ordered ≡ get_or orders (k / 4) false = sym (j.orders_are (k / 4) found.0 found.1) in
            let fits = enough (k / 4) in
            room_found (get_or orders (k / 4) false) (slice_index counts (k / 4)) (slice_index sizes (k / 4)) (k / 4) (k % 4) w.all w.elements own fits free
            (λ i inside b. subst (λ o. HasRoom o (slice_index counts (k / 4)) (slice_index sizes (k / 4)) i (slice_index w.elements (4 * (k / 4) + i))) order (w.partial.room (k / 4) found.0 i found.1 inside b))
            (λ i l before inside b c. subst (λ o. AreSpaced o i (slice_index w.elements (4 * (k / 4) + i)) l (slice_index w.elements (4 * (k / 4) + l))) order (w.partial.spaced (k / 4) found.0 i l found.1 before inside b c))

        at_place : (t i : ℕ) → i < slice_index counts t → (4 * t + i < k) ⊎ (k ≤ 4 * t + i) → 4 * t + i < suc k → IsBound (set w.all (4 * (k / 4) + k % 4) true) (record { sort = t; number = i })
        at_place t i inside (inl earlier) before = get_or-set_other w.all (4 * (k / 4) + k % 4) (4 * t + i) true false (omega (arith, earlier, place)) ∙ w.filled t i inside earlier
        at_place t i inside (inr past) before =
            let same : 4 * t + i ≡ 4 * (k / 4) + k % 4 = omega (arith, past, before, place) in
            ap (λ x. get_or (set w.all (4 * (k / 4) + k % 4) true) x false) same ∙ get_or-set_same w.all (4 * (k / 4) + k % 4) true false (let long = w.partial.places in omega (arith, long, le, place))

apart_spaced : (ordered : Bool) (i e j f : ℕ) → i < j → AreSpaced ordered i e j f → Apart ordered e f
apart_spaced true i e j f before h = omega (arith, before, h)
apart_spaced false i e j f before h = h

-- where all variables have elements, they are placed
pub all_begun : (P : Protocol) (orders : List Bool) (sizes counts : List ℕ) (bound : List Bool) (values : List ℕ) → IsSearched P orders counts → IsPartial P sizes counts bound values → ((t i : ℕ) → i < slice_index counts t → IsBound bound (record { sort = t; number = i })) → IsBegun P sizes counts (length counts) 0 values
all_begun P orders sizes counts bound values j h all = record {
  long = h.long;
  inside = λ t i k before. h.inside t i k (all t i k);
  apart = λ t T i l f k m before. let inside : i < slice_index counts t = omega (arith, k, m) in apart_spaced T.ordered i (slice_index values (4 * t + i)) l (slice_index values (4 * t + l)) k (h.spaced t T i l f k m (all t i inside) (all t l m));
}

pub completed : (P : Protocol) (orders : List Bool) (sizes counts : List ℕ) (bound : List Bool) (values : List ℕ) → IsSearched P orders counts → AreEnough counts sizes → IsPartial P sizes counts bound values → (elements : List (List ℕ)) × ArePlacements P counts sizes elements × IsCompletion counts bound values elements
completed P orders sizes counts bound values j enough h =
    let w = fill P orders sizes counts bound values j enough h 32 (omega arith) in
    let all : (t i : ℕ) → i < slice_index counts t → IsBound w.all (record { sort = t; number = i }) = λ t i k. w.filled t i k (let few = j.few t in let known = count_inside counts t i k in let types = j.few_types in omega (arith, k, few, known, types)) in (
      cut counts w.elements,
      cut_placed P sizes counts w.elements j.each (all_begun P orders sizes counts w.all w.elements j w.partial all),
      λ t i k b. cut_at counts w.elements t i k ∙ (w.keeps t i k b).1,
    )

-- different elements for each variable are as many
one_to_one : (ordered : Bool) (count size : ℕ) (xs : List ℕ) → IsPlacement ordered count size xs → IsOneToOne count size (slice_index xs)
one_to_one true count size xs h = record { inside = h.inside; apart = λ i j before below e. let k = h.apart i j before below in omega (arith, k, e) }
one_to_one false count size xs h = record { inside = h.inside; apart = h.apart }

pub enough : (P : Protocol) (sizes counts : List ℕ) (elements : List (List ℕ)) → length counts ≡ length P.sorts → ArePlacements P counts sizes elements → AreEnough counts sizes
enough P sizes counts elements each placed t = either (cases_lt t (length P.sorts))
  where
    either : (t < length P.sorts) ⊎ (length P.sorts ≤ t) → slice_index counts t ≤ slice_index sizes t
    either (inl known) =
        let found = sort_at P.sorts t known in
        no_fewer (slice_index counts t) (slice_index sizes t) (slice_index (of_sort elements t)) (one_to_one found.0.ordered (slice_index counts t) (slice_index sizes t) (of_sort elements t) (placed.each t found.0 found.1))
    either (inr past) = let none : slice_index counts t ≡ 0 = get_or_past counts t 0 (omega (arith, past, each)) in omega (arith, none)
