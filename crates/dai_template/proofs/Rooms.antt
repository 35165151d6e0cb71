-- Elements for some variables of a type, with room for the others, leave an element for each of the others.
use Rattle.std.proofs.Common.{◌≡◌, ◌≢◌, ◌<◌, ◌≤◌, ℕ, zero, suc, ◌+◌, ◌-◌, ◌*◌, Bool, true, false, List, get_or, sym, ap, ◌∙◌, refl, subst, arith, inl, inr, ◌⊎◌}
use Rattle.std.specs.Prelude.{slice_index}
use Rattle.std.proofs.lemmas.Bool.{cases_lt}
use Rattle.dai_model.specs.Placement.{IsPlacement}
use Rattle.dai_model.proofs.Counting.{left_out}
use Rattle.dai_template.specs.Meeting.{IsBound, HasRoom, AreSpaced, LeavesRoom}

rising_step : (g : ℕ → ℕ) (i j : ℕ) → i ≤ suc j → g j < g (suc j) → (i ≤ j → g i + j ≤ g j + i) → (i < suc j) ⊎ (suc j ≤ i) → g i + suc j ≤ g (suc j) + i
rising_step g i j le last earlier (inl before) = let k = earlier (omega (arith, before)) in omega (arith, k, last)
rising_step g i j le last earlier (inr past) = let same : i ≡ suc j = omega (arith, le, past) in subst (λ x. g x + suc j ≤ g (suc j) + x) (sym same) (omega arith)

-- increasing numbers leave room for those between
rising : (g : ℕ → ℕ) (count : ℕ) → ((i j : ℕ) → i < j → j < count → g i < g j) → (i j : ℕ) → i ≤ j → j < count → g i + j ≤ g j + i
rising g count h zero zero le below = omega arith
rising g count h (suc i) zero le below = absurd (omega (arith, le))
rising g count h i (suc j) le below = rising_step g i j le (h j (suc j) (omega arith) below) (λ before. rising g count h i j before (omega (arith, below))) (cases_lt i (suc j))

pub placed_spaced : (ordered : Bool) (count size : ℕ) (xs : List ℕ) → IsPlacement ordered count size xs → (i j : ℕ) → i < j → j < count → AreSpaced ordered i (slice_index xs i) j (slice_index xs j)
placed_spaced true count size xs h i j before below = rising (slice_index xs) count h.apart i j (omega (arith, before)) below
placed_spaced false count size xs h i j before below = h.apart i j before below

pub placed_room : (ordered : Bool) (count size : ℕ) (xs : List ℕ) → IsPlacement ordered count size xs → (i : ℕ) → i < count → HasRoom ordered count size i (slice_index xs i)
placed_room true count size xs h i below =
    let first = rising (slice_index xs) count h.apart 0 i (omega arith) below in
    let last = rising (slice_index xs) count h.apart i (count - 1) (omega (arith, below)) (omega (arith, below)) in
    let inside = h.inside (count - 1) (omega (arith, below)) in
    (omega (arith, first), omega (arith, last, inside, below))
placed_room false count size xs h i below = tt

-- all numbers but one
abbrev skip : ℕ → ℕ → ℕ
skip zero i = suc i
skip (suc n) zero = zero
skip (suc n) (suc i) = suc (skip n i)

skipped : (number i count : ℕ) → number < count → i < count → i ≢ number → (k : ℕ) × (k + 1 < count) × (skip number k ≡ i)
skipped number i zero a b other = absurd (omega (arith, a))
skipped zero zero (suc count) a b other = absurd (other refl)
skipped zero (suc i) (suc count) a b other = (i, omega (arith, b), refl)
skipped (suc n) zero (suc count) a b other = (zero, omega (arith, a), refl)
skipped (suc n) (suc i) (suc count) a b other =
    let w = skipped n i count (omega (arith, a)) (omega (arith, b)) (λ e. other (ap suc e)) in
    (suc w.0, let k = w.1 in omega (arith, k), ap suc w.2)

-- an element that none of the other variables stands for
another : (count size number : ℕ) (g : ℕ → ℕ) → number < count → count ≤ size → (e : ℕ) × (e < size) × ((i : ℕ) → i < count → i ≢ number → g i ≢ e)
another count size number g below enough =
    let w = left_out (count - 1) size (λ k. g (skip number k)) (omega (arith, below, enough)) in
    (w.0, w.1, λ i inside other e. let k = skipped number i count below inside other in w.2 (k.0, let l = k.1 in omega (arith, l), ap g k.2 ∙ e))

-- an element above those of the first variables, with room for all
record IsLow (count size sort number : ℕ) (bound : List Bool) (values : List ℕ) (k e : ℕ) : Type 0 where
  pub low : number ≤ e
  pub high : e + count ≤ size + number
  pub above : (i : ℕ) → i < k → IsBound bound (record { sort = sort; number = i }) → slice_index values (4 * sort + i) + number ≤ e + i
  pub under : (j : ℕ) → number < j → j < count → IsBound bound (record { sort = sort; number = j }) → e + j ≤ slice_index values (4 * sort + j) + number

pub true_or_not : (b : Bool) → (b ≡ true) ⊎ (b ≡ true → ⊥)
true_or_not true = inl refl
true_or_not false = inr (λ e. let k : ⊥ = cc in k)

lowest : (count size sort number : ℕ) (bound : List Bool) (values : List ℕ) → number < count → count ≤ size → ((i : ℕ) → i < count → IsBound bound (record { sort = sort; number = i }) → HasRoom true count size i (slice_index values (4 * sort + i))) → ((i j : ℕ) → i < j → j < count → IsBound bound (record { sort = sort; number = i }) → IsBound bound (record { sort = sort; number = j }) → AreSpaced true i (slice_index values (4 * sort + i)) j (slice_index values (4 * sort + j))) → (k : ℕ) → k ≤ number → (e : ℕ) × IsLow count size sort number bound values k e
lowest count size sort number bound values below enough room spaced zero le = (
  number,
  record {
    low = omega arith;
    high = omega (arith, enough);
    above = λ i k b. absurd (omega (arith, k));
    under = λ j after inside b. let r = (room j inside b).0 in omega (arith, r);
  },
)
lowest count size sort number bound values below enough room spaced (suc k) le = with_this (lowest count size sort number bound values below enough room spaced k (omega (arith, le))) (true_or_not (get_or bound (4 * sort + k) false))
  where
    seen : (e f i : ℕ) → ((i : ℕ) → i < k → IsBound bound (record { sort = sort; number = i }) → slice_index values (4 * sort + i) + number ≤ f + i) → (IsBound bound (record { sort = sort; number = k }) → slice_index values (4 * sort + k) + number ≤ e + k) → f ≤ e → i < suc k → IsBound bound (record { sort = sort; number = i }) → (i < k) ⊎ (k ≤ i) → slice_index values (4 * sort + i) + number ≤ e + i
    seen e f i older last most h b (inl before) = let a = older i before b in omega (arith, a, most)
    seen e f i older last most h b (inr past) =
        let same : i ≡ k = omega (arith, h, past) in
        subst (λ x. slice_index values (4 * sort + x) + number ≤ e + x) (sym same) (last (subst (λ x. get_or bound (4 * sort + x) false ≡ true) same b))

    with_this : (e : ℕ) × IsLow count size sort number bound values k e → (get_or bound (4 * sort + k) false ≡ true) ⊎ (get_or bound (4 * sort + k) false ≡ true → ⊥) → (e : ℕ) × IsLow count size sort number bound values (suc k) e
    with_this w (inr none) = (
      w.0,
      record {
        low = w.1.low;
        high = w.1.high;
        above = λ i h b. seen w.0 w.0 i w.1.above (λ x. absurd (none x)) (omega arith) h b (cases_lt i k);
        under = w.1.under;
      },
    )
    with_this w (inl here) = higher (cases_lt (w.0 + k) (slice_index values (4 * sort + k) + number))
      where
        higher : (w.0 + k < slice_index values (4 * sort + k) + number) ⊎ (slice_index values (4 * sort + k) + number ≤ w.0 + k) → (e : ℕ) × IsLow count size sort number bound values (suc k) e
        higher (inr most) = (
          w.0,
          record {
            low = w.1.low;
            high = w.1.high;
            above = λ i h b. seen w.0 w.0 i w.1.above (λ x. most) (omega arith) h b (cases_lt i k);
            under = w.1.under;
          },
        )
        higher (inl more) =
            let f = slice_index values (4 * sort + k) in
            let e = f + number - k in
            let is : e + k ≡ f + number = omega (arith, le) in
            let r = room k (omega (arith, le, below)) here in
            let high = r.1 in
            let was = w.1.low in (
              e,
              record {
                low = omega (arith, is, more, was);
                high = omega (arith, is, high);
                above = λ i h b. seen e w.0 i w.1.above (λ x. omega (arith, is)) (omega (arith, is, more)) h b (cases_lt i k);
                under = λ j after inside b. let s = spaced k j (omega (arith, after, le)) inside here b in omega (arith, is, s);
              },
            )

-- there is an element for each variable that has none
pub room_found : (ordered : Bool) (count size sort number : ℕ) (bound : List Bool) (values : List ℕ) → number < count → count ≤ size → (IsBound bound (record { sort = sort; number = number }) → ⊥) → ((i : ℕ) → i < count → IsBound bound (record { sort = sort; number = i }) → HasRoom ordered count size i (slice_index values (4 * sort + i))) → ((i j : ℕ) → i < j → j < count → IsBound bound (record { sort = sort; number = i }) → IsBound bound (record { sort = sort; number = j }) → AreSpaced ordered i (slice_index values (4 * sort + i)) j (slice_index values (4 * sort + j))) → (e : ℕ) × (e < size) × LeavesRoom ordered count size sort number e bound values
room_found true count size sort number bound values below enough none room spaced =
    let w = lowest count size sort number bound values below enough room spaced number (omega arith) in (
      w.0,
      let h = w.1.high in omega (arith, h, below),
      ((w.1.low, w.1.high), λ i inside b. (λ before. w.1.under i before inside b, λ after. w.1.above i after b)),
    )
room_found false count size sort number bound values below enough none room spaced =
    let w = another count size number (λ i. slice_index values (4 * sort + i)) below enough in (
      w.0,
      w.1,
      (tt, λ i inside b. (λ before e. w.2 i inside (omega (arith, before)) (sym e), λ after. w.2 i inside (omega (arith, after)))),
    )
