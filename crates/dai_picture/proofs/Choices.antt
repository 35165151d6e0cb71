-- Lists of numbers that are known to exist one by one, and tuples of elements.
use Rattle.std.proofs.Common.{◌≡◌, ◌<◌, ◌≤◌, ◌&&◌, ℕ, zero, suc, Bool, true, false, List, [], ◌∷◌, ◌++◌, length, get_or, refl, ap, sym, ◌∙◌, subst, arith, inl, inr, ◌⊎◌}
use Rattle.std.specs.Prelude.{nat_lt}
use Rattle.std.specs.List.{AllZip}
use Rattle.std.proofs.lemmas.Bool.{cases_lt, lt-ltb, ltb-true}
use Rattle.std.proofs.lemmas.List.{get_or_append_left, get_or_push, get_or_past, length_push}
use Rattle.std.proofs.lemmas.List.Elements.{AllZip-get_or}
use Rattle.dai_model.specs.Structure.{is_tuple}
use Rattle.dai_model.proofs.Typed.{and_left, and_right}
use Rattle.dai_picture.specs.Worlds.{AreSizesWithin}

-- a list of as many numbers, each of which has the property of its place
pub record AreChosen (P : ℕ → ℕ → Type 0) (n : ℕ) (xs : List ℕ) : Type 0 where
  pub long : length xs ≡ n
  pub each : (k : ℕ) → k < n → P k (get_or xs k 0)

pub choose : (P : ℕ → ℕ → Type 0) (n : ℕ) → ((k : ℕ) → k < n → (x : ℕ) × P k x) → (xs : List ℕ) × AreChosen P n xs
choose P zero some = ([], record { long = refl; each = λ k l. absurd (omega arith) })
choose P (suc n) some =
    let rest = choose P n (λ k l. some k (omega arith)) in
    let last = some n (omega arith) in
    let xs = rest.0 in
    let more = length_push xs last.0 in
    let long = rest.1.long in (
      xs ++ last.0 ∷ [],
      record {
        long = omega arith;
        each = λ k l. elim (cases_lt k n) [
          | inl low ↦ subst (P k) (sym (get_or_append_left xs (last.0 ∷ []) 0 k (omega arith))) (rest.1.each k low)
          | inr past ↦
              let here : n ≡ k = omega arith in
              subst (λ j. P j (get_or (xs ++ last.0 ∷ []) j 0)) here (subst (P n) (sym (get_or_push xs last.0 0 n long)) last.1)
        ];
      },
    )

pub tuple_from : (sizes sorts es : List ℕ) → length es ≡ length sorts → ((k : ℕ) → k < length sorts → get_or es k 0 < get_or sizes (get_or sorts k 0) 0) → is_tuple sizes sorts es ≡ true
tuple_from sizes [] [] long each = refl
tuple_from sizes [] (e ∷ es) long each = absurd (omega arith)
tuple_from sizes (sort ∷ sorts) [] long each = absurd (omega arith)
tuple_from sizes (sort ∷ sorts) (e ∷ es) long each =
    ap (λ b. b && is_tuple sizes sorts es) (lt-ltb e (get_or sizes sort 0) (each 0 (omega arith)))
    ∙ tuple_from sizes sorts es (omega arith) (λ k l. each (suc k) (omega arith))

pub tuple_at_each : (sizes sorts es : List ℕ) (k : ℕ) → is_tuple sizes sorts es ≡ true → k < length sorts → get_or es k 0 < get_or sizes (get_or sorts k 0) 0
tuple_at_each sizes [] es k h l = absurd (omega arith)
tuple_at_each sizes (sort ∷ sorts) [] k h l = absurd (let e : ⊥ = cc in e)
tuple_at_each sizes (sort ∷ sorts) (e ∷ es) zero h l = ltb-true e (get_or sizes sort 0) (and_left _ _ h)
tuple_at_each sizes (sort ∷ sorts) (e ∷ es) (suc k) h l = tuple_at_each sizes sorts es k (and_right (nat_lt e (get_or sizes sort 0)) _ h) (omega arith)

pub tuple_wider : (sizes slots sorts es : List ℕ) → ((sort : ℕ) → get_or sizes sort 0 ≤ get_or slots sort 0) → is_tuple sizes sorts es ≡ true → is_tuple slots sorts es ≡ true
tuple_wider sizes slots [] [] wide h = refl
tuple_wider sizes slots [] (e ∷ es) wide h = h
tuple_wider sizes slots (sort ∷ sorts) [] wide h = h
tuple_wider sizes slots (sort ∷ sorts) (e ∷ es) wide h =
    let more = wide sort in
    let below : e < get_or sizes sort 0 = ltb-true e (get_or sizes sort 0) (and_left _ _ h) in
    ap (λ b. b && is_tuple slots sorts es) (lt-ltb e (get_or slots sort 0) (omega arith))
    ∙ tuple_wider sizes slots sorts es wide (and_right (nat_lt e (get_or sizes sort 0)) _ h)

-- sizes within the slots, at each number
pub within_at : (exact : Bool) (slots sizes : List ℕ) → AreSizesWithin exact slots sizes → (sort : ℕ) → get_or sizes sort 0 ≤ get_or slots sort 0
within_at true slots sizes same sort = let e = ap (λ xs. get_or xs sort 0) same in omega arith
within_at false slots sizes zip sort = by_cases (cases_lt sort (length sizes))
  where
    by_cases : (sort < length sizes) ⊎ (length sizes ≤ sort) → get_or sizes sort 0 ≤ get_or slots sort 0
    by_cases (inl inside) = AllZip-get_or (λ size most. size ≤ most) sizes slots sort 0 0 zip inside
    by_cases (inr past) = let none = get_or_past sizes sort 0 past in omega arith

pub zip_from : (sizes slots : List ℕ) → length sizes ≡ length slots → ((k : ℕ) → k < length sizes → get_or sizes k 0 ≤ get_or slots k 0) → AllZip (λ size most. size ≤ most) sizes slots
zip_from [] [] long each = tt
zip_from [] (y ∷ ys) long each = absurd (omega arith)
zip_from (x ∷ xs) [] long each = absurd (omega arith)
zip_from (x ∷ xs) (y ∷ ys) long each = (each 0 (omega arith), zip_from xs ys (omega arith) (λ k l. each (suc k) (omega arith)))
