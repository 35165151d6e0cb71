-- The numbers that rows count and mark, and the tables that they show.
use Rattle.std.proofs.Common.{◌≡◌, ◌+◌, ◌<◌, ◌≤◌, ◌++◌, ℕ, Bool, true, false, List, [], ◌∷◌, length, get_or, map, ap, sym, ◌∙◌, subst, arith, inl, inr, ◌⊎◌}
use Rattle.std.specs.List.{range_with_len}
use Rattle.std.proofs.lemmas.Bool.{cases_lt, both_ways, ltb-true, ltb-false, eq-eqb, eqb-true}
use Rattle.std.proofs.lemmas.List.{get_or_append_left, get_or_push, length_push}
use Rattle.std.proofs.lemmas.List.FromFn.{map-range_with_len_more}
use Rattle.dai_model.specs.Structure.{is_tuple}
use Rattle.dai_logic.specs.Counts.{tuple_count, tuple_place, tuple_at}
use Rattle.dai_logic.specs.declared.layout.Layout.{Layout}
use Rattle.dai_logic.proofs.Tuples.{place_inside, place_of_tuple}
use Rattle.dai_circuit.specs.declared.bit.Bit.{Bit}
use Rattle.dai_circuit.specs.Circuits.{bit_value}
use Rattle.dai_picture.specs.Pictures.{bit_at, Marks, Counts}
use Rattle.dai_picture.specs.Decoding.{AreNested, sorts_at}
use Rattle.dai_picture.proofs.Choices.{tuple_wider}

-- ---- the walk along a row
pub counts_beyond : (bits : List Bool) (row : List Bit) (size slot : ℕ) → Counts bits row size → slot < length row → bit_value bits (bit_at row slot) ≡ true → slot < size
counts_beyond bits row size slot counts inside here = ltb-true slot size (sym (counts.front slot inside) ∙ here)

pub counts_here : (bits : List Bool) (row : List Bit) (size slot : ℕ) → Counts bits row size → slot < length row → bit_value bits (bit_at row slot) ≡ false → size ≤ slot
counts_here bits row size slot counts inside here = ltb-false slot size (sym (counts.front slot inside) ∙ here)

pub marks_here : (bits : List Bool) (row : List Bit) (e slot : ℕ) → Marks bits row e → slot < length row → bit_value bits (bit_at row slot) ≡ true → slot ≡ e
marks_here bits row e slot marks inside here = eqb-true slot e (sym (marks.marks slot inside) ∙ here)

pub marks_beyond : (bits : List Bool) (row : List Bit) (e slot : ℕ) → Marks bits row e → slot < length row → slot ≤ e → bit_value bits (bit_at row slot) ≡ false → slot + 1 ≤ e
marks_beyond bits row e slot marks inside least here = by_cases (cases_lt slot e)
  where
    by_cases : (slot < e) ⊎ (e ≤ slot) → slot + 1 ≤ e
    by_cases (inl less) = omega arith
    by_cases (inr more) =
        let same : slot ≡ e = omega arith in
        absurd (both_ways (bit_value bits (bit_at row slot)) here (marks.marks slot inside ∙ eq-eqb slot e same))

-- ---- one number more
pub read_more : (P : ℕ → ℕ → Type 0) (xs ys : List ℕ) (n x : ℕ) → ys ≡ xs ++ x ∷ [] → length xs ≡ n → ((k y : ℕ) → k < n → P k y → get_or xs k 0 ≡ y) → ((y : ℕ) → P n y → x ≡ y) → (length ys ≡ n + 1) × ((k y : ℕ) → k < n + 1 → P k y → get_or ys k 0 ≡ y)
read_more P xs ys n x e long each here =
    let one_more = length_push xs x in
    let same = ap length e in (
      omega arith,
      λ k y l p. elim (cases_lt k n) [
        | inl low ↦ ap (λ zs. get_or zs k 0) e ∙ get_or_append_left xs (x ∷ []) 0 k (omega arith) ∙ each k y low p
        | inr past ↦
            let at : k ≡ n = omega arith in
            ap (λ zs. get_or zs k 0) e ∙ get_or_push xs x 0 k (omega arith) ∙ here y (subst (λ j. P j y) at p)
      ],
    )

-- ---- a tuple of elements is a tuple of slots
pub nested_tuple : (small wide : Layout) (r place : ℕ) → AreNested small wide → place < tuple_count small.sizes.items (sorts_at small r) → is_tuple wide.sizes.items (sorts_at wide r) (tuple_at small.sizes.items (sorts_at small r) place) ≡ true
nested_tuple small wide r place nested inside =
    subst (λ sorts. is_tuple wide.sizes.items sorts (tuple_at small.sizes.items (sorts_at small r) place) ≡ true) (sym (ap (λ rows. get_or rows r []) nested.same))
    (tuple_wider small.sizes.items wide.sizes.items (sorts_at small r) (tuple_at small.sizes.items (sorts_at small r) place) nested.fewer (place_of_tuple small.sizes.items (sorts_at small r) place inside).0)

pub nested_place : (small wide : Layout) (r place slot long : ℕ) (tuple : List ℕ) → AreNested small wide → place < tuple_count small.sizes.items (sorts_at small r) → tuple ≡ tuple_at small.sizes.items (sorts_at small r) place → slot ≡ tuple_place wide.sizes.items (sorts_at wide r) tuple → long ≡ tuple_count wide.sizes.items (sorts_at wide r) → slot < long
nested_place small wide r place slot long tuple nested inside e f g =
    let there = place_inside wide.sizes.items (sorts_at wide r) (tuple_at small.sizes.items (sorts_at small r) place) (nested_tuple small wide r place nested inside) in
    let same = ap (tuple_place wide.sizes.items (sorts_at wide r)) e in
    omega arith

-- one truth value more
pub value_more : {X : Type 0} (f : ℕ → X) (xs ys : List X) (n : ℕ) (x : X) → xs ≡ map f (range_with_len 0 n) → ys ≡ xs ++ x ∷ [] → x ≡ f n → ys ≡ map f (range_with_len 0 (n + 1))
value_more f xs ys n x h e is = e ∙ (ap (λ zs. zs ++ x ∷ []) h ∙ (ap (λ z. map f (range_with_len 0 n) ++ z ∷ []) is ∙ sym (map-range_with_len_more f 0 n n (omega arith))))
