-- What terms may stand for, as candidates.
use Rattle.std.proofs.Common.{◌≡◌, ◌+◌, ◌<◌, ◌≤◌, ◌&&◌, ◌||◌, ℕ, suc, Bool, true, false, List, [], ◌∷◌, ◌++◌, length, get_or, take, refl, ap, ◌∙◌, arith}
use Rattle.std.specs.Prelude.{nat_eq}
use Rattle.std.specs.List.{All, list_any}
use Rattle.std.proofs.lemmas.List.{take_more, length-take-le}
use Rattle.std.proofs.lemmas.Bool.Decides.{nat_tests}
use Rattle.std.proofs.lemmas.List.Elements.{All-cons, All-head, All-tail}
use Rattle.dai_circuit.specs.declared.bit.Bit.{Bit}
use Rattle.dai_circuit.specs.declared.bit.Bit.TheVariants.{Known}
use Rattle.dai_circuit.specs.Circuits.{bit_value, IsBitBelow, AreBitsBelow}
use Rattle.dai_picture.specs.Pictures.{bit_at, Marks}
use Rattle.dai_ground.specs.declared.candidates.Candidate.{Candidate}
use Rattle.dai_ground.specs.Grounding.{StandFor}
use Rattle.dai_ground.specs.Rows.{numbered}

pub numbered-push : (slot : ℕ) (row : List Bit) (bit : Bit) → numbered slot (row ++ bit ∷ []) ≡ numbered slot row ++ record { slot = slot + length row; bit = bit } ∷ []
numbered-push slot [] bit = ap (λ n. record { slot = n; bit = bit } ∷ []) (let e : slot ≡ slot + 0 = omega arith in e)
numbered-push slot (b ∷ row) bit = ap (λ cs. record { slot = slot; bit = b } ∷ cs) (numbered-push (slot + 1) row bit ∙ ap (λ n. numbered (slot + 1) row ++ record { slot = n; bit = bit } ∷ []) (let e : slot + 1 + length row ≡ slot + suc (length row) = omega arith in e))

-- past the marked slot no candidate passes
none_later : (bits : List Bool) (row : List Bit) (slot e : ℕ) (test : ℕ → Bool) → e < slot → ((k : ℕ) → k < length row → bit_value bits (bit_at row k) ≡ nat_eq (slot + k) e) → list_any (λ (c : Candidate). bit_value bits c.bit && test c.slot) (numbered slot row) ≡ false
none_later bits [] slot e test later marks = refl
none_later bits (b ∷ row) slot e test later marks =
    let off : bit_value bits b ≡ false = marks 0 (omega arith) ∙ (let k : nat_eq (slot + 0) e ≡ false = grind (arith, nat_tests) in k) in
    ap (λ v. v && test slot || list_any (λ (c : Candidate). bit_value bits c.bit && test c.slot) (numbered (slot + 1) row)) off
    ∙ none_later bits row (slot + 1) e test (omega arith) (λ k l. marks (suc k) (omega arith) ∙ ap (λ n. nat_eq n e) (let i : slot + suc k ≡ slot + 1 + k = omega arith in i))

or_none : (b : Bool) → (b || false) ≡ b
or_none true = refl
or_none false = refl

marked : (bits : List Bool) (row : List Bit) (slot e : ℕ) (test : ℕ → Bool) → slot ≤ e → e < slot + length row → ((k : ℕ) → k < length row → bit_value bits (bit_at row k) ≡ nat_eq (slot + k) e) → list_any (λ (c : Candidate). bit_value bits c.bit && test c.slot) (numbered slot row) ≡ test e
marked bits [] slot e test from below marks = absurd (omega arith)
marked bits (b ∷ row) slot e test from below marks = here (λ low. marked bits row (slot + 1) e test low (omega arith) (λ n l. marks (suc n) (omega arith) ∙ ap (λ m. nat_eq m e) (let i : slot + suc n ≡ slot + 1 + n = omega arith in i))) (nat_eq slot e) refl
  where
    here : (slot + 1 ≤ e → list_any (λ (c : Candidate). bit_value bits c.bit && test c.slot) (numbered (slot + 1) row) ≡ test e) → (is : Bool) → nat_eq slot e ≡ is → (bit_value bits b && test slot || list_any (λ (c : Candidate). bit_value bits c.bit && test c.slot) (numbered (slot + 1) row)) ≡ test e
    here later true same =
        let k : slot ≡ e = grind (arith, nat_tests) in
        let on : bit_value bits b ≡ true = marks 0 (omega arith) ∙ (let j : nat_eq (slot + 0) e ≡ true = grind (arith, nat_tests) in j) in
        ap (λ v. v && test slot || list_any (λ (c : Candidate). bit_value bits c.bit && test c.slot) (numbered (slot + 1) row)) on
        ∙ (ap (λ v. test slot || v) (none_later bits row (slot + 1) e test (omega arith) (λ n l. marks (suc n) (omega arith) ∙ ap (λ m. nat_eq m e) (let i : slot + suc n ≡ slot + 1 + n = omega arith in i)))
        ∙ (or_none (test slot) ∙ ap test k))
    here later false other =
        let off : bit_value bits b ≡ false = marks 0 (omega arith) ∙ (let j : nat_eq (slot + 0) e ≡ false = grind (arith, nat_tests) in j) in
        ap (λ v. v && test slot || list_any (λ (c : Candidate). bit_value bits c.bit && test c.slot) (numbered (slot + 1) row)) off
        ∙ later (let j : slot + 1 ≤ e = grind (arith, nat_tests) in j)

-- a row's slots stand for the element that it marks
pub row_stands : (bits : List Bool) (row : List Bit) (e : ℕ) → Marks bits row e → StandFor bits (numbered 0 row) e
row_stands bits row e m = λ test. marked bits row 0 e test (omega arith) (let i = m.inside in omega arith) (λ k l. m.marks k l ∙ ap (λ n. nat_eq n e) (let i : k ≡ 0 + k = omega arith in i))

-- one slot stands for itself
pub slot_stands : (bits : List Bool) (slot : ℕ) → StandFor bits (numbered slot (Known true ∷ [])) slot
slot_stands bits slot = λ test. or_none (test slot)

pub numbered_over : (count slot : ℕ) (row : List Bit) → AreBitsBelow count row → All (λ (c : Candidate). IsBitBelow count c.bit) (numbered slot row)
numbered_over count slot [] below = λ k d l. absurd (omega arith)
numbered_over count slot (b ∷ row) below = All-cons (λ (c : Candidate). IsBitBelow count c.bit) (record { slot = slot; bit = b }) (numbered (slot + 1) row) (All-head (IsBitBelow count) b row below) (numbered_over count (slot + 1) row (All-tail (IsBitBelow count) b row below))

pub numbered_inside : (size slot : ℕ) (row : List Bit) → slot + length row ≤ size → All (λ (c : Candidate). c.slot < size) (numbered slot row)
numbered_inside size slot [] room = λ k d l. absurd (omega arith)
numbered_inside size slot (b ∷ row) room = All-cons (λ (c : Candidate). c.slot < size) (record { slot = slot; bit = b }) (numbered (slot + 1) row) (omega arith) (numbered_inside size (slot + 1) row (omega arith))

pub numbered-next : (row : List Bit) (slot : ℕ) (d : Bit) → slot < length row → numbered 0 (take (slot + 1) row) ≡ numbered 0 (take slot row) ++ record { slot = slot; bit = get_or row slot d } ∷ []
numbered-next row slot d below =
    let n : length (take slot row) ≡ slot = length-take-le slot row (let b = below in omega arith) in
    ap (numbered 0) (take_more row slot d below)
    ∙ (numbered-push 0 (take slot row) (get_or row slot d)
    ∙ ap (λ m. numbered 0 (take slot row) ++ record { slot = m; bit = get_or row slot d } ∷ []) (let k : 0 + length (take slot row) ≡ slot = omega arith in k))
