-- Lines and words from the front.
use Rattle.std.proofs.Common.{◌≡◌, ◌+◌, ◌-◌, ◌<◌, ◌≤◌, ℕ, zero, suc, Bool, true, false, not, cond, List, [], ◌∷◌, Option, Some, None, length, get_or, take, drop, add-one, drop-cons, length-drop, refl, ap, sym, ◌∙◌, arith}
use Rattle.std.specs.List.{filter, position, position_from}
use Rattle.std.proofs.lemmas.List.{length-take-le}
use Rattle.std.proofs.lemmas.List.Quantifiers.{position-Some}
use Rattle.std.proofs.Math.Seq.{take-length, drop-length}
use Rattle.std.proofs.lemmas.Iterator.Adapters.{position_from-zero}
use Rattle.dai_dimacs.specs.Pieces.{with_front, pieces, is_filled}

cond_true : {A : Type 0} (b : Bool) (x y : A) → b ≡ true → cond b x y ≡ x
cond_true b x y e = ap (λ t. cond t x y) e

cond_false : {A : Type 0} (b : Bool) (x y : A) → b ≡ false → cond b x y ≡ y
cond_false b x y e = ap (λ t. cond t x y) e

-- an empty piece is no word
blank_first : (b : Bool) (ps qs : List (List ℕ)) → b ≡ true → filter is_filled (cond b ([] ∷ ps) qs) ≡ filter is_filled ps
blank_first b ps qs e = ap (λ t. filter is_filled (cond t ([] ∷ ps) qs)) e

-- what stands before a text and separates adds no word
pub blank_front : (p : ℕ → Bool) (xs : List ℕ) (i : ℕ) → i ≤ length xs → ((k : ℕ) → k < i → p (get_or xs k 0) ≡ true) → filter is_filled (pieces p xs) ≡ filter is_filled (pieces p (drop i xs))
blank_front p xs zero h all = refl
blank_front p [] (suc i) h all = absurd (omega arith)
blank_front p (x ∷ xs) (suc i) h all =
    blank_first (p x) (pieces p xs) (with_front x (pieces p xs)) (all 0 (omega arith))
    ∙ blank_front p xs i (omega arith) (λ k l. all (suc k) (omega arith))

-- a text of separators has no word
pub all_blank : (p : ℕ → Bool) (xs : List ℕ) → ((k : ℕ) → k < length xs → p (get_or xs k 0) ≡ true) → filter is_filled (pieces p xs) ≡ []
all_blank p [] all = refl
all_blank p (x ∷ xs) all =
    blank_first (p x) (pieces p xs) (with_front x (pieces p xs)) (all 0 (omega arith))
    ∙ all_blank p xs (λ k l. all (suc k) (omega arith))

-- the first piece ends where the first separator stands
pub cut_at : (p : ℕ → Bool) (xs : List ℕ) (i : ℕ) → i < length xs → p (get_or xs i 0) ≡ true → ((k : ℕ) → k < i → p (get_or xs k 0) ≡ false) → pieces p xs ≡ take i xs ∷ pieces p (drop (suc i) xs)
cut_at p [] i h here before = absurd (omega arith)
cut_at p (x ∷ xs) zero h here before = cond_true (p x) _ _ here
cut_at p (x ∷ xs) (suc i) h here before =
    cond_false (p x) ([] ∷ pieces p xs) (with_front x (pieces p xs)) (before 0 (omega arith))
    ∙ ap (with_front x) (cut_at p xs i (omega arith) here (λ k l. before (suc k) (omega arith)))

-- a text without a separator is one piece
pub whole : (p : ℕ → Bool) (xs : List ℕ) → ((k : ℕ) → k < length xs → p (get_or xs k 0) ≡ false) → pieces p xs ≡ xs ∷ []
whole p [] none = refl
whole p (x ∷ xs) none =
    cond_false (p x) ([] ∷ pieces p xs) (with_front x (pieces p xs)) (none 0 (omega arith))
    ∙ ap (with_front x) (whole p xs (λ k l. none (suc k) (omega arith)))

-- a separator adds no word
skip : (p : ℕ → Bool) (xs : List ℕ) (i : ℕ) → i < length xs → p (get_or xs i 0) ≡ true → filter is_filled (pieces p (drop i xs)) ≡ filter is_filled (pieces p (drop (suc i) xs))
skip p [] i h here = absurd (omega arith)
skip p (x ∷ xs) zero h here = blank_first (p x) (pieces p xs) (with_front x (pieces p xs)) here
skip p (x ∷ xs) (suc i) h here = skip p xs i (omega arith) here

filled : (word : List ℕ) (ps : List (List ℕ)) → 0 < length word → filter is_filled (word ∷ ps) ≡ word ∷ filter is_filled ps
filled [] ps h = absurd (omega arith)
filled (b ∷ bs) ps h = cond_true (is_filled (b ∷ bs)) _ _ (grind arith)

-- the first word goes up to the first separator
pub word_at : (p : ℕ → Bool) (xs : List ℕ) (i : ℕ) → 0 < i → i < length xs → p (get_or xs i 0) ≡ true → ((k : ℕ) → k < i → p (get_or xs k 0) ≡ false) → filter is_filled (pieces p xs) ≡ take i xs ∷ filter is_filled (pieces p (drop i xs))
word_at p xs i some h here before =
    ap (filter is_filled) (cut_at p xs i h here before)
    ∙ filled (take i xs) (pieces p (drop (suc i) xs)) (omega (arith, length-take-le i xs (omega arith)))
    ∙ ap (λ ws. take i xs ∷ ws) (sym (skip p xs i h here))

-- or to the end
pub word_whole : (p : ℕ → Bool) (xs : List ℕ) → 0 < length xs → ((k : ℕ) → k < length xs → p (get_or xs k 0) ≡ false) → filter is_filled (pieces p xs) ≡ xs ∷ []
word_whole p xs some none = ap (filter is_filled) (whole p xs none) ∙ filled xs [] some

split_none : (b : Bool) (i : ℕ) (r : Option ℕ) → cond b (Some i) r ≡ None → (b ≡ false) × (r ≡ None)
split_none true i r e = absurd (let k : ⊥ = cc in k)
split_none false i r e = (refl, e)

none_from : (p : ℕ → Bool) (xs : List ℕ) (i : ℕ) → position_from p i xs ≡ None → (k : ℕ) → k < length xs → p (get_or xs k 0) ≡ false
none_from p [] i e k h = absurd (omega arith)
none_from p (x ∷ xs) i e zero h = (split_none (p x) i (position_from p (i + 1) xs) e).0
none_from p (x ∷ xs) i e (suc k) h = none_from p xs (i + 1) (split_none (p x) i (position_from p (i + 1) xs) e).1 k (omega arith)

-- where no place is found, no element passes
pub none_at : (p : ℕ → Bool) (xs : List ℕ) → position p xs ≡ None → (k : ℕ) → k < length xs → p (get_or xs k 0) ≡ false
none_at p xs e = none_from p xs 0 (sym (position_from-zero p xs) ∙ e)

not_false : (b : Bool) → not b ≡ false → b ≡ true
not_false true e = refl
not_false false e = absurd (let k : ⊥ = cc in k)

not_true : (b : Bool) → not b ≡ true → b ≡ false
not_true true e = absurd (let k : ⊥ = cc in k)
not_true false e = refl

-- the first piece, and those behind it
pub piece_at : (p : ℕ → Bool) (xs : List ℕ) (at : ℕ) (piece after : List ℕ) → position p xs ≡ Some at → piece ≡ take at xs → after ≡ drop (at + 1) xs → pieces p xs ≡ piece ∷ pieces p after
piece_at p xs at piece after e f g =
    let s = position-Some p xs at 0 e in
    let h : after ≡ drop (suc at) xs = g ∙ ap (λ n. drop n xs) (add-one at) in
    cut_at p xs at s.0 s.1 s.2 ∙ (λ i. sym f i ∷ pieces p (sym h i))

-- no word where each byte separates
pub blank_text : (p : ℕ → Bool) (xs : List ℕ) → position (λ b. not (p b)) xs ≡ None → filter is_filled (pieces p xs) ≡ []
blank_text p xs e = all_blank p xs (λ k h. not_false (p (get_or xs k 0)) (none_at (λ b. not (p b)) xs e k h))

-- the words of a text are those from the first byte on that doesn't separate
pub blank_upto : (p : ℕ → Bool) (xs : List ℕ) (at : ℕ) (rest : List ℕ) → position (λ b. not (p b)) xs ≡ Some at → rest ≡ drop at xs → filter is_filled (pieces p xs) ≡ filter is_filled (pieces p rest)
blank_upto p xs at rest e f =
    let s = position-Some (λ b. not (p b)) xs at 0 e in
    blank_front p xs at (omega (arith, s.0)) (λ k h. not_false (p (get_or xs k 0)) (s.2 k h)) ∙ ap (λ t. filter is_filled (pieces p t)) (sym f)

-- that byte stands first there
pub begins_at : (p : ℕ → Bool) (xs : List ℕ) (at : ℕ) (rest : List ℕ) → position (λ b. not (p b)) xs ≡ Some at → rest ≡ drop at xs → (0 < length rest) × (p (get_or rest 0 0) ≡ false)
begins_at p xs at rest e f =
    let s = position-Some (λ b. not (p b)) xs at 0 e in
    let front : get_or rest 0 0 ≡ get_or xs at 0 = ap (λ t. get_or t 0 0) (f ∙ drop-cons xs at 0 s.0) in
    let many : length rest ≡ length xs - at = ap length f ∙ length-drop at xs in
    (omega (arith, s.0), ap p front ∙ not_true (p (get_or xs at 0)) s.1)

-- the first word goes up to a separator
pub word_before : (p : ℕ → Bool) (xs : List ℕ) (at : ℕ) (word after : List ℕ) → position p xs ≡ Some at → p (get_or xs 0 0) ≡ false → word ≡ take at xs → after ≡ drop at xs → filter is_filled (pieces p xs) ≡ word ∷ filter is_filled (pieces p after)
word_before p xs zero word after e first f g = absurd (let h = (position-Some p xs zero 0 e).1 in let k : ⊥ = cc in k)
word_before p xs (suc at) word after e first f g =
    let s = position-Some p xs (suc at) 0 e in
    word_at p xs (suc at) (omega arith) s.0 s.1 s.2 ∙ (λ i. sym f i ∷ filter is_filled (pieces p (sym g i)))

-- or to the end of the text
pub word_to_end : (p : ℕ → Bool) (xs : List ℕ) (word after : List ℕ) → position p xs ≡ None → 0 < length xs → word ≡ take (length xs) xs → after ≡ drop (length xs) xs → filter is_filled (pieces p xs) ≡ word ∷ filter is_filled (pieces p after)
word_to_end p xs word after e some f g =
    let w : xs ≡ word = sym (f ∙ take-length xs) in
    let a : [] ≡ after = sym (g ∙ drop-length xs) in
    word_whole p xs some (none_at p xs e) ∙ (λ i. w i ∷ filter is_filled (pieces p (a i)))
