-- Numbers in order: put in one by one, and told by their members.
use Rattle.std.proofs.Common.{◌≡◌, ◌≢◌, ◌<◌, ◌≤◌, ◌+◌, ◌/◌, ℕ, zero, suc, Bool, true, false, List, [], ◌∷◌, get_or, length, sym, ap, subst, refl, arith, inl, inr, ◌⊎◌}
use Rattle.std.specs.Prelude.{nat_lt, if◌then◌else◌}
use Rattle.std.proofs.lemmas.Bool.{cases_lt}
use Rattle.dai_model.proofs.Below.{Each}
use Rattle.dai_model.proofs.Order.{Rising}
use Rattle.dai_logic.proofs.Tuples.{lt_from_test, test_from_lt}
use Rattle.dai_template.specs.Renamings.{put_in_order, put_all_in_order}
use Rattle.dai_template.proofs.Within.{Among}

-- the literal's atom comes before the other's
abbrev pub IsAtomBefore : ℕ → ℕ → Type 0
IsAtomBefore l m = l / 2 < m / 2

abbrev pub AreApart : ℕ → ℕ → Type 0
AreApart l m = l / 2 ≢ m / 2

each_to : {X : Type 0} (P Q : X → Type 0) (xs : List X) → ((x : X) → P x → Q x) → Each P xs → Each Q xs
each_to P Q [] f h = tt
each_to P Q (x ∷ xs) f h = (f x h.0, each_to P Q xs f h.1)

pub put_each : (P : ℕ → Type 0) (n : ℕ) (ms : List ℕ) → P n → Each P ms → Each P (put_in_order n ms)
put_each P n [] here h = (here, tt)
put_each P n (m ∷ ms) here h = chosen (nat_lt n m) (put_each P n ms here h.1)
  where
    chosen : (b : Bool) → Each P (put_in_order n ms) → Each P (if b then n ∷ m ∷ ms else m ∷ put_in_order n ms)
    chosen true rest = (here, h)
    chosen false rest = (h.0, rest)

put_rising : (n : ℕ) (ms : List ℕ) → Rising IsAtomBefore ms → Each (AreApart n) ms → Rising IsAtomBefore (put_in_order n ms)
put_rising n [] h k = (tt, tt)
put_rising n (m ∷ ms) h k = chosen (nat_lt n m) refl (put_rising n ms h.1 k.1)
  where
    chosen : (b : Bool) → nat_lt n m ≡ b → Rising IsAtomBefore (put_in_order n ms) → Rising IsAtomBefore (if b then n ∷ m ∷ ms else m ∷ put_in_order n ms)
    chosen true e rest =
        let below = lt_from_test n m e in
        let apart : n / 2 ≢ m / 2 = k.0 in
        let before : n / 2 < m / 2 = omega (arith, below, apart) in
        ((before, each_to (IsAtomBefore m) (IsAtomBefore n) ms (λ x l. omega (arith, before, l)) h.0), h)
    chosen false e rest =
        let past : m ≤ n = not_below (cases_lt n m) in
        let apart : n / 2 ≢ m / 2 = k.0 in
        let before : m / 2 < n / 2 = omega (arith, past, apart) in
        (put_each (IsAtomBefore m) n ms before h.0, rest)
      where
        not_below : (n < m) ⊎ (m ≤ n) → m ≤ n
        not_below (inl below) = let t = test_from_lt n m below in absurd (let bottom : ⊥ = cc in bottom)
        not_below (inr above) = above

pub put_length : (n : ℕ) (ms : List ℕ) → length (put_in_order n ms) ≡ suc (length ms)
put_length n [] = refl
put_length n (m ∷ ms) = chosen (nat_lt n m) (put_length n ms)
  where
    chosen : (b : Bool) → length (put_in_order n ms) ≡ suc (length ms) → length (if b then n ∷ m ∷ ms else m ∷ put_in_order n ms) ≡ suc (suc (length ms))
    chosen true e = refl
    chosen false e = ap suc e

put_among : (x n : ℕ) (ms : List ℕ) → (n ≡ x) ⊎ Among x ms → Among x (put_in_order n ms)
put_among x n [] (inl e) = inl e
put_among x n [] (inr h) = absurd h
put_among x n (m ∷ ms) h = chosen (nat_lt n m) h (λ k. put_among x n ms k)
  where
    chosen : (b : Bool) → (n ≡ x) ⊎ Among x (m ∷ ms) → ((n ≡ x) ⊎ Among x ms → Among x (put_in_order n ms)) → Among x (if b then n ∷ m ∷ ms else m ∷ put_in_order n ms)
    chosen true (inl e) rest = inl e
    chosen true (inr k) rest = inr k
    chosen false (inl e) rest = inr (rest (inl e))
    chosen false (inr (inl e)) rest = inl e
    chosen false (inr (inr k)) rest = inr (rest (inr k))

pub put_all_each : (P : ℕ → Type 0) (ns ms : List ℕ) → Each P ns → Each P ms → Each P (put_all_in_order ns ms)
put_all_each P [] ms h k = k
put_all_each P (n ∷ ns) ms h k = put_all_each P ns (put_in_order n ms) h.1 (put_each P n ms h.0 k)

pub put_all_length : (ns ms : List ℕ) → length (put_all_in_order ns ms) ≡ length ns + length ms
put_all_length [] ms = let e : length ms ≡ 0 + length ms = omega arith in e
put_all_length (n ∷ ns) ms = let e = put_all_length ns (put_in_order n ms) in let k = put_length n ms in omega (arith, e, k)

pub put_all_among : (x : ℕ) (ns ms : List ℕ) → Among x ns ⊎ Among x ms → Among x (put_all_in_order ns ms)
put_all_among x [] ms (inl h) = absurd h
put_all_among x [] ms (inr h) = h
put_all_among x (n ∷ ns) ms (inl (inl e)) = put_all_among x ns (put_in_order n ms) (inr (put_among x n ms (inl e)))
put_all_among x (n ∷ ns) ms (inl (inr h)) = put_all_among x ns (put_in_order n ms) (inl h)
put_all_among x (n ∷ ns) ms (inr h) = put_all_among x ns (put_in_order n ms) (inr (put_among x n ms (inr h)))

apart_of : (n : ℕ) (ns ms : List ℕ) → Each (AreApart n) ns → Each (λ k. Each (AreApart k) ms) ns → Each (λ k. Each (AreApart k) (put_in_order n ms)) ns
apart_of n [] ms h k = tt
apart_of n (m ∷ ns) ms h k = (put_each (AreApart m) n ms (λ e. h.0 (sym e)) k.0, apart_of n ns ms h.1 k.1)

pub put_all_rising : (ns ms : List ℕ) → Rising IsAtomBefore ms → Rising AreApart ns → Each (λ n. Each (AreApart n) ms) ns → Rising IsAtomBefore (put_all_in_order ns ms)
put_all_rising [] ms h k cross = h
put_all_rising (n ∷ ns) ms h k cross = put_all_rising ns (put_in_order n ms) (put_rising n ms h cross.0) k.1 (apart_of n ns ms k.0 cross.1)

-- what is not the first is among the rest
rest_among : (y : ℕ) (ys xs : List ℕ) (x : ℕ) → IsAtomBefore y x ⊎ (y ≡ x) → Each (IsAtomBefore x) xs → Each (λ z. Among z (y ∷ ys)) xs → Each (λ z. Among z ys) xs
rest_among y ys [] x near h k = tt
rest_among y ys (z ∷ xs) x near h k = (other near h.0 k.0, rest_among y ys xs x near h.1 k.1)
  where
    other : IsAtomBefore y x ⊎ (y ≡ x) → IsAtomBefore x z → Among z (y ∷ ys) → Among z ys
    other near before (inr there) = there
    other (inl first) before (inl e) = absurd (omega (arith, first, before, e))
    other (inr same) before (inl e) = absurd (omega (arith, same, before, e))

before_among : (y : ℕ) (ys : List ℕ) (x : ℕ) → Each (IsAtomBefore y) ys → Among x ys → IsAtomBefore y x
before_among y [] x h k = absurd k
before_among y (z ∷ ys) x h (inl e) = subst (IsAtomBefore y) e h.0
before_among y (z ∷ ys) x h (inr k) = before_among y ys x h.1 k

-- no more members than where they all are
at_most : (ys xs : List ℕ) → Rising IsAtomBefore xs → Rising IsAtomBefore ys → Each (λ x. Among x ys) xs → length xs ≤ length ys
at_most [] [] h k all = omega arith
at_most [] (x ∷ xs) h k all = absurd all.0
at_most (y ∷ ys) [] h k all = omega arith
at_most (y ∷ ys) (x ∷ xs) h k all = by_place all.0 (λ others. at_most ys xs h.1 k.1 others) (λ others. at_most ys (x ∷ xs) h k.1 others)
  where
    by_place : Among x (y ∷ ys) → (Each (λ z. Among z ys) xs → length xs ≤ length ys) → (Each (λ z. Among z ys) (x ∷ xs) → suc (length xs) ≤ length ys) → suc (length xs) ≤ suc (length ys)
    by_place (inl e) first other = let rest = first (rest_among y ys xs x (inr e) h.0 all.1) in omega (arith, rest)
    by_place (inr there) first other = let rest = other (there, rest_among y ys xs x (inl (before_among y ys x k.0 there)) h.0 all.1) in omega (arith, rest)

-- lists in order of one length, all members of the first in the second, are one
pub same_members : (xs ys : List ℕ) → Rising IsAtomBefore xs → Rising IsAtomBefore ys → length xs ≡ length ys → Each (λ x. Among x ys) xs → xs ≡ ys
same_members [] [] h k long all = refl
same_members [] (y ∷ ys) h k long all = absurd (omega arith)
same_members (x ∷ xs) [] h k long all = absurd (omega arith)
same_members (x ∷ xs) (y ∷ ys) h k long all = by_place all.0 (λ others. same_members xs ys h.1 k.1 (omega (arith, long)) others)
  where
    by_place : Among x (y ∷ ys) → (Each (λ z. Among z ys) xs → xs ≡ ys) → x ∷ xs ≡ y ∷ ys
    by_place (inl e) later =
        let rest = later (rest_among y ys xs x (inr e) h.0 all.1) in
        let first : x ≡ y = sym e in
        cc
    by_place (inr there) later =
        let many = at_most ys (x ∷ xs) h k.1 (there, rest_among y ys xs x (inl (before_among y ys x k.0 there)) h.0 all.1) in
        absurd (omega (arith, many, long))

pub each_from : (P : ℕ → Type 0) (xs : List ℕ) → ((i : ℕ) → i < length xs → P (get_or xs i 0)) → Each P xs
each_from P [] h = tt
each_from P (x ∷ xs) h = (h 0 (omega arith), each_from P xs (λ i k. h (suc i) (omega (arith, k))))

pub rising_from : (R : ℕ → ℕ → Type 0) (xs : List ℕ) → ((i j : ℕ) → i < j → j < length xs → R (get_or xs i 0) (get_or xs j 0)) → Rising R xs
rising_from R [] h = tt
rising_from R (x ∷ xs) h = (each_from (R x) xs (λ i k. h 0 (suc i) (omega arith) (omega (arith, k))), rising_from R xs (λ i j k l. h (suc i) (suc j) (omega (arith, k)) (omega (arith, l))))

each_at : (P : ℕ → Type 0) (xs : List ℕ) (i : ℕ) → i < length xs → Each P xs → P (get_or xs i 0)
each_at P [] i h e = absurd (omega arith)
each_at P (x ∷ xs) zero h e = e.0
each_at P (x ∷ xs) (suc i) h e = each_at P xs i (omega arith) e.1

pub rising_at : (R : ℕ → ℕ → Type 0) (xs : List ℕ) (i j : ℕ) → i < j → j < length xs → Rising R xs → R (get_or xs i 0) (get_or xs j 0)
rising_at R [] i j h k r = absurd (omega arith)
rising_at R (x ∷ xs) i zero h k r = absurd (omega arith)
rising_at R (x ∷ xs) zero (suc j) h k r = each_at (R x) xs j (omega arith) r.0
rising_at R (x ∷ xs) (suc i) (suc j) h k r = rising_at R xs i j (omega arith) (omega arith) r.1
