-- Literals put in order of their atoms, one by one.
use Rattle.std.proofs.Common.{◌≡◌, ◌≢◌, ◌<◌, ◌≤◌, ◌/◌, ℕ, zero, suc, List, [], ◌∷◌, length, ◌∙◌, ap, subst, refl, arith, inl, inr, ◌⊎◌}
use Rattle.std.specs.Prelude.{slice_index}
use Rattle.std.proofs.lemmas.Bool.{cases_lt}
use Rattle.dai_model.proofs.Below.{Each, Each-weaker}
use Rattle.dai_model.proofs.Order.{Rising}
use Rattle.dai_model.proofs.Within.{Among}

-- the literal's atom comes before the other's, and is another one
abbrev pub IsAtomBefore : ℕ → ℕ → Type 0
IsAtomBefore l m = l / 2 < m / 2

abbrev pub IsApart : ℕ → ℕ → Type 0
IsApart l m = l / 2 ≢ m / 2

abbrev placed_by : {n m : ℕ} → List ℕ → List ℕ → (n < m) ⊎ (m ≤ n) → List ℕ
placed_by {n} {m} ms rest (inl below) = n ∷ m ∷ ms
placed_by {n} {m} ms rest (inr above) = m ∷ rest

abbrev put : ℕ → List ℕ → List ℕ
put n [] = n ∷ []
put n (m ∷ ms) = placed_by ms (put n ms) (cases_lt n m)

abbrev pub in_order : List ℕ → List ℕ
in_order [] = []
in_order (n ∷ ns) = put n (in_order ns)

put_each : (P : ℕ → Type 0) (n : ℕ) (ms : List ℕ) → P n → Each P ms → Each P (put n ms)
put_each P n [] here h = (here, tt)
put_each P n (m ∷ ms) here h = by_place (cases_lt n m) (put_each P n ms here h.1)
  where
    by_place : (o : (n < m) ⊎ (m ≤ n)) → Each P (put n ms) → Each P (placed_by ms (put n ms) o)
    by_place (inl below) rest = (here, h)
    by_place (inr above) rest = (h.0, rest)

put_rising : (n : ℕ) (ms : List ℕ) → Rising IsAtomBefore ms → Each (IsApart n) ms → Rising IsAtomBefore (put n ms)
put_rising n [] h k = (tt, tt)
put_rising n (m ∷ ms) h k = by_place (cases_lt n m) (put_rising n ms h.1 k.1)
  where
    by_place : (o : (n < m) ⊎ (m ≤ n)) → Rising IsAtomBefore (put n ms) → Rising IsAtomBefore (placed_by ms (put n ms) o)
    by_place (inl below) rest =
        let apart : n / 2 ≢ m / 2 = k.0 in
        let before : n / 2 < m / 2 = omega (arith, below, apart) in
        ((before, Each-weaker (IsAtomBefore m) (IsAtomBefore n) ms (λ x l. omega (arith, before, l)) h.0), h)
    by_place (inr above) rest =
        let apart : n / 2 ≢ m / 2 = k.0 in
        let before : m / 2 < n / 2 = omega (arith, above, apart) in
        (put_each (IsAtomBefore m) n ms before h.0, rest)

put_length : (n : ℕ) (ms : List ℕ) → length (put n ms) ≡ suc (length ms)
put_length n [] = refl
put_length n (m ∷ ms) = by_place (cases_lt n m) (put_length n ms)
  where
    by_place : (o : (n < m) ⊎ (m ≤ n)) → length (put n ms) ≡ suc (length ms) → length (placed_by ms (put n ms) o) ≡ suc (suc (length ms))
    by_place (inl below) e = refl
    by_place (inr above) e = ap suc e

put_among : (x n : ℕ) (ms : List ℕ) → (n ≡ x) ⊎ Among x ms → Among x (put n ms)
put_among x n [] (inl e) = inl e
put_among x n [] (inr h) = absurd h
put_among x n (m ∷ ms) h = by_place (cases_lt n m) h (λ k. put_among x n ms k)
  where
    by_place : (o : (n < m) ⊎ (m ≤ n)) → (n ≡ x) ⊎ Among x (m ∷ ms) → ((n ≡ x) ⊎ Among x ms → Among x (put n ms)) → Among x (placed_by ms (put n ms) o)
    by_place (inl below) (inl e) rest = inl e
    by_place (inl below) (inr k) rest = inr k
    by_place (inr above) (inl e) rest = inr (rest (inl e))
    by_place (inr above) (inr (inl e)) rest = inl e
    by_place (inr above) (inr (inr k)) rest = inr (rest (inr k))

-- in order, with the same members
pub in_order_each : (P : ℕ → Type 0) (ns : List ℕ) → Each P ns → Each P (in_order ns)
in_order_each P [] h = tt
in_order_each P (n ∷ ns) h = put_each P n (in_order ns) h.0 (in_order_each P ns h.1)

pub in_order_rising : (ns : List ℕ) → Rising IsApart ns → Rising IsAtomBefore (in_order ns)
in_order_rising [] h = tt
in_order_rising (n ∷ ns) h = put_rising n (in_order ns) (in_order_rising ns h.1) (in_order_each (IsApart n) ns h.0)

pub in_order_length : (ns : List ℕ) → length (in_order ns) ≡ length ns
in_order_length [] = refl
in_order_length (n ∷ ns) = put_length n (in_order ns) ∙ ap suc (in_order_length ns)

pub in_order_among : (x : ℕ) (ns : List ℕ) → Among x ns → Among x (in_order ns)
in_order_among x [] h = absurd h
in_order_among x (n ∷ ns) (inl e) = put_among x n (in_order ns) (inl e)
in_order_among x (n ∷ ns) (inr h) = put_among x n (in_order ns) (inr (in_order_among x ns h))

each_itself : (xs : List ℕ) → Each (λ x. Among x xs) xs
each_itself [] = tt
each_itself (x ∷ xs) = (inl refl, Each-weaker (λ y. Among y xs) (λ y. Among y (x ∷ xs)) xs (λ y h. inr h) (each_itself xs))

pub each_among : (P : ℕ → Type 0) (x : ℕ) (xs : List ℕ) → Each P xs → Among x xs → P x
each_among P x [] h k = absurd k
each_among P x (y ∷ xs) h (inl e) = subst P e h.0
each_among P x (y ∷ xs) h (inr k) = each_among P x xs h.1 k

pub from_order : (x : ℕ) (ns : List ℕ) → Among x (in_order ns) → Among x ns
from_order x ns h = each_among (λ y. Among y ns) x (in_order ns) (in_order_each (λ y. Among y ns) ns (each_itself ns)) h

-- between places and recursion
pub each_from : (P : ℕ → Type 0) (xs : List ℕ) → ((i : ℕ) → i < length xs → P (slice_index xs i)) → Each P xs
each_from P [] h = tt
each_from P (x ∷ xs) h = (h 0 (omega arith), each_from P xs (λ i k. h (suc i) (omega (arith, k))))

pub rising_from : (R : ℕ → ℕ → Type 0) (xs : List ℕ) → ((i j : ℕ) → i < j → j < length xs → R (slice_index xs i) (slice_index xs j)) → Rising R xs
rising_from R [] h = tt
rising_from R (x ∷ xs) h = (each_from (R x) xs (λ i k. h 0 (suc i) (omega arith) (omega (arith, k))), rising_from R xs (λ i j k l. h (suc i) (suc j) (omega (arith, k)) (omega (arith, l))))

pub among_place : (x : ℕ) (xs : List ℕ) → Among x xs → (i : ℕ) × (i < length xs) × (slice_index xs i ≡ x)
among_place x [] h = absurd h
among_place x (y ∷ xs) (inl e) = (0, omega arith, e)
among_place x (y ∷ xs) (inr h) = let w = among_place x xs h in let k = w.1 in (suc w.0, omega (arith, k), w.2)

pub place_among : (xs : List ℕ) (i : ℕ) → i < length xs → Among (slice_index xs i) xs
place_among [] i h = absurd (omega (arith, h))
place_among (x ∷ xs) zero h = inl refl
place_among (x ∷ xs) (suc i) h = inr (place_among xs i (omega (arith, h)))
