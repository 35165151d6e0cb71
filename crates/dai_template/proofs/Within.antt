-- Membership, by recursion on the list, where std's word goes by places.
use Rattle.std.proofs.Common.{◌≡◌, ◌≤◌, ◌<◌, ℕ, zero, suc, List, [], ◌∷◌, ◌++◌, length, get_or, map, sym, ap, subst, arith, inl, inr, ◌⊎◌}
use Rattle.std.specs.List.{Contains, flat_map}
use Rattle.std.proofs.lemmas.Bool.{cases_lt}
use Rattle.dai_model.specs.Clause.{numbers_below}

abbrev pub Among : {X : Type 0} → X → List X → Type 0
Among x [] = ⊥
Among x (y ∷ ys) = (y ≡ x) ⊎ Among x ys

pub among_left : {X : Type 0} (x : X) (xs ys : List X) → Among x xs → Among x (xs ++ ys)
among_left x [] ys h = absurd h
among_left x (y ∷ xs) ys (inl e) = inl e
among_left x (y ∷ xs) ys (inr h) = inr (among_left x xs ys h)

pub among_right : {X : Type 0} (x : X) (xs ys : List X) → Among x ys → Among x (xs ++ ys)
among_right x [] ys h = h
among_right x (y ∷ xs) ys h = inr (among_right x xs ys h)

pub among_map : {X Y : Type 0} (f : X → Y) (x : X) (xs : List X) → Among x xs → Among (f x) (map f xs)
among_map f x [] h = absurd h
among_map f x (y ∷ xs) (inl e) = inl (ap f e)
among_map f x (y ∷ xs) (inr h) = inr (among_map f x xs h)

pub among_flat_map : {X Y : Type 0} (f : X → List Y) (x : X) (y : Y) (xs : List X) → Among x xs → Among y (f x) → Among y (flat_map f xs)
among_flat_map f x y [] h k = absurd h
among_flat_map f x y (z ∷ xs) (inl e) k = among_left y (f z) (flat_map f xs) (subst (λ w. Among y (f w)) (sym e) k)
among_flat_map f x y (z ∷ xs) (inr h) k = among_right y (f z) (flat_map f xs) (among_flat_map f x y xs h k)

last_or_before : (n k : ℕ) → k < suc n → (k < n → Among k (numbers_below n)) → (k < n) ⊎ (n ≤ k) → Among k (numbers_below n ++ n ∷ [])
last_or_before n k h rec (inl below) = among_left k (numbers_below n) (n ∷ []) (rec below)
last_or_before n k h rec (inr above) = among_right k (numbers_below n) (n ∷ []) (inl (let e : n ≡ k = omega arith in e))

pub among_numbers : (n k : ℕ) → k < n → Among k (numbers_below n)
among_numbers zero k h = absurd (omega arith)
among_numbers (suc n) k h = last_or_before n k h (λ below. among_numbers n k below) (cases_lt k n)

pub contained : {X : Type 0} (x : X) (xs : List X) → Among x xs → Contains xs x
contained x [] h = absurd h
contained x (y ∷ xs) (inl e) = (0, omega arith, e)
contained x (y ∷ xs) (inr h) = let found = contained x xs h in (suc found.0, (let k = found.1 in omega (arith, k)), found.2)

pub among_at : {X : Type 0} (x : X) (xs : List X) (k : ℕ) → k < length xs → get_or xs k x ≡ x → Among x xs
among_at x [] k h e = absurd (omega arith)
among_at x (y ∷ xs) zero h e = inl e
among_at x (y ∷ xs) (suc k) h e = inr (among_at x xs k (omega arith) e)
