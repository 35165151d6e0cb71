-- The shapes within bounds are exactly those whose counts are.
use Rattle.std.proofs.Common.{◌≡◌, ◌≤◌, ◌<◌, ◌+◌, ℕ, zero, suc, Bool, true, false, cond, List, [], ◌∷◌, ◌++◌, length, map, sym, ◌∙◌, ap, subst, refl, arith, inl, inr, ◌⊎◌}
use Rattle.std.specs.Prelude.{filter, sum, nat_eq, slice_index}
use Rattle.std.specs.List.{Contains, flat_map}
use Rattle.std.proofs.lemmas.Bool.{cases_lt, eq-eqb}
use Rattle.std.proofs.lemmas.List.Sums.{sum_by-cons}
use Rattle.dai_model.specs.Clause.{numbers_below}
use Rattle.dai_model.specs.Shapes.{counts_within, with_sum, shapes_within}

-- by recursion on the list, where std's word goes by places
abbrev pub Among : {X : Type 0} → X → List X → Type 0
Among x [] = ⊥
Among x (y ∷ ys) = (y ≡ x) ⊎ Among x ys

pub among_left : {X : Type 0} (x : X) (xs ys : List X) → Among x xs → Among x (xs ++ ys)
among_left x [] ys h = absurd h
among_left x (y ∷ xs) ys (inl e) = inl e
among_left x (y ∷ xs) ys (inr h) = inr (among_left x xs ys h)

pub among_right : {X : Type 0} (x : X) (xs ys : List X) → Among x ys → Among x (xs ++ ys)
among_right x [] ys h = h
among_right x (y ∷ xs) ys h = inr (among_right x xs ys h)

pub among_map : {X Y : Type 0} (f : X → Y) (x : X) (xs : List X) → Among x xs → Among (f x) (map f xs)
among_map f x [] h = absurd h
among_map f x (y ∷ xs) (inl e) = inl (ap f e)
among_map f x (y ∷ xs) (inr h) = inr (among_map f x xs h)

pub among_flat_map : {X Y : Type 0} (f : X → List Y) (x : X) (y : Y) (xs : List X) → Among x xs → Among y (f x) → Among y (flat_map f xs)
among_flat_map f x y [] h k = absurd h
among_flat_map f x y (z ∷ xs) (inl e) k = among_left y (f z) (flat_map f xs) (subst (λ w. Among y (f w)) (sym e) k)
among_flat_map f x y (z ∷ xs) (inr h) k = among_right y (f z) (flat_map f xs) (among_flat_map f x y xs h k)

kept_first : {X : Type 0} (b : Bool) (x : X) (rest : List X) → b ≡ true → Among x (cond b (x ∷ rest) rest)
kept_first true x rest h = inl refl
kept_first false x rest h = absurd (let k : ⊥ = cc in k)

kept_later : {X : Type 0} (b : Bool) (x y : X) (rest : List X) → Among x rest → Among x (cond b (y ∷ rest) rest)
kept_later true x y rest h = inr h
kept_later false x y rest h = h

among_filter : {X : Type 0} (p : X → Bool) (x : X) (xs : List X) → p x ≡ true → Among x xs → Among x (filter p xs)
among_filter p x [] passes h = absurd h
among_filter p x (y ∷ xs) passes (inl e) = subst (λ z. Among z (cond (p y) (y ∷ filter p xs) (filter p xs))) e (kept_first (p y) y (filter p xs) (ap p e ∙ passes))
among_filter p x (y ∷ xs) passes (inr h) = kept_later (p y) x y (filter p xs) (among_filter p x xs passes h)

last_or_before : (n k : ℕ) → k < suc n → (k < n → Among k (numbers_below n)) → (k < n) ⊎ (n ≤ k) → Among k (numbers_below n ++ n ∷ [])
last_or_before n k h rec (inl below) = among_left k (numbers_below n) (n ∷ []) (rec below)
last_or_before n k h rec (inr above) = among_right k (numbers_below n) (n ∷ []) (inl (let e : n ≡ k = omega arith in e))

pub among_numbers : (n k : ℕ) → k < n → Among k (numbers_below n)
among_numbers zero k h = absurd (omega arith)
among_numbers (suc n) k h = last_or_before n k h (λ below. among_numbers n k below) (cases_lt k n)

listed : (bounds counts : List ℕ) → length counts ≡ length bounds → ((sort : ℕ) → slice_index counts sort ≤ slice_index bounds sort) → Among counts (counts_within bounds)
listed [] [] long few = inl refl
listed [] (n ∷ ns) long few = absurd (omega arith)
listed (b ∷ bs) [] long few = absurd (omega arith)
listed (b ∷ bs) (n ∷ ns) long few =
    let here : n ≤ b = few 0 in
    among_flat_map (λ m. map (λ (t : List ℕ). m ∷ t) (counts_within bs)) n (n ∷ ns) (numbers_below (b + 1))
    (among_numbers (b + 1) n (omega arith))
    (among_map (λ (t : List ℕ). n ∷ t) ns (counts_within bs) (listed bs ns (omega arith) (λ sort. few (suc sort))))

small_sum : (bounds counts : List ℕ) → length counts ≡ length bounds → ((sort : ℕ) → slice_index counts sort ≤ slice_index bounds sort) → sum counts ≤ sum bounds
small_sum [] [] long few = omega arith
small_sum [] (n ∷ ns) long few = absurd (omega arith)
small_sum (b ∷ bs) [] long few = absurd (omega arith)
small_sum (b ∷ bs) (n ∷ ns) long few =
    let here : n ≤ b = few 0 in
    let rest = small_sum bs ns (omega arith) (λ sort. few (suc sort)) in
    let left = sum_by-cons (λ (k : ℕ). k) n ns in
    let right = sum_by-cons (λ (k : ℕ). k) b bs in
    omega (arith, here, rest, left, right)

contained : {X : Type 0} (x : X) (xs : List X) → Among x xs → Contains xs x
contained x [] h = absurd h
contained x (y ∷ xs) (inl e) = (0, omega arith, e)
contained x (y ∷ xs) (inr h) = let found = contained x xs h in (suc found.0, (let k = found.1 in omega (arith, k)), found.2)

pub shapes_listed : (bounds counts : List ℕ) → length counts ≡ length bounds → ((sort : ℕ) → slice_index counts sort ≤ slice_index bounds sort) → Contains (shapes_within bounds) counts
shapes_listed bounds counts long few =
    let small = small_sum bounds counts long few in
    contained counts (shapes_within bounds)
    (among_flat_map (with_sum (counts_within bounds)) (sum counts) counts (numbers_below (sum bounds + 1))
    (among_numbers (sum bounds + 1) (sum counts) (omega (arith, small)))
    (among_filter (λ (c : List ℕ). nat_eq (sum c) (sum counts)) counts (counts_within bounds) (eq-eqb (sum counts) (sum counts) refl) (listed bounds counts long few)))
