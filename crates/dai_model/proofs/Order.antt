-- The shapes within bounds stand in print order, each once.
use Rattle.std.proofs.Common.{◌≡◌, ◌≤◌, ◌<◌, ◌+◌, ℕ, zero, suc, Bool, true, false, cond, List, [], ◌∷◌, ◌++◌, get_or, length, map, sym, ◌∙◌, ap, subst, refl, arith, inl, inr, ◌⊎◌}
use Rattle.std.specs.Prelude.{filter, sum, nat_eq}
use Rattle.std.specs.List.{flat_map}
use Rattle.std.specs.Ordering.{nat_cmp, ordering_then, ordering_reverse, MatchOrdering}
use Rattle.std.specs.Cmp.Lexicographic.{slice_cmp}
use Rattle.std.specs.declared.cmp.Ordering.{Ordering}
use Rattle.std.specs.declared.cmp.Ordering.TheVariants.{Less, Equal, Greater}
use Rattle.std.proofs.lemmas.Cmp.{ranked, tied_itself, nat_cmp_total, nat_list_cmp_total}
use Rattle.std.proofs.lemmas.Bool.{cases_lt, eqb-true}
use Rattle.std.proofs.lemmas.List.{append-nil}
use Rattle.std.proofs.lemmas.List.Concat.{flat_map-append}
use Rattle.dai_model.specs.Clause.{numbers_below}
use Rattle.dai_model.specs.Shapes.{tuples_below, counts_within, with_sum, shapes_within, compare_shapes}
use Rattle.dai_model.proofs.Below.{Each}

-- each is before all that follow
abbrev pub Rising : {X : Type 0} → (X → X → Type 0) → List X → Type 0
Rising R [] = Unit {0}
Rising R (x ∷ xs) = Each (R x) xs × Rising R xs

Each-append : {X : Type 0} (P : X → Type 0) (xs ys : List X) → Each P xs → Each P ys → Each P (xs ++ ys)
Each-append P [] ys h k = k
Each-append P (x ∷ xs) ys h k = (h.0, Each-append P xs ys h.1 k)

Each-map : {X Y : Type 0} (P : X → Type 0) (Q : Y → Type 0) (f : X → Y) (xs : List X) → ((x : X) → P x → Q (f x)) → Each P xs → Each Q (map f xs)
Each-map P Q f [] step h = tt
Each-map P Q f (x ∷ xs) step h = (step x h.0, Each-map P Q f xs step h.1)

Each-flat_map : {X Y : Type 0} (P : X → Type 0) (Q : Y → Type 0) (f : X → List Y) (xs : List X) → ((x : X) → P x → Each Q (f x)) → Each P xs → Each Q (flat_map f xs)
Each-flat_map P Q f [] step h = tt
Each-flat_map P Q f (x ∷ xs) step h = Each-append Q (f x) _ (step x h.0) (Each-flat_map P Q f xs step h.1)

Each-any : {X : Type 0} (P : X → Type 0) (xs : List X) → ((x : X) → P x) → Each P xs
Each-any P [] h = tt
Each-any P (x ∷ xs) h = (h x, Each-any P xs h)

Each-both : {X : Type 0} (P Q R : X → Type 0) (xs : List X) → ((x : X) → P x → Q x → R x) → Each P xs → Each Q xs → Each R xs
Each-both P Q R [] step h k = tt
Each-both P Q R (x ∷ xs) step h k = (step x h.0 k.0, Each-both P Q R xs step h.1 k.1)

Each-filter : {X : Type 0} (P : X → Type 0) (p : X → Bool) (xs : List X) → Each P xs → Each P (filter p xs)
Each-filter P p [] h = tt
Each-filter P p (x ∷ xs) h = kept (p x) h.0 (Each-filter P p xs h.1)
  where
    kept : (b : Bool) → P x → Each P (filter p xs) → Each P (cond b (x ∷ filter p xs) (filter p xs))
    kept true here rest = (here, rest)
    kept false here rest = rest

filter_passes : {X : Type 0} (p : X → Bool) (xs : List X) → Each (λ x. p x ≡ true) (filter p xs)
filter_passes p [] = tt
filter_passes p (x ∷ xs) = passed (p x) refl (filter_passes p xs)
  where
    passed : (b : Bool) → p x ≡ b → Each (λ y. p y ≡ true) (filter p xs) → Each (λ y. p y ≡ true) (cond b (x ∷ filter p xs) (filter p xs))
    passed true here rest = (here, rest)
    passed false here rest = rest

pub Rising-append : {X : Type 0} (R : X → X → Type 0) (xs ys : List X) → Rising R xs → Rising R ys → Each (λ x. Each (R x) ys) xs → Rising R (xs ++ ys)
Rising-append R [] ys h k cross = k
Rising-append R (x ∷ xs) ys h k cross = (Each-append (R x) xs ys h.0 cross.0, Rising-append R xs ys h.1 k cross.1)

pub Rising-map : {X Y : Type 0} (R : X → X → Type 0) (S : Y → Y → Type 0) (f : X → Y) (xs : List X) → ((x y : X) → R x y → S (f x) (f y)) → Rising R xs → Rising S (map f xs)
Rising-map R S f [] step h = tt
Rising-map R S f (x ∷ xs) step h = (Each-map (R x) (S (f x)) f xs (step x) h.0, Rising-map R S f xs step h.1)

Rising-filter : {X : Type 0} (R : X → X → Type 0) (p : X → Bool) (xs : List X) → Rising R xs → Rising R (filter p xs)
Rising-filter R p [] h = tt
Rising-filter R p (x ∷ xs) h = kept (p x) (Each-filter (R x) p xs h.0) (Rising-filter R p xs h.1)
  where
    kept : (b : Bool) → Each (R x) (filter p xs) → Rising R (filter p xs) → Rising R (cond b (x ∷ filter p xs) (filter p xs))
    kept true here rest = (here, rest)
    kept false here rest = rest

Rising-with : {X : Type 0} (P : X → Type 0) (R S : X → X → Type 0) (xs : List X) → ((x y : X) → P x → P y → R x y → S x y) → Each P xs → Rising R xs → Rising S xs
Rising-with P R S [] step h k = tt
Rising-with P R S (x ∷ xs) step h k = (Each-both P (R x) (S x) xs (λ y hy r. step x y h.0 hy r) h.1 k.0, Rising-with P R S xs step h.1 k.1)

Each-place : {X : Type 0} (P : X → Type 0) (xs : List X) (k : ℕ) (d : X) → k < length xs → Each P xs → P (get_or xs k d)
Each-place P [] k d below h = absurd (omega arith)
Each-place P (x ∷ xs) zero d below h = h.0
Each-place P (x ∷ xs) (suc k) d below h = Each-place P xs k d (omega arith) h.1

pub Rising-at : {X : Type 0} (R : X → X → Type 0) (xs : List X) (i j : ℕ) (d : X) → i < j → j < length xs → Rising R xs → R (get_or xs i d) (get_or xs j d)
Rising-at R [] i j d before below h = absurd (omega arith)
Rising-at R (x ∷ xs) zero zero d before below h = absurd (omega arith)
Rising-at R (x ∷ xs) zero (suc j) d before below h = Each-place (R x) xs j d (omega arith) h.0
Rising-at R (x ∷ xs) (suc i) zero d before below h = absurd (omega arith)
Rising-at R (x ∷ xs) (suc i) (suc j) d before below h = Rising-at R xs i j d (omega arith) (omega arith) h.1

less_by : (m n : ℕ) (r : Ordering) → MatchOrdering r (m < n) (m ≡ n) (n < m) → m < n → r ≡ Less
less_by m n Less h k = refl
less_by m n Equal h k = absurd (let e : m ≡ n = h in omega arith)
less_by m n Greater h k = absurd (let e : n < m = h in omega arith)

pub less_from : (m n : ℕ) → m < n → nat_cmp m n ≡ Less
less_from m n h = less_by m n (nat_cmp m n) (ranked m n (nat_cmp m n) refl) h

pub numbers_under : (n m : ℕ) → n ≤ m → Each (λ k. k < m) (numbers_below n)
numbers_under zero m h = tt
numbers_under (suc n) m h = Each-append (λ k. k < m) (numbers_below n) (n ∷ []) (numbers_under n m (omega arith)) (omega arith, tt)

abbrev pub IsBefore : List ℕ → List ℕ → Type 0
IsBefore c d = slice_cmp nat_cmp c d ≡ Less

abbrev pub IsShapeBefore : List ℕ → List ℕ → Type 0
IsShapeBefore c d = compare_shapes c d ≡ Less

abbrev headed : List (List ℕ) → ℕ → List (List ℕ)
headed ts n = map (λ (t : List ℕ). n ∷ t) ts

head_before : (m n : ℕ) (t u : List ℕ) → m < n → IsBefore (m ∷ t) (n ∷ u)
head_before m n t u h = ap (λ o. ordering_then o (slice_cmp nat_cmp t u)) (less_from m n h)

tail_before : (n : ℕ) (t u : List ℕ) → IsBefore t u → IsBefore (n ∷ t) (n ∷ u)
tail_before n t u h = ap (λ o. ordering_then o (slice_cmp nat_cmp t u)) (tied_itself nat_cmp_total n) ∙ h

headed_rising : (n : ℕ) (ts : List (List ℕ)) → Rising IsBefore ts → Rising IsBefore (flat_map (headed ts) (numbers_below n))
headed_rising zero ts h = tt
headed_rising (suc n) ts h =
    let here : Rising IsBefore (headed ts n) = Rising-map IsBefore IsBefore (λ (t : List ℕ). n ∷ t) ts (tail_before n) h in
    let cross : Each (λ x. Each (IsBefore x) (headed ts n)) (flat_map (headed ts) (numbers_below n)) =
    Each-flat_map (λ m. m < n) (λ x. Each (IsBefore x) (headed ts n)) (headed ts) (numbers_below n)
    (λ m below. Each-map (λ _. Unit {0}) (λ x. Each (IsBefore x) (headed ts n)) (λ (t : List ℕ). m ∷ t) ts
    (λ t _. Each-map (λ _. Unit {0}) (IsBefore (m ∷ t)) (λ (u : List ℕ). n ∷ u) ts (λ u _. head_before m n t u below) (Each-any _ ts (λ _. tt)))
    (Each-any _ ts (λ _. tt)))
    (numbers_under n n (omega arith)) in
    let all = Rising-append IsBefore (flat_map (headed ts) (numbers_below n)) (headed ts n) (headed_rising n ts h) here cross in
    let split : flat_map (headed ts) (numbers_below n) ++ headed ts n ≡ flat_map (headed ts) (numbers_below n ++ n ∷ []) =
    ap (λ ys. flat_map (headed ts) (numbers_below n) ++ ys) (sym (append-nil (headed ts n))) ∙ sym (flat_map-append (headed ts) (numbers_below n) (n ∷ [])) in
    subst (Rising IsBefore) split all

tuples_rising : (limits : List ℕ) → Rising IsBefore (tuples_below limits)
tuples_rising [] = (tt, tt)
tuples_rising (limit ∷ limits) = headed_rising limit (tuples_below limits) (tuples_rising limits)

sums : (ls : List (List ℕ)) (n : ℕ) → Each (λ c. sum c ≡ n) (with_sum ls n)
sums ls n = Each-both (λ c. nat_eq (sum c) n ≡ true) (λ _. Unit {0}) (λ c. sum c ≡ n) (with_sum ls n) (λ c h _. eqb-true (sum c) n h) (filter_passes (λ (c : List ℕ). nat_eq (sum c) n) ls) (Each-any _ (with_sum ls n) (λ _. tt))

same_sum_before : (n : ℕ) (c d : List ℕ) → sum c ≡ n → sum d ≡ n → IsBefore c d → IsShapeBefore c d
same_sum_before n c d h k before =
    let tied : nat_cmp (sum c) (sum d) ≡ Equal = ap (λ m. nat_cmp (sum c) m) (k ∙ sym h) ∙ tied_itself nat_cmp_total (sum c) in
    ap (λ o. ordering_then o (slice_cmp nat_cmp c d)) tied ∙ before

less_sum_before : (m n : ℕ) (c d : List ℕ) → sum c ≡ m → sum d ≡ n → m < n → IsShapeBefore c d
less_sum_before m n c d h k below =
    let less : nat_cmp (sum c) (sum d) ≡ Less = less_from (sum c) (sum d) (omega (arith, h, k, below)) in
    ap (λ o. ordering_then o (slice_cmp nat_cmp c d)) less

by_sum_rising : (ls : List (List ℕ)) (n : ℕ) → Rising IsBefore ls → Rising IsShapeBefore (flat_map (with_sum ls) (numbers_below n))
by_sum_rising ls zero h = tt
by_sum_rising ls (suc n) h =
    let here : Rising IsShapeBefore (with_sum ls n) = Rising-with (λ c. sum c ≡ n) IsBefore IsShapeBefore (with_sum ls n) (same_sum_before n) (sums ls n) (Rising-filter IsBefore (λ (c : List ℕ). nat_eq (sum c) n) ls h) in
    let cross : Each (λ x. Each (IsShapeBefore x) (with_sum ls n)) (flat_map (with_sum ls) (numbers_below n)) =
    Each-flat_map (λ m. m < n) (λ x. Each (IsShapeBefore x) (with_sum ls n)) (with_sum ls) (numbers_below n)
    (λ m below. Each-both (λ c. sum c ≡ m) (λ _. Unit {0}) (λ x. Each (IsShapeBefore x) (with_sum ls n)) (with_sum ls m)
    (λ c is _. Each-both (λ d. sum d ≡ n) (λ _. Unit {0}) (IsShapeBefore c) (with_sum ls n) (λ d same _. less_sum_before m n c d is same below) (sums ls n) (Each-any _ (with_sum ls n) (λ _. tt)))
    (sums ls m) (Each-any _ (with_sum ls m) (λ _. tt)))
    (numbers_under n n (omega arith)) in
    let all = Rising-append IsShapeBefore (flat_map (with_sum ls) (numbers_below n)) (with_sum ls n) (by_sum_rising ls n h) here cross in
    let split : flat_map (with_sum ls) (numbers_below n) ++ with_sum ls n ≡ flat_map (with_sum ls) (numbers_below n ++ n ∷ []) =
    ap (λ ys. flat_map (with_sum ls) (numbers_below n) ++ ys) (sym (append-nil (with_sum ls n))) ∙ sym (flat_map-append (with_sum ls) (numbers_below n) (n ∷ [])) in
    subst (Rising IsShapeBefore) split all

pub shapes_rising : (bounds : List ℕ) → Rising IsShapeBefore (shapes_within bounds)
shapes_rising bounds = by_sum_rising (counts_within bounds) (sum bounds + 1) (tuples_rising (map (λ bound. bound + 1) bounds))

pub shapes_in_order : (bounds : List ℕ) (i j : ℕ) (d : List ℕ) → i < j → j < length (shapes_within bounds) → compare_shapes (get_or (shapes_within bounds) i d) (get_or (shapes_within bounds) j d) ≡ Less
shapes_in_order bounds i j d before below = Rising-at IsShapeBefore (shapes_within bounds) i j d before below (shapes_rising bounds)

equal_shapes : (c : List ℕ) → compare_shapes c c ≡ Equal
equal_shapes c = ap (λ o. ordering_then o (slice_cmp nat_cmp c c)) (tied_itself nat_cmp_total (sum c)) ∙ tied_itself nat_list_cmp_total c

reverse_then : (a b : Ordering) → ordering_reverse (ordering_then a b) ≡ ordering_then (ordering_reverse a) (ordering_reverse b)
reverse_then Less b = refl
reverse_then Equal b = refl
reverse_then Greater b = refl

shapes_reversed : (c d : List ℕ) → compare_shapes c d ≡ ordering_reverse (compare_shapes d c)
shapes_reversed c d =
    ap (λ o. ordering_then o (slice_cmp nat_cmp c d)) (nat_cmp_total.antisymm (sum c) (sum d))
    ∙ (ap (λ o. ordering_then (ordering_reverse (nat_cmp (sum d) (sum c))) o) (nat_list_cmp_total.antisymm c d)
    ∙ sym (reverse_then (nat_cmp (sum d) (sum c)) (slice_cmp nat_cmp d c)))

-- the numbers of two shapes are ordered as the shapes are
pub shapes_compared : (bounds : List ℕ) (i j : ℕ) (d : List ℕ) → i < length (shapes_within bounds) → j < length (shapes_within bounds) → nat_cmp i j ≡ compare_shapes (get_or (shapes_within bounds) i d) (get_or (shapes_within bounds) j d)
shapes_compared bounds i j d hi hj = by_case (cases_lt i j) (cases_lt j i)
  where
    by_case : (i < j) ⊎ (j ≤ i) → (j < i) ⊎ (i ≤ j) → nat_cmp i j ≡ compare_shapes (get_or (shapes_within bounds) i d) (get_or (shapes_within bounds) j d)
    by_case (inl before) _ = less_from i j before ∙ sym (shapes_in_order bounds i j d before hj)
    by_case (inr h) (inl after) =
        nat_cmp_total.antisymm i j
        ∙ (ap ordering_reverse (less_from j i after ∙ sym (shapes_in_order bounds j i d after hi))
        ∙ sym (shapes_reversed (get_or (shapes_within bounds) i d) (get_or (shapes_within bounds) j d)))
    by_case (inr h) (inr k) =
        let same : i ≡ j = omega arith in
        ap (λ n. nat_cmp n j) same ∙ (tied_itself nat_cmp_total j ∙ (sym (equal_shapes (get_or (shapes_within bounds) j d)) ∙ ap (λ n. compare_shapes (get_or (shapes_within bounds) n d) (get_or (shapes_within bounds) j d)) (sym same)))
