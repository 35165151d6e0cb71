-- Numbers that stand for numbers, each for one of its own: how many there can be, which are left out, and the way back.
use Rattle.std.proofs.Common.{◌≡◌, ◌≢◌, ◌<◌, ◌≤◌, ℕ, zero, suc, List, [], ◌∷◌, length, sym, ◌∙◌, ap, refl, arith, inl, inr, ◌⊎◌}
use Rattle.std.specs.Prelude.{sum, slice_index}
use Rattle.std.proofs.lemmas.Bool.{cases_lt, cases_eq}
use Rattle.std.proofs.lemmas.List.Sums.{sum_by-cons}

-- each number below n stands for one below m, and no two for one
pub record IsOneToOne (n m : ℕ) (f : ℕ → ℕ) : Type 0 where
  pub inside : (i : ℕ) → i < n → f i < m
  pub apart : (i j : ℕ) → i < j → j < n → f i ≢ f j

-- the other number at this place, and the own one elsewhere
abbrev chosen : {place x : ℕ} → ℕ → ℕ → (x ≡ place) ⊎ (x ≢ place) → ℕ
chosen other own (inl e) = other
chosen other own (inr ne) = own

chosen_cases : (place x other own : ℕ) (o : (x ≡ place) ⊎ (x ≢ place)) → ((x ≡ place) × (chosen other own o ≡ other)) ⊎ ((x ≢ place) × (chosen other own o ≡ own))
chosen_cases place x other own (inl e) = inl (e, refl)
chosen_cases place x other own (inr ne) = inr (ne, refl)

-- what stood for the greatest number stands for another one
abbrev lowered : ℕ → ℕ → ℕ → ℕ
lowered top other x = chosen other x (cases_eq x top)

lowered_cases : (top other x : ℕ) → ((x ≡ top) × (lowered top other x ≡ other)) ⊎ ((x ≢ top) × (lowered top other x ≡ x))
lowered_cases top other x = chosen_cases top x other x (cases_eq x top)

lowered_one_to_one : (n m : ℕ) (f : ℕ → ℕ) → IsOneToOne (suc n) (suc m) f → IsOneToOne n m (λ i. lowered m (f n) (f i))
lowered_one_to_one n m f h = record {
  inside = λ i below.
      let first = h.inside i (omega (arith, below)) in
      let last = h.inside n (omega arith) in
      let differ = h.apart i n below (omega arith) in
      under i first last differ (lowered_cases m (f n) (f i));
  apart = λ i j before below.
      let differ = h.apart i j before (omega (arith, below)) in
      let first = h.apart i n (omega (arith, before, below)) (omega arith) in
      let second = h.apart j n below (omega arith) in
      both i j differ first second (lowered_cases m (f n) (f i)) (lowered_cases m (f n) (f j));
}
  where
    under : (i : ℕ) → f i < suc m → f n < suc m → f i ≢ f n → ((f i ≡ m) × (lowered m (f n) (f i) ≡ f n)) ⊎ ((f i ≢ m) × (lowered m (f n) (f i) ≡ f i)) → lowered m (f n) (f i) < m
    under i a b differ (inl (is, e)) = omega (arith, a, b, differ, is, e)
    under i a b differ (inr (is, e)) = omega (arith, a, b, differ, is, e)

    both : (i j : ℕ) → f i ≢ f j → f i ≢ f n → f j ≢ f n → ((f i ≡ m) × (lowered m (f n) (f i) ≡ f n)) ⊎ ((f i ≢ m) × (lowered m (f n) (f i) ≡ f i)) → ((f j ≡ m) × (lowered m (f n) (f j) ≡ f n)) ⊎ ((f j ≢ m) × (lowered m (f n) (f j) ≡ f j)) → lowered m (f n) (f i) ≢ lowered m (f n) (f j)
    both i j differ first second (inl (a, p)) (inl (b, q)) = λ e. differ (a ∙ sym b)
    both i j differ first second (inl (a, p)) (inr (b, q)) = λ e. second (sym q ∙ sym e ∙ p)
    both i j differ first second (inr (a, p)) (inl (b, q)) = λ e. first (sym p ∙ e ∙ q)
    both i j differ first second (inr (a, p)) (inr (b, q)) = λ e. differ (sym p ∙ e ∙ q)

-- there is room for each
pub no_fewer : (n m : ℕ) (f : ℕ → ℕ) → IsOneToOne n m f → n ≤ m
no_fewer zero m f h = omega arith
no_fewer (suc n) zero f h = absurd (let k = h.inside n (omega arith) in omega arith)
no_fewer (suc n) (suc m) f h = let k = no_fewer n m (λ i. lowered m (f n) (f i)) (lowered_one_to_one n m f h) in omega arith

pub same_number : (n m : ℕ) (f : ℕ → ℕ) (i j : ℕ) → IsOneToOne n m f → i < n → j < n → f i ≡ f j → i ≡ j
same_number n m f i j h a b e = by_case (cases_lt i j) (cases_lt j i)
  where
    by_case : (i < j) ⊎ (j ≤ i) → (j < i) ⊎ (i ≤ j) → i ≡ j
    by_case (inl before) other = absurd (h.apart i j before b e)
    by_case (inr p) (inl before) = absurd (h.apart j i before a (sym e))
    by_case (inr p) (inr q) = omega (arith, p, q)

-- some number below n stands for this one
abbrev pub IsHit : ℕ → (ℕ → ℕ) → ℕ → Type 0
IsHit n f j = (i : ℕ) × (i < n) × (f i ≡ j)

pub hit_or_not : (n : ℕ) (f : ℕ → ℕ) (j : ℕ) → IsHit n f j ⊎ (IsHit n f j → ⊥)
hit_or_not zero f j = inr (λ w. let k = w.1 in omega arith)
hit_or_not (suc n) f j = by_last (cases_eq (f n) j) (hit_or_not n f j)
  where
    by_last : (f n ≡ j) ⊎ (f n ≢ j) → IsHit n f j ⊎ (IsHit n f j → ⊥) → IsHit (suc n) f j ⊎ (IsHit (suc n) f j → ⊥)
    by_last (inl e) rest = inl (n, omega arith, e)
    by_last (inr ne) (inl (i, below, e)) = inl (i, omega (arith, below), e)
    by_last (inr ne) (inr none) = inr (λ w. at_place w.0 w.1 w.2 (cases_lt w.0 n))
      where
        at_place : (i : ℕ) → i < suc n → f i ≡ j → (i < n) ⊎ (n ≤ i) → ⊥
        at_place i below e (inl before) = none (i, before, e)
        at_place i below e (inr last) = let same : i ≡ n = omega (arith, below, last) in ne (ap f (sym same) ∙ e)

abbrev back_by : {n j : ℕ} {f : ℕ → ℕ} → IsHit n f j ⊎ (IsHit n f j → ⊥) → ℕ
back_by (inl w) = w.0
back_by (inr none) = 0

-- the number that stands for this one
abbrev pub back : ℕ → (ℕ → ℕ) → ℕ → ℕ
back n f j = back_by (hit_or_not n f j)

back_is : (n : ℕ) (f : ℕ → ℕ) (j : ℕ) (o : IsHit n f j ⊎ (IsHit n f j → ⊥)) → IsHit n f j → (back_by o < n) × (f (back_by o) ≡ j)
back_is n f j (inl w) h = (w.1, w.2)
back_is n f j (inr none) h = absurd (none h)

pub back_hits : (n : ℕ) (f : ℕ → ℕ) (j : ℕ) → IsHit n f j → (back n f j < n) × (f (back n f j) ≡ j)
back_hits n f j h = back_is n f j (hit_or_not n f j) h

pub back_again : (n m : ℕ) (f : ℕ → ℕ) (i : ℕ) → IsOneToOne n m f → i < n → back n f (f i) ≡ i
back_again n m f i h below =
    let k = back_hits n f (f i) (i, below, refl) in
    same_number n m f (back n f (f i)) i h k.0 below k.1

-- one more number, that stands for one that was left out
abbrev longer : ℕ → (ℕ → ℕ) → ℕ → ℕ → ℕ
longer n f j i = chosen j (f i) (cases_eq i n)

longer_cases : (n : ℕ) (f : ℕ → ℕ) (j i : ℕ) → ((i ≡ n) × (longer n f j i ≡ j)) ⊎ ((i ≢ n) × (longer n f j i ≡ f i))
longer_cases n f j i = chosen_cases n i j (f i) (cases_eq i n)

longer_one_to_one : (n m : ℕ) (f : ℕ → ℕ) (j : ℕ) → IsOneToOne n m f → j < m → (IsHit n f j → ⊥) → IsOneToOne (suc n) m (longer n f j)
longer_one_to_one n m f j h below none = record {
  inside = λ i k. under i k (longer_cases n f j i);
  apart = λ i l before k. both i l before k (longer_cases n f j i) (longer_cases n f j l);
}
  where
    under : (i : ℕ) → i < suc n → ((i ≡ n) × (longer n f j i ≡ j)) ⊎ ((i ≢ n) × (longer n f j i ≡ f i)) → longer n f j i < m
    under i k (inl (is, e)) = omega (arith, below, e)
    under i k (inr (is, e)) = let there = h.inside i (omega (arith, k, is)) in omega (arith, there, e)

    both : (i l : ℕ) → i < l → l < suc n → ((i ≡ n) × (longer n f j i ≡ j)) ⊎ ((i ≢ n) × (longer n f j i ≡ f i)) → ((l ≡ n) × (longer n f j l ≡ j)) ⊎ ((l ≢ n) × (longer n f j l ≡ f l)) → longer n f j i ≢ longer n f j l
    both i l before k (inl (a, p)) other = absurd (omega (arith, before, k, a))
    both i l before k (inr (a, p)) (inl (b, q)) = λ e. none (i, omega (arith, before, b), sym p ∙ e ∙ q)
    both i l before k (inr (a, p)) (inr (b, q)) = λ e. h.apart i l before (omega (arith, k, b)) (sym p ∙ e ∙ q)

-- where there is no more room than numbers, none is left out
pub hits_each : (n m : ℕ) (f : ℕ → ℕ) → IsOneToOne n m f → m ≤ n → (j : ℕ) → j < m → IsHit n f j
hits_each n m f h full j below = by_case (hit_or_not n f j)
  where
    by_case : IsHit n f j ⊎ (IsHit n f j → ⊥) → IsHit n f j
    by_case (inl w) = w
    by_case (inr none) = absurd (let k = no_fewer (suc n) m (longer n f j) (longer_one_to_one n m f j h below none) in omega (arith, k, full))

-- the way back where none is left out
pub back_one_to_one : (n m : ℕ) (f : ℕ → ℕ) → ((j : ℕ) → j < m → IsHit n f j) → IsOneToOne m n (back n f)
back_one_to_one n m f all = record {
  inside = λ j below. (back_hits n f j (all j below)).0;
  apart = λ j k before below e.
      let first = (back_hits n f j (all j (omega (arith, before, below)))).1 in
      let second = (back_hits n f k (all k below)).1 in
      let same : j ≡ k = sym first ∙ ap f e ∙ second in
      omega (arith, same, before);
}

-- each of the first numbers is hit, or one is left out
each_hit : (n : ℕ) (f : ℕ → ℕ) (k : ℕ) → ((j : ℕ) → j < k → IsHit n f j) ⊎ ((j : ℕ) × (j < k) × (IsHit n f j → ⊥))
each_hit n f zero = inl (λ j below. absurd (omega (arith, below)))
each_hit n f (suc k) = by_last (each_hit n f k) (hit_or_not n f k)
  where
    by_last : ((j : ℕ) → j < k → IsHit n f j) ⊎ ((j : ℕ) × (j < k) × (IsHit n f j → ⊥)) → IsHit n f k ⊎ (IsHit n f k → ⊥) → ((j : ℕ) → j < suc k → IsHit n f j) ⊎ ((j : ℕ) × (j < suc k) × (IsHit n f j → ⊥))
    by_last (inr (j, below, none)) last = inr (j, omega (arith, below), none)
    by_last (inl all) (inr none) = inr (k, omega arith, none)
    by_last (inl all) (inl w) = inl (λ j below. at_place j below (cases_lt j k))
      where
        at_place : (j : ℕ) → j < suc k → (j < k) ⊎ (k ≤ j) → IsHit n f j
        at_place j below (inl before) = all j before
        at_place j below (inr last) = let same : k ≡ j = omega (arith, below, last) in (w.0, w.1, w.2 ∙ same)

-- where there is more room than numbers, one is left out
pub left_out : (n m : ℕ) (f : ℕ → ℕ) → n < m → (j : ℕ) × (j < m) × (IsHit n f j → ⊥)
left_out n m f room = by_case (each_hit n f m)
  where
    by_case : ((j : ℕ) → j < m → IsHit n f j) ⊎ ((j : ℕ) × (j < m) × (IsHit n f j → ⊥)) → (j : ℕ) × (j < m) × (IsHit n f j → ⊥)
    by_case (inr w) = w
    by_case (inl all) = absurd (let k = no_fewer m n (back n f) (back_one_to_one n m f all) in omega (arith, k, room))

-- sums of lists that are compared place by place
pub sum_no_more : (xs ys : List ℕ) → length xs ≡ length ys → ((i : ℕ) → slice_index xs i ≤ slice_index ys i) → sum xs ≤ sum ys
sum_no_more [] [] long each = omega arith
sum_no_more [] (y ∷ ys) long each = absurd (omega (arith, long))
sum_no_more (x ∷ xs) [] long each = absurd (omega (arith, long))
sum_no_more (x ∷ xs) (y ∷ ys) long each =
    let here : x ≤ y = each 0 in
    let rest = sum_no_more xs ys (omega (arith, long)) (λ i. each (suc i)) in
    let a = sum_by-cons (λ (n : ℕ). n) x xs in
    let b = sum_by-cons (λ (n : ℕ). n) y ys in
    omega (arith, here, rest, a, b)

pub same_sum : (xs ys : List ℕ) → length xs ≡ length ys → ((i : ℕ) → slice_index xs i ≤ slice_index ys i) → sum ys ≤ sum xs → xs ≡ ys
same_sum [] [] long each h = refl
same_sum [] (y ∷ ys) long each h = absurd (omega (arith, long))
same_sum (x ∷ xs) [] long each h = absurd (omega (arith, long))
same_sum (x ∷ xs) (y ∷ ys) long each h =
    let here : x ≤ y = each 0 in
    let rest = sum_no_more xs ys (omega (arith, long)) (λ i. each (suc i)) in
    let a = sum_by-cons (λ (n : ℕ). n) x xs in
    let b = sum_by-cons (λ (n : ℕ). n) y ys in
    let head : x ≡ y = omega (arith, here, rest, a, b, h) in
    let tail : xs ≡ ys = same_sum xs ys (omega (arith, long)) (λ i. each (suc i)) (omega (arith, here, rest, a, b, h)) in
    λ i. head i ∷ tail i

pub less_somewhere : (xs ys : List ℕ) → length xs ≡ length ys → sum xs < sum ys → (i : ℕ) × (slice_index xs i < slice_index ys i)
less_somewhere [] [] long h = absurd (omega (arith, h))
less_somewhere [] (y ∷ ys) long h = absurd (omega (arith, long))
less_somewhere (x ∷ xs) [] long h = absurd (omega (arith, long))
less_somewhere (x ∷ xs) (y ∷ ys) long h =
    by_first (cases_lt x y)
    (λ above. less_somewhere xs ys (omega (arith, long)) (let a = sum_by-cons (λ (n : ℕ). n) x xs in let b = sum_by-cons (λ (n : ℕ). n) y ys in omega (arith, a, b, h, above)))
  where
    by_first : (x < y) ⊎ (y ≤ x) → (y ≤ x → (i : ℕ) × (slice_index xs i < slice_index ys i)) → (i : ℕ) × (slice_index (x ∷ xs) i < slice_index (y ∷ ys) i)
    by_first (inl below) rest = (0, below)
    by_first (inr above) rest = let w = rest above in (suc w.0, w.1)
