-- The numbers below a bound that pass a test, in order.
use Rattle.std.proofs.Common.{◌≡◌, ◌<◌, ◌≤◌, ◌+◌, ℕ, zero, suc, Bool, true, false, sym, ap, subst, refl, arith, inl, inr, ◌⊎◌}
use Rattle.std.specs.Prelude.{nat_lt, if◌then◌else◌}
use Rattle.std.proofs.lemmas.Bool.Decides.{nat_tests}
use Rattle.std.proofs.lemmas.Bool.{cases_lt}
use Rattle.dai_cut.specs.Cut.{count_below, nth_below}

one_more : (test : ℕ → Bool) (m n : ℕ) → m ≤ suc n → (m ≤ n → count_below test m ≤ count_below test n) → (n < m) ⊎ (m ≤ n) → count_below test m ≤ count_below test (suc n)
one_more test m n h rec (inl same) = let e : suc n ≡ m = omega arith in subst (λ k. count_below test k ≤ count_below test (suc n)) e (omega arith)
one_more test m n h rec (inr before) = let k = rec before in omega (arith, k)

pub count_below-mono : (test : ℕ → Bool) (m n : ℕ) → m ≤ n → count_below test m ≤ count_below test n
count_below-mono test m zero h = let e : m ≡ 0 = omega arith in subst (λ k. count_below test k ≤ 0) (sym e) (omega arith)
count_below-mono test m (suc n) h = one_more test m n h (λ before. count_below-mono test m n before) (cases_lt n m)

pub count_below-step : (test : ℕ → Bool) (e n : ℕ) → e < n → test e ≡ true → count_below test e < count_below test n
count_below-step test e n h passes =
    let k = count_below-mono test (suc e) n h in
    let step : count_below test (suc e) ≡ count_below test e + 1 = ap (λ b. count_below test e + (if b then 1 else 0)) passes in
    omega (arith, k, step)

-- x is the number with k of those that pass below it
pub record IsNth (test : ℕ → Bool) (n k x : ℕ) : Type 0 where
  pub below : x < n
  pub passes : test x ≡ true
  pub place : count_below test x ≡ k

nth_step : (test : ℕ → Bool) (n k x : ℕ) (before here : Bool) → nat_lt k (count_below test n) ≡ before → test n ≡ here → k < count_below test n + (if here then 1 else 0) → (k < count_below test n → IsNth test n k x) → IsNth test (suc n) k (if before then x else n)
nth_step test n k x true here is passes h rec =
    let r = rec (grind (arith, nat_tests)) in
    record { below = (let b = r.below in omega (arith, b)); passes = r.passes; place = r.place }
nth_step test n k x false true is passes h rec =
    let above : count_below test n ≤ k = grind (arith, nat_tests) in
    record { below = omega arith; passes = passes; place = omega (arith, above) }
nth_step test n k x false false is passes h rec =
    let above : count_below test n ≤ k = grind (arith, nat_tests) in
    absurd (omega (arith, above))

pub nth_is : (test : ℕ → Bool) (n k : ℕ) → k < count_below test n → IsNth test n k (nth_below test n k)
nth_is test zero k h = absurd (omega arith)
nth_is test (suc n) k h = nth_step test n k (nth_below test n k) (nat_lt k (count_below test n)) (test n) refl refl h (λ below. nth_is test n k below)

pub nth_increasing : (test : ℕ → Bool) (n j k : ℕ) → j < k → k < count_below test n → nth_below test n j < nth_below test n k
nth_increasing test n j k h below = earlier (cases_lt (nth_below test n j) (nth_below test n k))
  where
    earlier : (nth_below test n j < nth_below test n k) ⊎ (nth_below test n k ≤ nth_below test n j) → nth_below test n j < nth_below test n k
    earlier (inl before) = before
    earlier (inr after) =
        let more = count_below-mono test (nth_below test n k) (nth_below test n j) after in
        let first = (nth_is test n j (omega arith)).place in
        let second = (nth_is test n k below).place in
        absurd (omega (arith, more, first, second))

pub same_place : (test : ℕ → Bool) (d e : ℕ) → test d ≡ true → test e ≡ true → count_below test d ≡ count_below test e → d ≡ e
same_place test d e passes passes_too same = by_order (cases_lt d e) (cases_lt e d)
  where
    by_order : (d < e) ⊎ (e ≤ d) → (e < d) ⊎ (d ≤ e) → d ≡ e
    by_order (inl before) other = absurd (let k = count_below-step test d e before passes in omega (arith, k))
    by_order (inr first) (inl after) = absurd (let k = count_below-step test e d after passes_too in omega (arith, k))
    by_order (inr first) (inr second) = omega arith

pub nth_of_place : (test : ℕ → Bool) (n e : ℕ) → e < n → test e ≡ true → nth_below test n (count_below test e) ≡ e
nth_of_place test n e below passes =
    let is = nth_is test n (count_below test e) (count_below-step test e n below passes) in
    same_place test (nth_below test n (count_below test e)) e is.passes passes is.place
