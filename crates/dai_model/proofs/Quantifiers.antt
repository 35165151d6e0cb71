-- `every` and `some` are the quantifiers over the elements below a size.
use Rattle.std.proofs.Common.{◌≡◌, ◌↔◌, ◌<◌, ◌≤◌, ℕ, zero, suc, ◌&&◌, ◌||◌, Bool, true, false, IsTrue, refl, subst, arith, inl, inr, ◌⊎◌, ap}
use Rattle.std.proofs.lemmas.Bool.{cases_lt}
use Rattle.dai_model.specs.Value.{every, some}
use Rattle.dai_model.proofs.Typed.{and_left, and_right}
use Rattle.dai_model.proofs.Frame.{or_left, or_right}

and_both : (a b : Bool) → a ≡ true → b ≡ true → (a && b) ≡ true
and_both true b h k = k
and_both false b h k = h

or_cases : (a b : Bool) → (a || b) ≡ true → (a ≡ true) ⊎ (b ≡ true)
or_cases true b h = inl refl
or_cases false b h = inr h

below_suc : (e n : ℕ) → e < suc n → (e < n) ⊎ (n ≡ e)
below_suc e n h = below_or_last (cases_lt e n)
  where
    below_or_last : (e < n) ⊎ (n ≤ e) → (e < n) ⊎ (n ≡ e)
    below_or_last (inl below) = inl below
    below_or_last (inr above) = inr (omega arith)

at_end : (test : ℕ → Bool) (n e : ℕ) → (e < n → test e ≡ true) → test n ≡ true → (e < n) ⊎ (n ≡ e) → test e ≡ true
at_end test n e lower here (inl below) = lower below
at_end test n e lower here (inr last) = subst (λ x. test x ≡ true) last here

each_passes : (n : ℕ) (test : ℕ → Bool) → every n test ≡ true → (e : ℕ) → e < n → test e ≡ true
each_passes zero test h e below = absurd (omega arith)
each_passes (suc n) test h e below =
    at_end test n e (λ lower. each_passes n test (and_left (every n test) (test n) h) e lower) (and_right (every n test) (test n) h) (below_suc e n below)

all_pass : (n : ℕ) (test : ℕ → Bool) → ((e : ℕ) → e < n → test e ≡ true) → every n test ≡ true
all_pass zero test h = refl
all_pass (suc n) test h = and_both (every n test) (test n) (all_pass n test (λ e below. h e (omega arith))) (h n (omega arith))

pub every_is_for_all : (n : ℕ) (test : ℕ → Bool) → IsTrue (every n test) ↔ ((e : ℕ) → e < n → IsTrue (test e))
every_is_for_all n test = (each_passes n test, all_pass n test)

one_more : (n : ℕ) (test : ℕ → Bool) → (some n test ≡ true → (e : ℕ) × (e < n) × (test e ≡ true)) → (some n test ≡ true) ⊎ (test n ≡ true) → (e : ℕ) × (e < suc n) × (test e ≡ true)
one_more n test lower (inl below) = let found = lower below in (found.0, omega arith, found.2)
one_more n test lower (inr here) = (n, omega arith, here)

one_passes : (n : ℕ) (test : ℕ → Bool) → some n test ≡ true → (e : ℕ) × (e < n) × (test e ≡ true)
one_passes zero test h = absurd (let e : ⊥ = cc in e)
one_passes (suc n) test h = one_more n test (one_passes n test) (or_cases (some n test) (test n) h)

some_passes : (n : ℕ) (test : ℕ → Bool) (e : ℕ) → e < n → test e ≡ true → some n test ≡ true
some_passes zero test e below h = absurd (omega arith)
some_passes (suc n) test e below h = some_at (some n test) (test n) e n test (λ lower. some_passes n test e lower h) h refl (below_suc e n below)
  where
    some_at : (a b : Bool) (e n : ℕ) (test : ℕ → Bool) → (e < n → a ≡ true) → test e ≡ true → b ≡ test n → (e < n) ⊎ (n ≡ e) → (a || b) ≡ true
    some_at a b e n test lower h is (inl below) = or_left a b (lower below)
    some_at a b e n test lower h is (inr last) = or_right a b (let k : test n ≡ test e = ap test last in cc)

pub some_is_for_some : (n : ℕ) (test : ℕ → Bool) → IsTrue (some n test) ↔ ((e : ℕ) × (e < n) × IsTrue (test e))
some_is_for_some n test = (one_passes n test, λ found. some_passes n test found.0 found.1 found.2)
