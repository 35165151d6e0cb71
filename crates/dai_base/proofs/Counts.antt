-- How many numbers are listed.
use Rattle.std.proofs.Common.{◌≡◌, ◌<◌, ◌≤◌, ◌+◌, ℕ, zero, suc, Option, Some, None, refl, ap, sym, ◌∙◌, ⊎_elim, arith, if◌then◌else◌}
use Rattle.std.proofs.lemmas.Bool.{cases_eq}
use Rattle.std.specs.Prelude.{is_some}
use Rattle.dai_base.specs.FaultPlan.{count_listed, Lists}

count_same : (f g : ℕ → Option ℕ) (n : ℕ) → ((m : ℕ) → m < n → g m ≡ f m) → count_listed g n ≡ count_listed f n
count_same f g zero h = refl
count_same f g (suc n) h =
    let rest = count_same f g n (λ m below. h m (omega (arith, below))) in
    let here = h n (omega arith) in
    λ i. rest i + (if is_some (here i) then 1 else 0)

one_at_most : (o : Option ℕ) → (if is_some o then 1 else 0) ≤ 1
one_at_most None = omega arith
one_at_most (Some x) = omega arith

pub count_bound : (f : ℕ → Option ℕ) (n : ℕ) → count_listed f n ≤ n
count_bound f zero = omega arith
count_bound f (suc n) =
    let rest = count_bound f n in
    let one = one_at_most (f n) in
    omega (arith, rest, one)

-- what is listed before the calls that were made is as it was
pub count_listing : (calls : ℕ) (old new : ℕ → Option ℕ) (call taken : ℕ) → Lists calls old new call taken → count_listed new calls ≡ count_listed old calls
count_listing calls old new call taken h = count_same old new calls (λ m below. ⊎_elim (λ e. by_made m below e) (λ ne. h.others m ne) (cases_eq m call))
  where
    by_made : (m : ℕ) → m < calls → m ≡ call → new m ≡ old m
    by_made m below e = ap new e ∙ (h.made (omega (arith, below, e)) ∙ sym (ap old e))
