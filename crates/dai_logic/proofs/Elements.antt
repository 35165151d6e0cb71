-- The walk over the elements of a type.
use Rattle.std.proofs.Common.{◌≡◌, ℕ, ◌+◌, ◌<◌, ◌&&◌, ◌||◌, Bool, true, false, List, length, get_or, sym, ap, ◌∙◌, refl, subst, add-one}
use Rattle.std.proofs.lemmas.List.{get_or_default}
use Rattle.dai_model.specs.Value.{every, some}
use Rattle.dai_model.proofs.Quantifiers.{every_is_for_all, some_is_for_some}

-- the size that is read is that of the type
pub size_read : (sizes : List ℕ) (sort n : ℕ) → sort < length sizes → n ≡ get_or sizes sort n → n ≡ get_or sizes sort 0
size_read sizes sort n known is = is ∙ get_or_default sizes sort n 0 known

pub below_size : (sizes : List ℕ) (sort n e : ℕ) → sort < length sizes → n ≡ get_or sizes sort n → e < n → e < get_or sizes sort 0
below_size sizes sort n e known is below = subst (λ m. e < m) (size_read sizes sort n known is) below

one_fails : (n e : ℕ) (test : ℕ → Bool) (b : Bool) → e < n → test e ≡ false → every n test ≡ b → b ≡ false
one_fails n e test false below h k = refl
one_fails n e test true below h k = let p : test e ≡ true = (every_is_for_all n test).0 k e below in absurd (let x : ⊥ = cc in x)

pub all_fails : (n e : ℕ) (test : ℕ → Bool) → e < n → false ≡ test e → false ≡ every n test
all_fails n e test below h = sym (one_fails n e test (every n test) below (sym h) refl)

pub all_more : (n : ℕ) (test : ℕ → Bool) → every n test ≡ true → true ≡ test n → every (n + 1) test ≡ true
all_more n test h k = rw add-one (ap (λ b. b && test n) h ∙ sym k)

pub all_done : (n m : ℕ) (test : ℕ → Bool) → every n test ≡ true → n ≡ m → true ≡ every m test
all_done n m test h e = sym h ∙ ap (λ k. every k test) e

pub some_passes : (n e : ℕ) (test : ℕ → Bool) → e < n → true ≡ test e → true ≡ some n test
some_passes n e test below h = sym ((some_is_for_some n test).1 (e, below, sym h))

pub none_more : (n : ℕ) (test : ℕ → Bool) → some n test ≡ false → false ≡ test n → some (n + 1) test ≡ false
none_more n test h k = rw add-one (ap (λ b. b || test n) h ∙ sym k)

pub none_done : (n m : ℕ) (test : ℕ → Bool) → some n test ≡ false → n ≡ m → false ≡ some m test
none_done n m test h e = sym h ∙ ap (λ k. some k test) e
