-- How many clauses there are over one atom more: those over the others, and twice those with one literal less.
use Rattle.std.proofs.Common.{◌≡◌, ◌≤◌, ◌<◌, ◌*◌, ◌+◌, ◌^◌, ℕ, zero, suc, get_or, map, ◌∙◌, ap, refl, arith}
use Rattle.std.specs.Prelude.{sum_by}
use Rattle.std.proofs.lemmas.List.{get_or-map}
use Rattle.std.proofs.lemmas.List.Sums.{sum_by_push}
use Rattle.std.proofs.Math.Nat.{pow-succ', one-le-pow}
use Rattle.dai_model.specs.Clause.{numbers_below}
use Rattle.dai_model.specs.Shapes.{choices_of, clause_count}
use Rattle.dai_model.proofs.Folds.{numbers_below-length, numbers_below-at}

-- the clauses with k literals over n atoms, and those with fewer than m
abbrev pub with_literals : ℕ → ℕ → ℕ
with_literals n k = choices_of n k * 2 ^ k

abbrev pub with_fewer : ℕ → ℕ → ℕ
with_fewer m n = sum_by (with_literals n) (numbers_below m)

no_choice : (n : ℕ) → choices_of n zero ≡ 1
no_choice zero = refl
no_choice (suc n) = refl

one_more : (m n : ℕ) → with_fewer (suc m) n ≡ with_fewer m n + with_literals n m
one_more m n = sum_by_push (with_literals n) (numbers_below m) m

empty_alone : (n : ℕ) → with_fewer (suc zero) n ≡ 1
empty_alone n =
    let e = one_more zero n in
    let k : with_literals n zero ≡ 1 * 2 ^ zero = ap (λ c. c * 2 ^ zero) (no_choice n) in
    omega (arith, e, k)

step_from : (a b c p q t1 t2 t3 u2 u3 : ℕ) → p ≡ 2 * q → t3 ≡ t2 + c * p → t2 ≡ t1 + b * q → u3 ≡ u2 + (b + c) * p → u2 ≡ t2 + 2 * t1 → u3 ≡ t3 + 2 * t2
step_from a b c p q t1 t2 t3 u2 u3 e h3 h2 k3 k2 =
    let bp : b * p ≡ b * (2 * q) = ap (λ x. b * x) e in
    omega (arith, bp, h3, h2, k3, k2)

pub with_fewer-step : (m n : ℕ) → with_fewer (suc (suc m)) (suc n) ≡ with_fewer (suc (suc m)) n + 2 * with_fewer (suc m) n
with_fewer-step zero n =
    let none = no_choice n in
    let a = one_more (suc zero) (suc n) in
    let b = one_more (suc zero) n in
    let c = empty_alone (suc n) in
    let d = empty_alone n in
    let here : with_literals (suc n) (suc zero) ≡ (choices_of n zero + choices_of n (suc zero)) * 2 = refl in
    let there : with_literals n (suc zero) ≡ choices_of n (suc zero) * 2 = refl in
    omega (arith, none, a, b, c, d, here, there)
with_fewer-step (suc m) n =
    step_from 0 (choices_of n (suc m)) (choices_of n (suc (suc m))) (2 ^ suc (suc m)) (2 ^ suc m) (with_fewer (suc m) n) (with_fewer (suc (suc m)) n) (with_fewer (suc (suc (suc m))) n) (with_fewer (suc (suc m)) (suc n)) (with_fewer (suc (suc (suc m))) (suc n))
    (pow-succ' 2 (suc m)) (one_more (suc (suc m)) n) (one_more (suc m) n) (one_more (suc (suc m)) (suc n)) (with_fewer-step m n)

no_atoms : (m : ℕ) → with_fewer (suc m) zero ≡ 1
no_atoms zero = empty_alone zero
no_atoms (suc m) =
    let e = one_more (suc m) zero in
    let k : with_literals zero (suc m) ≡ 0 * 2 ^ suc m = refl in
    let h = no_atoms m in
    let none : 0 * 2 ^ suc m ≡ 0 = omega arith in
    omega (arith, e, k, h, none)

with_fewer-le : (m n : ℕ) → with_fewer (suc m) n ≤ 3 ^ n
with_fewer-le m zero = let e = no_atoms m in omega (arith, e)
with_fewer-le zero (suc n) = let e = empty_alone (suc n) in let k : 1 ≤ 3 ^ suc n = one-le-pow (suc n) 3 (omega arith) in omega (arith, e, k)
with_fewer-le (suc m) (suc n) =
    let e = with_fewer-step m n in
    let a = with_fewer-le (suc m) n in
    let b = with_fewer-le m n in
    let p = pow-succ' 3 n in
    omega (arith, e, a, b, p)

suc_is : (n : ℕ) → n + 1 ≡ suc n
suc_is n = omega arith

count_is : (literals atoms : ℕ) → clause_count literals atoms ≡ with_fewer (suc literals) atoms
count_is literals atoms = ap (λ m. with_fewer m atoms) (suc_is literals)

pub clause_count-step : (literals atoms : ℕ) → clause_count (literals + 1) (atoms + 1) ≡ clause_count (literals + 1) atoms + 2 * clause_count literals atoms
clause_count-step literals atoms =
    let left : clause_count (literals + 1) (atoms + 1) ≡ with_fewer (suc (suc literals)) (suc atoms) = ap (λ l. clause_count l (atoms + 1)) (suc_is literals) ∙ (ap (clause_count (suc literals)) (suc_is atoms) ∙ count_is (suc literals) (suc atoms)) in
    let right : clause_count (literals + 1) atoms ≡ with_fewer (suc (suc literals)) atoms = ap (λ l. clause_count l atoms) (suc_is literals) ∙ count_is (suc literals) atoms in
    let last = count_is literals atoms in
    let e = with_fewer-step literals atoms in
    omega (arith, left, right, last, e)

pub clause_count-no_atoms : (literals : ℕ) → clause_count literals 0 ≡ 1
clause_count-no_atoms literals = count_is literals 0 ∙ no_atoms literals

pub clause_count-le : (literals atoms : ℕ) → clause_count literals atoms ≤ 3 ^ atoms
clause_count-le literals atoms = let e = count_is literals atoms in let k = with_fewer-le literals atoms in omega (arith, e, k)

pub counts_at : (literals n atoms d : ℕ) → atoms < n → get_or (map (clause_count literals) (numbers_below n)) atoms d ≡ clause_count literals atoms
counts_at literals n atoms d h =
    get_or-map (clause_count literals) (numbers_below n) atoms 0 d (let e = numbers_below-length n in omega (arith, e, h)) ∙ ap (clause_count literals) (numbers_below-at n atoms 0 h)
