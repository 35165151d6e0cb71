-- Counts of a type over the parts of formulas and statements.
use Rattle.std.proofs.Common.{◌≡◌, ◌≤◌, ◌<◌, ◌^◌, ℕ, ◌+◌, true, List, [], ◌∷◌, ◌++◌, length, sym, ◌∙◌, ap, refl, arith, length-append, append_assoc}
use Rattle.std.specs.Prelude.{nat_eq, cond}
use Rattle.std.proofs.lemmas.List.Sums.{sum_by-append, count_by-le-length}
use Rattle.dai_model.specs.Formula.{Formula}
use Rattle.dai_model.specs.Profile.{witnesses, witnesses_in}
use Rattle.dai_model.specs.Sizes.{count_of}

pub count_of-append : (sort : ℕ) (xs ys : List ℕ) → count_of sort (xs ++ ys) ≡ count_of sort xs + count_of sort ys
count_of-append sort xs ys = sum_by-append (λ t. cond (nat_eq t sort) 1 0) xs ys

pub count_of-le : (sort : ℕ) (xs : List ℕ) → count_of sort xs ≤ length xs
count_of-le sort xs = count_by-le-length (λ t. nat_eq t sort) xs

pub witnesses_in-append : (fs gs : List Formula) → witnesses_in (fs ++ gs) ≡ witnesses_in fs ++ witnesses_in gs
witnesses_in-append [] gs = refl
witnesses_in-append (f ∷ fs) gs = ap (λ ws. witnesses true f ++ ws) (witnesses_in-append fs gs) ∙ sym (append_assoc (witnesses true f) (witnesses_in fs) (witnesses_in gs))

-- one part of a list that is counted from its front
pub count_step : (sort count here whole : ℕ) (all first rest : List ℕ) → all ≡ first ++ rest → here ≡ count_of sort first → count + count_of sort all ≡ whole → (count + here) + count_of sort rest ≡ whole
count_step sort count here whole all first rest e h k =
    let split = ap (count_of sort) e ∙ count_of-append sort first rest in
    omega (arith, split, h, k)

pub count_end : (sort count whole : ℕ) (all : List ℕ) → all ≡ [] → count + count_of sort all ≡ whole → count ≡ whole
count_end sort count whole all e k = let none : count_of sort all ≡ 0 = ap (count_of sort) e in omega (arith, none, k)

pub count_fits : (sort count here whole : ℕ) (all first rest : List ℕ) → all ≡ first ++ rest → here ≡ count_of sort first → count + count_of sort all ≡ whole → whole ≤ 16 → count + here < 2 ^ 64
count_fits sort count here whole all first rest e h k few =
    let split = ap (count_of sort) e ∙ count_of-append sort first rest in
    omega (arith, split, h, k, few)

pub first_few : (all first rest : List ℕ) → all ≡ first ++ rest → length all ≤ 16 → length first ≤ 16
first_few all first rest e few = let split = ap length e ∙ length-append first rest in omega (arith, split, few)

pub rest_few : (all first rest : List ℕ) → all ≡ first ++ rest → length all ≤ 16 → length rest ≤ 16
rest_few all first rest e few = let split = ap length e ∙ length-append first rest in omega (arith, split, few)

pub whole_few : (sort : ℕ) (all : List ℕ) → length all ≤ 16 → count_of sort all ≤ 16
whole_few sort all few = let k = count_of-le sort all in omega (arith, k, few)

pub both_fit : (sort a b : ℕ) (all first rest : List ℕ) → all ≡ first ++ rest → a ≡ count_of sort first → b ≡ count_of sort rest → length all ≤ 16 → a + b < 2 ^ 64
both_fit sort a b all first rest e h k few =
    let split = ap (count_of sort) e ∙ count_of-append sort first rest in
    let most = whole_few sort all few in
    omega (arith, split, h, k, most)

pub both_counted : (sort a b : ℕ) (all first rest : List ℕ) → all ≡ first ++ rest → a ≡ count_of sort first → b ≡ count_of sort rest → a + b ≡ count_of sort all
both_counted sort a b all first rest e h k =
    let split = ap (count_of sort) e ∙ count_of-append sort first rest in
    omega (arith, split, h, k)
