-- A formula of all elements of some types says that its body is true of each tuple of them.
use Rattle.std.proofs.Common.{◌≡◌, ◌<◌, ℕ, zero, suc, ◌+◌, ◌&&◌, ◌||◌, Bool, true, false, List, [], ◌∷◌, length, ap, ◌∙◌, refl, arith}
use Rattle.std.specs.Prelude.{slice_index, nat_lt, nat_eq}
use Rattle.std.specs.List.{list_any}
use Rattle.std.proofs.lemmas.Bool.Decides.{nat_tests}
use Rattle.dai_model.specs.Formula.{Formula}
use Rattle.dai_model.specs.Structure.{Structure, is_tuple, size_of}
use Rattle.dai_model.specs.Value.{Environment, bind, value_of, some_holds}
use Rattle.dai_model.proofs.Quantifiers.{every_is_for_all}
use Rattle.dai_model.proofs.Typed.{and_left, and_right}
use Rattle.dai_template.specs.ClauseFormulas.{for_all, formulas_from}

lt_from_test : (m n : ℕ) → nat_lt m n ≡ true → m < n
lt_from_test m n h = grind (arith, nat_tests)

test_from_lt : (m n : ℕ) → m < n → nat_lt m n ≡ true
test_from_lt m n h = grind (arith, nat_tests)

and_both : (a b : Bool) → a ≡ true → b ≡ true → (a && b) ≡ true
and_both true b h k = k
and_both false b h k = h

-- the variables from a number on stand for these elements
abbrev pub bound_all : Environment → ℕ → List ℕ → Environment
bound_all env first [] = env
bound_all env first (e ∷ es) = bound_all (bind env first e) (first + 1) es

pub each_true : (s : Structure) (env : Environment) (sorts : List ℕ) (first : ℕ) (f : Formula) (es : List ℕ) → value_of s env (for_all sorts first f) ≡ true → is_tuple s.sizes sorts es ≡ true → value_of s (bound_all env first es) f ≡ true
each_true s env [] first f [] h t = h
each_true s env [] first f (e ∷ es) h t = absurd (let k : ⊥ = cc in k)
each_true s env (sort ∷ sorts) first f [] h t = absurd (let k : ⊥ = cc in k)
each_true s env (sort ∷ sorts) first f (e ∷ es) h t =
    let below : e < size_of s sort = lt_from_test e (size_of s sort) (and_left (nat_lt e (size_of s sort)) (is_tuple s.sizes sorts es) t) in
    let here = (every_is_for_all (size_of s sort) (λ x. value_of s (bind env first x) (for_all sorts (first + 1) f))).0 h e below in
    each_true s (bind env first e) sorts (first + 1) f es here (and_right (nat_lt e (size_of s sort)) (is_tuple s.sizes sorts es) t)

pub true_of_each : (s : Structure) (env : Environment) (sorts : List ℕ) (first : ℕ) (f : Formula) → ((es : List ℕ) → is_tuple s.sizes sorts es ≡ true → value_of s (bound_all env first es) f ≡ true) → value_of s env (for_all sorts first f) ≡ true
true_of_each s env [] first f h = h [] refl
true_of_each s env (sort ∷ sorts) first f h =
    (every_is_for_all (size_of s sort) (λ x. value_of s (bind env first x) (for_all sorts (first + 1) f))).1
    (λ e below. true_of_each s (bind env first e) sorts (first + 1) f
    (λ es t. h (e ∷ es) (and_both (nat_lt e (size_of s sort)) (is_tuple s.sizes sorts es) (test_from_lt e (size_of s sort) below) t)))

-- a variable before these stays what it is
earlier : (env : Environment) (first : ℕ) (es : List ℕ) (v : ℕ) → v < first → (bound_all env first es).variables v ≡ env.variables v
earlier env first [] v h = refl
earlier env first (e ∷ es) v h =
    let other : nat_eq v first ≡ false = grind (arith, nat_tests) in
    let here : (bind env first e).variables v ≡ env.variables v = cc in
    earlier (bind env first e) (first + 1) es v (omega (arith, h)) ∙ here

pub bound_at : (env : Environment) (first : ℕ) (es : List ℕ) (i : ℕ) → i < length es → (bound_all env first es).variables (first + i) ≡ slice_index es i
bound_at env first [] i h = absurd (omega arith)
bound_at env first (e ∷ es) zero h =
    let own : nat_eq (first + 0) first ≡ true = grind (arith, nat_tests) in
    let here : (bind env first e).variables (first + 0) ≡ e = cc in
    earlier (bind env first e) (first + 1) es (first + 0) (omega arith) ∙ here
bound_at env first (e ∷ es) (suc i) h =
    let same : first + suc i ≡ (first + 1) + i = omega arith in
    ap (λ v. (bound_all env first (e ∷ es)).variables v) same ∙ bound_at (bind env first e) (first + 1) es i (omega arith)

pub some_of : (s : Structure) (env : Environment) (fs : List Formula) → some_holds s env (formulas_from fs) ≡ list_any (value_of s env) fs
some_of s env [] = refl
some_of s env (f ∷ fs) = ap (λ b. value_of s env f || b) (some_of s env fs)
