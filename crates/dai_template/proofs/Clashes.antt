-- No clash of a shape's variables is true exactly where they stand as they should.
use Rattle.std.proofs.Common.{◌≡◌, ◌<◌, ◌≤◌, ◌≢◌, ℕ, zero, suc, ◌+◌, ◌||◌, Bool, true, false, List, [], ◌∷◌, ◌++◌, map, take, Some, sym, ap, ◌∙◌, refl, subst, arith, inl, inr, ◌⊎◌}
use Rattle.std.specs.Prelude.{slice_index, slice_get, sum, nat_le, nat_eq}
use Rattle.std.specs.List.{list_any, flat_map}
use Rattle.std.proofs.lemmas.Bool.{cases_lt}
use Rattle.std.proofs.lemmas.Bool.Decides.{nat_tests}
use Rattle.std.proofs.lemmas.List.Folds.{list_any-append}
use Rattle.std.proofs.lemmas.List.Concat.{flat_map_single}
use Rattle.dai_model.specs.Structure.{Structure}
use Rattle.dai_model.specs.Clause.{numbers_below}
use Rattle.dai_model.specs.Placement.{Apart}
use Rattle.dai_model.specs.Value.{Environment, value_of}
use Rattle.dai_model.proofs.Folds.{appended_number}
use Rattle.dai_model.proofs.Frame.{or_false_left, or_false_right}
use Rattle.dai_template.specs.ClauseFormulas.{clash, clashes_with, clashes_of, clashes}
use Rattle.dai_template.proofs.Flat.{sum_cons}

or_false : (a b : Bool) → a ≡ false → b ≡ false → (a || b) ≡ false
or_false true b h k = h
or_false false b h k = k

none_append : {X : Type 0} (p : X → Bool) (xs ys : List X) → list_any p xs ≡ false → list_any p ys ≡ false → list_any p (xs ++ ys) ≡ false
none_append p xs ys h k = list_any-append p xs ys ∙ or_false (list_any p xs) (list_any p ys) h k

none_first : {X : Type 0} (p : X → Bool) (xs ys : List X) → list_any p (xs ++ ys) ≡ false → list_any p xs ≡ false
none_first p xs ys h = or_false_left (list_any p xs) (list_any p ys) (sym (list_any-append p xs ys) ∙ h)

none_rest : {X : Type 0} (p : X → Bool) (xs ys : List X) → list_any p (xs ++ ys) ≡ false → list_any p ys ≡ false
none_rest p xs ys h = or_false_right (list_any p xs) (list_any p ys) (sym (list_any-append p xs ys) ∙ h)

flat_suc : {X : Type 0} (f : ℕ → List X) (n : ℕ) → flat_map f (numbers_below (suc n)) ≡ flat_map f (numbers_below n) ++ f n
flat_suc f n = ap (λ k. flat_map f (numbers_below k)) (let next : suc n ≡ n + 1 = omega arith in next) ∙ sym (appended_number f n (flat_map f (numbers_below n)) (flat_map f (numbers_below n) ++ f n) refl refl)

none_flat : {X : Type 0} (p : X → Bool) (f : ℕ → List X) (n : ℕ) → ((i : ℕ) → i < n → list_any p (f i) ≡ false) → list_any p (flat_map f (numbers_below n)) ≡ false
none_flat p f zero h = refl
none_flat p f (suc n) h = ap (list_any p) (flat_suc f n) ∙ none_append p (flat_map f (numbers_below n)) (f n) (none_flat p f n (λ i k. h i (omega arith))) (h n (omega arith))

last_or_before : {X : Type 0} (p : X → Bool) (f : ℕ → List X) (n i : ℕ) → list_any p (flat_map f (numbers_below n) ++ f n) ≡ false → (list_any p (flat_map f (numbers_below n)) ≡ false → i < n → list_any p (f i) ≡ false) → i < suc n → (i < n) ⊎ (n ≤ i) → list_any p (f i) ≡ false
last_or_before p f n i both lower k (inl before) = lower (none_first p (flat_map f (numbers_below n)) (f n) both) before
last_or_before p f n i both lower k (inr past) = let last : i ≡ n = omega (arith, k, past) in ap (λ x. list_any p (f x)) last ∙ none_rest p (flat_map f (numbers_below n)) (f n) both

none_at : {X : Type 0} (p : X → Bool) (f : ℕ → List X) (n i : ℕ) → list_any p (flat_map f (numbers_below n)) ≡ false → i < n → list_any p (f i) ≡ false
none_at p f zero i h k = absurd (omega arith)
none_at p f (suc n) i h k = last_or_before p f n i (ap (list_any p) (sym (flat_suc f n)) ∙ h) (λ e b. none_at p f n i e b) k (cases_lt i n)

none_map : {X : Type 0} (p : X → Bool) (g : ℕ → X) (n : ℕ) → ((i : ℕ) → i < n → p (g i) ≡ false) → list_any p (map g (numbers_below n)) ≡ false
none_map p g n h = ap (list_any p) (sym (flat_map_single g (numbers_below n))) ∙ none_flat p (λ i. g i ∷ []) n (λ i k. or_false (p (g i)) false (h i k) refl)

none_map_at : {X : Type 0} (p : X → Bool) (g : ℕ → X) (n i : ℕ) → list_any p (map g (numbers_below n)) ≡ false → i < n → p (g i) ≡ false
none_map_at p g n i h k = or_false_left (p (g i)) false (none_at p (λ x. g x ∷ []) n i (ap (list_any p) (flat_map_single g (numbers_below n)) ∙ h) k)

clash_apart : (s : Structure) (env : Environment) (ordered : Bool) (v w : ℕ) → value_of s env (clash ordered v w) ≡ false → Apart ordered (env.variables v) (env.variables w)
clash_apart s env true v w h = let k : nat_le (env.variables w) (env.variables v) ≡ false = h in grind (arith, nat_tests)
clash_apart s env false v w h = let k : nat_eq (env.variables v) (env.variables w) ≡ false = h in λ e. grind (arith, nat_tests)

apart_clash : (s : Structure) (env : Environment) (ordered : Bool) (v w : ℕ) → Apart ordered (env.variables v) (env.variables w) → value_of s env (clash ordered v w) ≡ false
apart_clash s env true v w h = let k : env.variables v < env.variables w = h in let e : nat_le (env.variables w) (env.variables v) ≡ false = grind (arith, nat_tests) in e
apart_clash s env false v w h = let k : env.variables v ≢ env.variables w = h in let e : nat_eq (env.variables v) (env.variables w) ≡ false = grind (arith, nat_tests) in e

apart_moved : (ordered : Bool) (f : ℕ → ℕ) (a b x y : ℕ) → a ≡ x → b ≡ y → Apart ordered (f a) (f b) → Apart ordered (f x) (f y)
apart_moved ordered f a b x y d e h = subst (λ t. Apart ordered (f t) (f y)) d (subst (λ t. Apart ordered (f a) (f t)) e h)

pub clashes_apart : (s : Structure) (env : Environment) (orders : List Bool) (first : ℕ) (counts : List ℕ) (sort : ℕ) (ordered : Bool) (i j : ℕ) → list_any (value_of s env) (clashes orders first counts) ≡ false → slice_get orders sort ≡ Some ordered → i < j → j < slice_index counts sort → Apart ordered (env.variables (first + (sum (take sort counts) + i))) (env.variables (first + (sum (take sort counts) + j)))
clashes_apart s env [] first counts sort ordered i j h e k l = absurd (let x : ⊥ = cc in x)
clashes_apart s env (o ∷ orders) first [] sort ordered i j h e k l = absurd (omega arith)
clashes_apart s env (o ∷ orders) first (c ∷ counts) zero ordered i j h e k l =
    let b : j < c = l in
    let here = none_at (value_of s env) (clashes_with o first) c j (none_first (value_of s env) (clashes_of o first c) (clashes orders (first + c) counts) h) b in
    let two = none_map_at (value_of s env) (λ x. clash o (first + x) (first + j)) j i here k in
    let same : o ≡ ordered = cc in
    apart_moved ordered env.variables (first + i) (first + j) (first + (0 + i)) (first + (0 + j)) (omega arith) (omega arith)
    (subst (λ t. Apart t (env.variables (first + i)) (env.variables (first + j))) same (clash_apart s env o (first + i) (first + j) two))
clashes_apart s env (o ∷ orders) first (c ∷ counts) (suc sort) ordered i j h e k l =
    let all = sum_cons c (take sort counts) in
    let rest = clashes_apart s env orders (first + c) counts sort ordered i j (none_rest (value_of s env) (clashes_of o first c) (clashes orders (first + c) counts) h) e k l in
    apart_moved ordered env.variables ((first + c) + (sum (take sort counts) + i)) ((first + c) + (sum (take sort counts) + j)) (first + (sum (c ∷ take sort counts) + i)) (first + (sum (c ∷ take sort counts) + j)) (omega (arith, all)) (omega (arith, all)) rest

pub apart_clashes : (s : Structure) (env : Environment) (orders : List Bool) (first : ℕ) (counts : List ℕ) → ((sort : ℕ) (ordered : Bool) (i j : ℕ) → slice_get orders sort ≡ Some ordered → i < j → j < slice_index counts sort → Apart ordered (env.variables (first + (sum (take sort counts) + i))) (env.variables (first + (sum (take sort counts) + j)))) → list_any (value_of s env) (clashes orders first counts) ≡ false
apart_clashes s env [] first counts h = refl
apart_clashes s env (o ∷ orders) first [] h = refl
apart_clashes s env (o ∷ orders) first (c ∷ counts) h =
    none_append (value_of s env) (clashes_of o first c) (clashes orders (first + c) counts)
    (none_flat (value_of s env) (clashes_with o first) c
    (λ j b. none_map (value_of s env) (λ x. clash o (first + x) (first + j)) j
    (λ i k. apart_clash s env o (first + i) (first + j) (apart_moved o env.variables (first + (0 + i)) (first + (0 + j)) (first + i) (first + j) (omega arith) (omega arith) (h 0 o i j refl k b)))))
    (apart_clashes s env orders (first + c) counts
    (λ sort ordered i j e k l.
    let all = sum_cons c (take sort counts) in
    apart_moved ordered env.variables (first + (sum (c ∷ take sort counts) + i)) (first + (sum (c ∷ take sort counts) + j)) ((first + c) + (sum (take sort counts) + i)) ((first + c) + (sum (take sort counts) + j)) (omega (arith, all)) (omega (arith, all)) (h (suc sort) ordered i j e k l)))
