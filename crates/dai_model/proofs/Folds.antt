-- Lists from their front or at their end, as loops go over them: what was done and what is left.
use Rattle.std.proofs.Common.{◌≡◌, ◌≤◌, ◌<◌, ◌*◌, ◌+◌, ◌^◌, ℕ, zero, suc, List, [], ◌∷◌, ◌++◌, length, get_or, drop, take, map, sym, ◌∙◌, ap, subst, refl, arith, append_assoc, inl, inr, ◌⊎◌}
use Rattle.std.specs.Prelude.{sum_by}
use Rattle.std.specs.List.{All, flat_map, enumerate_from}
use Rattle.std.specs.Coded.{le_prop}
use Rattle.std.proofs.Math.Logic.{∥∥₁_elim}
use Rattle.std.proofs.lemmas.Bool.{cases_lt}
use Rattle.std.proofs.lemmas.List.{drop_more, at_drop_all, take_more, get_or-map, length-map, map_push, map-append, append-nil, get_or_append_left, get_or_push, length_push}
use Rattle.std.proofs.lemmas.List.Concat.{flat_map-append}
use Rattle.std.proofs.lemmas.List.Sums.{sum_by-cons}
use Rattle.std.proofs.Math.Nat.{mul-le-mul, mul_assoc, pow-suc, pow-le-pow_left, pow-le-pow_right}
use Rattle.dai_model.specs.Clause.{numbers_below}
use Rattle.dai_model.specs.Limits.{product}

-- an order that follows from a truncated fact
pub le_from : {A : Type 0} (m n : ℕ) → ∥ A ∥₁ → (A → m ≤ n) → m ≤ n
le_from m n h f = ∥∥₁_elim h le_prop f

-- what all of a mapped list are, at a place of the list
pub mapped_at : {X Y : Type 0} (P : Y → Type 0) (f : X → Y) (xs : List X) (i : ℕ) (x : X) → All P (map f xs) → i < length xs → x ≡ get_or xs i x → P (f x)
mapped_at P f xs i x all below is =
    let here : i < length (map f xs) = let k = length-map xs f in omega (arith, k, below) in
    subst P (get_or-map f xs i x (f x) below ∙ ap f (sym is)) (all i (f x) here)

pub product_step : (f : ℕ → ℕ) (xs : List ℕ) (i x total here whole : ℕ) → i < length xs → x ≡ get_or xs i x → here ≡ f x → total * product (map f (drop i xs)) ≡ whole → (total * here) * product (map f (drop (i + 1) xs)) ≡ whole
product_step f xs i x total here whole below is h k =
    let split : product (map f (drop i xs)) ≡ f x * product (map f (drop (i + 1) xs)) = ap (λ ys. product (map f ys)) (drop_more xs i x below) ∙ ap (λ y. f y * product (map f (drop (i + 1) xs))) (sym is) in
    mul_assoc total here (product (map f (drop (i + 1) xs))) ∙ (ap (λ n. total * (n * product (map f (drop (i + 1) xs)))) h ∙ (ap (λ n. total * n) (sym split) ∙ k))

pub product_end : (f : ℕ → ℕ) (xs : List ℕ) (i total whole : ℕ) → length xs ≤ i → total * product (map f (drop i xs)) ≡ whole → total ≡ whole
product_end f xs i total whole past k =
    let none : product (map f (drop i xs)) ≡ 1 = at_drop_all (λ ys. product (map f ys)) xs i past in
    let one : total * product (map f (drop i xs)) ≡ total * 1 = ap (λ n. total * n) none in
    omega (arith, one, k)

-- one factor more of at most b
pub power_more : (b i total here : ℕ) → total ≤ b ^ i → here ≤ b → total * here ≤ b ^ (i + 1)
power_more b i total here h small =
    let e : b ^ (i + 1) ≡ b ^ i * b = ap (λ n. b ^ n) (let next : i + 1 ≡ suc i = omega arith in next) ∙ pow-suc b i in
    subst (λ n. total * here ≤ n) (sym e) (mul-le-mul h small)

pub power_below : (b i most total : ℕ) → 0 < b → i ≤ most → total ≤ b ^ i → total ≤ b ^ most
power_below b i most total above h k = let up : b ^ i ≤ b ^ most = pow-le-pow_right {n = b} above {i = i} {j = most} h in omega (arith, up, k)

-- a size below 2^8 to a power
pub size_power : (size count most : ℕ) → size < 2 ^ 8 → count ≤ most → size ^ count ≤ 256 ^ most
size_power size count most h k =
    let left : size ^ count ≤ 256 ^ count = pow-le-pow_left {n = size} {m = 256} (omega arith) count in
    let right : 256 ^ count ≤ 256 ^ most = pow-le-pow_right {n = 256} (omega arith) {i = count} {j = most} k in
    omega (arith, left, right)

pub sum_step : {X : Type 0} (f : X → ℕ) (xs : List X) (i : ℕ) (x : X) (total here whole : ℕ) → i < length xs → x ≡ get_or xs i x → here ≡ f x → total + sum_by f (drop i xs) ≡ whole → (total + here) + sum_by f (drop (i + 1) xs) ≡ whole
sum_step f xs i x total here whole below is h k =
    let split : sum_by f (drop i xs) ≡ f x + sum_by f (drop (i + 1) xs) = ap (sum_by f) (drop_more xs i x below) ∙ (sum_by-cons f (get_or xs i x) (drop (i + 1) xs) ∙ ap (λ y. f y + sum_by f (drop (i + 1) xs)) (sym is)) in
    omega (arith, split, h, k)

pub sum_end : {X : Type 0} (f : X → ℕ) (xs : List X) (i total whole : ℕ) → length xs ≤ i → total + sum_by f (drop i xs) ≡ whole → total ≡ whole
sum_end f xs i total whole past k = let none : sum_by f (drop i xs) ≡ 0 = at_drop_all (sum_by f) xs i past in omega (arith, none, k)

pub sum_by-map : {X Y : Type 0} (f : Y → ℕ) (g : X → Y) (xs : List X) → sum_by f (map g xs) ≡ sum_by (λ x. f (g x)) xs
sum_by-map f g [] = refl
sum_by-map f g (x ∷ xs) = sum_by-cons f (g x) (map g xs) ∙ (ap (λ n. f (g x) + n) (sum_by-map f g xs) ∙ sym (sum_by-cons (λ x. f (g x)) x xs))

-- so many things of at most this size each
pub total_more : (i total here most : ℕ) → total ≤ i * most → here ≤ most → total + here ≤ (i + 1) * most
total_more i total here most h k = let e : (i + 1) * most ≡ i * most + most = omega arith in omega (arith, e, h, k)

pub total_within : (i n total most : ℕ) → i ≤ n → total ≤ i * most → total ≤ n * most
total_within i n total most h k = let up : i * most ≤ n * most = mul-le-mul h (let same : most ≤ most = omega arith in same) in omega (arith, up, k)

-- the numbers below a bound
pub numbers_below-length : (n : ℕ) → length (numbers_below n) ≡ n
numbers_below-length zero = refl
numbers_below-length (suc n) = let k = numbers_below-length n in let e = length_push (numbers_below n) n in omega (arith, k, e)

last_number : (n k d : ℕ) → k < suc n → (k < n → get_or (numbers_below n) k d ≡ k) → (k < n) ⊎ (n ≤ k) → get_or (numbers_below n ++ n ∷ []) k d ≡ k
last_number n k d h rec (inl below) = get_or_append_left (numbers_below n) (n ∷ []) d k (let e = numbers_below-length n in omega (arith, e)) ∙ rec below
last_number n k d h rec (inr last) =
    let e = numbers_below-length n in
    let same : k ≡ n = omega arith in
    get_or_push (numbers_below n) n d k (omega (arith, e, same)) ∙ sym same

pub numbers_below-at : (n k d : ℕ) → k < n → get_or (numbers_below n) k d ≡ k
numbers_below-at zero k d h = absurd (omega arith)
numbers_below-at (suc n) k d h = last_number n k d h (λ below. numbers_below-at n k d below) (cases_lt k n)

pub numbers_more : (n : ℕ) → numbers_below (n + 1) ≡ numbers_below n ++ n ∷ []
numbers_more n = ap numbers_below (let next : n + 1 ≡ suc n = omega arith in next)

-- one element more at the end of a vector whose elements are seen so
pub pushed_number : {X Y : Type 0} (view : X → Y) (f : ℕ → Y) (n : ℕ) (start : List Y) (xs ys : List X) (x : X) → ys ≡ xs ++ x ∷ [] → view x ≡ f n → map view xs ≡ start ++ map f (numbers_below n) → map view ys ≡ start ++ map f (numbers_below (n + 1))
pushed_number view f n start xs ys x e h k =
    ap (map view) e
    ∙ (map_push view xs x
    ∙ (ap (λ vs. vs ++ view x ∷ []) k
    ∙ (ap (λ v. (start ++ map f (numbers_below n)) ++ v ∷ []) h
    ∙ (append_assoc start (map f (numbers_below n)) (f n ∷ [])
    ∙ ap (λ vs. start ++ vs) (sym (map_push f (numbers_below n) n) ∙ ap (map f) (sym (numbers_more n)))))))

pub pushed_item : {X Y Z : Type 0} (view : X → Y) (f : Z → Y) (zs : List Z) (i : ℕ) (z : Z) (start : List Y) (xs ys : List X) (x : X) → ys ≡ xs ++ x ∷ [] → i < length zs → z ≡ get_or zs i z → view x ≡ f z → map view xs ≡ start ++ map f (take i zs) → map view ys ≡ start ++ map f (take (i + 1) zs)
pushed_item view f zs i z start xs ys x e below is h k =
    let next : take i zs ++ z ∷ [] ≡ take (i + 1) zs = ap (λ w. take i zs ++ w ∷ []) is ∙ sym (take_more zs i z below) in
    ap (map view) e
    ∙ (map_push view xs x
    ∙ (ap (λ vs. vs ++ view x ∷ []) k
    ∙ (ap (λ v. (start ++ map f (take i zs)) ++ v ∷ []) h
    ∙ (append_assoc start (map f (take i zs)) (f z ∷ [])
    ∙ ap (λ vs. start ++ vs) (sym (map_push f (take i zs) z) ∙ ap (map f) next)))))

-- one part more of a list that is made of parts
pub appended_part : {Y Z : Type 0} (f : Z → List Y) (zs : List Z) (i : ℕ) (z : Z) (start now later : List Y) → i < length zs → z ≡ get_or zs i z → later ≡ now ++ f z → now ≡ start ++ flat_map f (take i zs) → later ≡ start ++ flat_map f (take (i + 1) zs)
appended_part f zs i z start now later below is e k =
    let next : take i zs ++ z ∷ [] ≡ take (i + 1) zs = ap (λ w. take i zs ++ w ∷ []) is ∙ sym (take_more zs i z below) in
    let one : flat_map f (take i zs) ++ f z ≡ flat_map f (take i zs ++ z ∷ []) = ap (λ ys. flat_map f (take i zs) ++ ys) (sym (append-nil (f z))) ∙ sym (flat_map-append f (take i zs) (z ∷ [])) in
    e ∙ (ap (λ ys. ys ++ f z) k ∙ (append_assoc start (flat_map f (take i zs)) (f z) ∙ ap (λ ys. start ++ ys) (one ∙ ap (flat_map f) next)))

pub flat_map-cong : {X Y : Type 0} (f g : X → List Y) (xs : List X) → ((x : X) → f x ≡ g x) → flat_map f xs ≡ flat_map g xs
flat_map-cong f g [] h = refl
flat_map-cong f g (x ∷ xs) h = ap (λ ys. ys ++ flat_map f xs) (h x) ∙ ap (λ ys. g x ++ ys) (flat_map-cong f g xs h)

pub map-flat_map : {X Y Z : Type 0} (h : Y → Z) (f : X → List Y) (xs : List X) → map h (flat_map f xs) ≡ flat_map (λ x. map h (f x)) xs
map-flat_map h f [] = refl
map-flat_map h f (x ∷ xs) = map-append h (f x) (flat_map f xs) ∙ ap (λ ys. map h (f x) ++ ys) (map-flat_map h f xs)

pub flat_map-map : {X Y Z : Type 0} (f : Y → List Z) (h : X → Y) (xs : List X) → flat_map f (map h xs) ≡ flat_map (λ x. f (h x)) xs
flat_map-map f h [] = refl
flat_map-map f h (x ∷ xs) = ap (λ ys. f (h x) ++ ys) (flat_map-map f h xs)

pub flat_map-flat_map : {X Y Z : Type 0} (f : Y → List Z) (g : X → List Y) (xs : List X) → flat_map f (flat_map g xs) ≡ flat_map (λ x. flat_map f (g x)) xs
flat_map-flat_map f g [] = refl
flat_map-flat_map f g (x ∷ xs) = flat_map-append f (g x) (flat_map g xs) ∙ ap (λ ys. flat_map f (g x) ++ ys) (flat_map-flat_map f g xs)

pub map-map : {X Y Z : Type 0} (f : Y → Z) (g : X → Y) (xs : List X) → map f (map g xs) ≡ map (λ x. f (g x)) xs
map-map f g [] = refl
map-map f g (x ∷ xs) = ap (λ ys. f (g x) ∷ ys) (map-map f g xs)

pub map-cong : {X Y : Type 0} (f g : X → Y) (xs : List X) → ((x : X) → f x ≡ g x) → map f xs ≡ map g xs
map-cong f g [] h = refl
map-cong f g (x ∷ xs) h = ap (λ y. y ∷ map f xs) (h x) ∙ ap (λ ys. g x ∷ ys) (map-cong f g xs h)

pub enumerate_push : {X : Type 0} (n : ℕ) (xs : List X) (x : X) → enumerate_from n (xs ++ x ∷ []) ≡ enumerate_from n xs ++ (n + length xs, x) ∷ []
enumerate_push n [] x = ap (λ (k : ℕ). let here : ℕ × _ = (k, x) in here ∷ []) (let same : n ≡ n + 0 = omega arith in same)
enumerate_push n (y ∷ ys) x =
    let next : (n + 1) + length ys ≡ n + suc (length ys) = omega arith in
    ap (λ zs. (n, y) ∷ zs) (enumerate_push (n + 1) ys x ∙ ap (λ (k : ℕ). enumerate_from (n + 1) ys ++ (k, x) ∷ []) next)

-- one number more of a list that is made of parts
pub appended_number : {Y : Type 0} (f : ℕ → List Y) (n : ℕ) (now later : List Y) → later ≡ now ++ f n → now ≡ flat_map f (numbers_below n) → later ≡ flat_map f (numbers_below (n + 1))
appended_number f n now later e k =
    e ∙ (ap (λ ys. ys ++ f n) k ∙ (ap (λ ys. flat_map f (numbers_below n) ++ ys) (sym (append-nil (f n))) ∙ (sym (flat_map-append f (numbers_below n) (n ∷ [])) ∙ ap (flat_map f) (sym (numbers_more n)))))
