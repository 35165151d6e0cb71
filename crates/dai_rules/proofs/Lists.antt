-- Lists with one more element at the end, and the front of a list.
use Rattle.std.proofs.Common.{◌≡◌, ℕ, ◌+◌, ◌<◌, ◌≤◌, Bool, true, false, cond, List, [], ◌∷◌, ◌++◌, length, get_or, take, drop, map, Option, None, Some, filter, ap, sym, ◌∙◌, refl, subst, zero, suc, arith, length-append, append_assoc, add-one, drop-cons}
use Rattle.std.specs.Prelude.{find}
use Rattle.std.specs.List.{All, AllZip, filter_map, cons_option, enumerate_from}
use Rattle.std.proofs.lemmas.List.{take_more, map-append, take-append-drop}
use Rattle.std.proofs.lemmas.List.Elements.{filter_map-append, filter-append, All-take}
use Rattle.std.proofs.Math.Seq.{take-append_seam, drop-nil}

pub append_nil : {X : Type 0} (xs : List X) → xs ++ [] ≡ xs
append_nil [] = refl
append_nil (x ∷ xs) = ap (λ ys. x ∷ ys) (append_nil xs)

pub filter_map-gains : {X Y : Type 0} (h : X → Option Y) (xs : List X) (x : X) (y : Y) → h x ≡ Some y → filter_map h (xs ++ x ∷ []) ≡ filter_map h xs ++ y ∷ []
filter_map-gains h xs x y e = filter_map-append h xs (x ∷ []) ∙ ap (λ o. filter_map h xs ++ cons_option o []) e

pub filter_map-passes : {X Y : Type 0} (h : X → Option Y) (xs : List X) (x : X) → h x ≡ None → filter_map h (xs ++ x ∷ []) ≡ filter_map h xs
filter_map-passes h xs x e = filter_map-append h xs (x ∷ []) ∙ ap (λ o. filter_map h xs ++ cons_option o []) e ∙ append_nil (filter_map h xs)

pub length-filter_map-front : {X Y : Type 0} (h : X → Option Y) (xs ys : List X) → length (filter_map h xs) ≤ length (filter_map h (xs ++ ys))
length-filter_map-front h xs ys =
    let e = ap length (filter_map-append h xs ys) in
    let k = length-append (filter_map h xs) (filter_map h ys) in
    omega arith

pub filter-gains : {X : Type 0} (p : X → Bool) (xs : List X) (x : X) → p x ≡ true → filter p (xs ++ x ∷ []) ≡ filter p xs ++ x ∷ []
filter-gains p xs x e = filter-append p xs (x ∷ []) ∙ ap (λ b. filter p xs ++ cond b (x ∷ []) []) e

pub filter-passes : {X : Type 0} (p : X → Bool) (xs : List X) (x : X) → p x ≡ false → filter p (xs ++ x ∷ []) ≡ filter p xs
filter-passes p xs x e = filter-append p xs (x ∷ []) ∙ ap (λ b. filter p xs ++ cond b (x ∷ []) []) e ∙ append_nil (filter p xs)

pub AllZip-gains : {X Y : Type 0} (R : X → Y → Type 0) (xs : List X) (ys : List Y) (x : X) (y : Y) → AllZip R xs ys → R x y → AllZip R (xs ++ x ∷ []) (ys ++ y ∷ [])
AllZip-gains R [] [] x y h r = (r, tt)
AllZip-gains R [] (b ∷ ys) x y h r = absurd h
AllZip-gains R (a ∷ xs) [] x y h r = absurd h
AllZip-gains R (a ∷ xs) (b ∷ ys) x y h r = (h.0, AllZip-gains R xs ys x y h.1 r)

pub length-AllZip : {X Y : Type 0} (R : X → Y → Type 0) (xs : List X) (ys : List Y) → AllZip R xs ys → length xs ≡ length ys
length-AllZip R [] [] h = refl
length-AllZip R [] (b ∷ ys) h = absurd h
length-AllZip R (a ∷ xs) [] h = absurd h
length-AllZip R (a ∷ xs) (b ∷ ys) h = let e = length-AllZip R xs ys h.1 in omega arith

pub enumerate_from-gains : {X : Type 0} (n : ℕ) (xs : List X) (x : X) → enumerate_from n (xs ++ x ∷ []) ≡ enumerate_from n xs ++ (n + length xs, x) ∷ []
enumerate_from-gains n [] x = let e : n ≡ n + 0 = omega arith in ap (λ k. (k, x) ∷ []) e
enumerate_from-gains n (y ∷ xs) x =
    let e : (n + 1) + length xs ≡ n + length (y ∷ xs) = omega arith in
    ap (λ rest. (n, y) ∷ rest) (enumerate_from-gains (n + 1) xs x ∙ ap (λ k. enumerate_from (n + 1) xs ++ (k, x) ∷ []) e)

-- the front of a list and the element after it, by any function of the elements
pub map-take_more : {X Y : Type 0} (f : X → Y) (xs : List X) (i : ℕ) (x : X) → i < length xs → x ≡ get_or xs i x → map f (take (i + 1) xs) ≡ map f (take i xs) ++ f x ∷ []
map-take_more f xs i x below is = ap (map f) (take_more xs i x below ∙ ap (λ y. take i xs ++ y ∷ []) (sym is)) ∙ map-append f (take i xs) (x ∷ [])

-- a list goes on after its front and one more element
pub goes_on : {X Y : Type 0} (f : X → Y) (xs : List X) (i : ℕ) (x : X) → i < length xs → x ≡ get_or xs i x → map f xs ≡ (map f (take i xs) ++ f x ∷ []) ++ map f (drop (i + 1) xs)
goes_on f xs i x below is =
    ap (map f) (sym (take-append-drop (i + 1) xs)) ∙ map-append f (take (i + 1) xs) (drop (i + 1) xs) ∙ ap (λ ys. ys ++ map f (drop (i + 1) xs)) (map-take_more f xs i x below is)

-- a list around the element at a place
pub splits_at : {X : Type 0} (xs : List X) (i : ℕ) (x : X) → i < length xs → x ≡ get_or xs i x → xs ≡ take i xs ++ (x ∷ drop (i + 1) xs)
splits_at xs i x below is =
    sym (take-append-drop (i + 1) xs) ∙ ap (λ ys. ys ++ drop (i + 1) xs) (take_more xs i x below ∙ ap (λ y. take i xs ++ y ∷ []) (sym is)) ∙ append_assoc (take i xs) (x ∷ []) (drop (i + 1) xs)

pub All-front : {X : Type 0} (P : X → Type 0) (xs ys : List X) → All P (xs ++ ys) → All P xs
All-front P xs ys h =
    let front : take (length xs) (xs ++ ys) ≡ xs = take-append_seam xs ys in
    subst (All P) front (All-take P (length xs) (xs ++ ys) h)

pub nil_by_length : {X : Type 0} (xs : List X) → length xs ≡ 0 → xs ≡ []
nil_by_length [] e = refl
nil_by_length (x ∷ xs) e = absurd (omega arith)

-- what is left of a list from the element at a place on
pub drop_at : {X : Type 0} (xs : List X) (i : ℕ) (x : X) → i < length xs → x ≡ get_or xs i x → drop i xs ≡ x ∷ drop (i + 1) xs
drop_at xs i x below is = rw (add-one, drop-cons xs i x) (ap (λ y. y ∷ drop (suc i) xs) (sym is))

found_front : {X : Type 0} (p : X → Bool) (b : Bool) (x y : X) (o r : Option X) → (o ≡ Some y → r ≡ Some y) → cond b (Some x) o ≡ Some y → cond b (Some x) r ≡ Some y
found_front p true x y o r further h = h
found_front p false x y o r further h = further h

pub find-append_found : {X : Type 0} (p : X → Bool) (xs ys : List X) (y : X) → find p xs ≡ Some y → find p (xs ++ ys) ≡ Some y
find-append_found p [] ys y h = absurd (let k : ⊥ = cc in k)
find-append_found p (x ∷ xs) ys y h = found_front p (p x) x y (find p xs) (find p (xs ++ ys)) (find-append_found p xs ys y) h

absent_front : {X : Type 0} (b : Bool) (x : X) (o r s : Option X) → (o ≡ None → r ≡ s) → cond b (Some x) o ≡ None → cond b (Some x) r ≡ s
absent_front true x o r s further h = absurd (let k : ⊥ = cc in k)
absent_front false x o r s further h = further h

pub find-append_absent : {X : Type 0} (p : X → Bool) (xs ys : List X) → find p xs ≡ None → find p (xs ++ ys) ≡ find p ys
find-append_absent p [] ys h = refl
find-append_absent p (x ∷ xs) ys h = absent_front (p x) x (find p xs) (find p (xs ++ ys)) (find p ys) (find-append_absent p xs ys) h

drop_suc : {X : Type 0} (xs : List X) (i : ℕ) → drop (suc i) xs ≡ drop 1 (drop i xs)
drop_suc [] zero = refl
drop_suc [] (suc i) = sym (ap (λ ys. drop 1 ys) (drop-nil (suc i)))
drop_suc (x ∷ xs) zero = refl
drop_suc (x ∷ xs) (suc i) = drop_suc xs i

pub drop_next : {X : Type 0} (xs : List X) (i : ℕ) → drop (i + 1) xs ≡ drop 1 (drop i xs)
drop_next xs i = rw add-one (drop_suc xs i)

pub take_at : {X : Type 0} (xs : List X) (i : ℕ) (x : X) → i < length xs → x ≡ get_or xs i x → take (i + 1) xs ≡ take i xs ++ x ∷ []
take_at xs i x below is = take_more xs i x below ∙ ap (λ y. take i xs ++ y ∷ []) (sym is)

pub drop_from : {X : Type 0} (xs : List X) (i : ℕ) (d : X) → i < length xs → drop i xs ≡ get_or xs i d ∷ drop (i + 1) xs
drop_from xs i d below = rw (add-one, drop-cons xs i d) refl
