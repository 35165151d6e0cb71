-- Membership in lists that are made of others.
use Rattle.std.proofs.Common.{◌≡◌, ℕ, zero, suc, ◌+◌, ◌<◌, List, [], ◌∷◌, length, get_or, map, Option, None, Some, ap, sym, ◌∙◌, refl, subst, slice_get, arith}
use Rattle.std.specs.Prelude.{◌⊎◌}
use Rattle.std.specs.List.{Contains, filter_map, flat_map, enumerate_from, cons_option}
use Rattle.std.proofs.Common.{inl, inr, ⊎_elim}
use Rattle.std.proofs.lemmas.List.Elements.{Contains-append_left, Contains-append_right, Contains-append_cases}

pub not_in_nil : {X : Type 0} (y : X) → Contains [] y → ⊥
not_in_nil y h = let k = h.1 in omega arith

pub in_head : {X : Type 0} (x : X) (xs : List X) → Contains (x ∷ xs) x
in_head x xs = (0, omega arith, refl)

pub in_tail : {X : Type 0} (x : X) (xs : List X) (y : X) → Contains xs y → Contains (x ∷ xs) y
in_tail x xs y h = let k = h.1 in (suc h.0, omega arith, h.2)

at_cases : {X : Type 0} (x : X) (xs : List X) (y : X) (k : ℕ) → k < length (x ∷ xs) → get_or (x ∷ xs) k y ≡ y → (x ≡ y) ⊎ Contains xs y
at_cases x xs y zero h e = inl e
at_cases x xs y (suc k) h e = inr (k, omega (arith, h), e)

pub in_cases : {X : Type 0} (x : X) (xs : List X) (y : X) → Contains (x ∷ xs) y → (x ≡ y) ⊎ Contains xs y
in_cases x xs y h = at_cases x xs y h.0 h.1 h.2

pub in_map : {X Y : Type 0} (f : X → Y) (xs : List X) (x : X) → Contains xs x → Contains (map f xs) (f x)
in_map f [] x h = absurd (not_in_nil x h)
in_map f (y ∷ ys) x h = ⊎_elim (λ e. subst (λ z. Contains (f y ∷ map f ys) (f z)) e (in_head (f y) (map f ys))) (λ k. in_tail (f y) (map f ys) (f x) (in_map f ys x k)) (in_cases y ys x h)

pub from_map : {X Y : Type 0} (f : X → Y) (xs : List X) (y : Y) → Contains (map f xs) y → (x : X) × Contains xs x × (f x ≡ y)
from_map f [] y h = absurd (not_in_nil y h)
from_map f (x ∷ xs) y h = ⊎_elim (λ e. (x, in_head x xs, e)) (λ k. let w = from_map f xs y k in (w.0, in_tail x xs w.0 w.1, w.2)) (in_cases (f x) (map f xs) y h)

in_given : {Y : Type 0} (o : Option Y) (ys : List Y) (y : Y) → o ≡ Some y → Contains (cons_option o ys) y
in_given None ys y e = absurd (let k : ⊥ = cc in k)
in_given (Some z) ys y e = let k : z ≡ y = cc in subst (Contains (z ∷ ys)) k (in_head z ys)

in_further : {Y : Type 0} (o : Option Y) (ys : List Y) (y : Y) → Contains ys y → Contains (cons_option o ys) y
in_further None ys y h = h
in_further (Some z) ys y h = in_tail z ys y h

given_cases : {Y : Type 0} (o : Option Y) (ys : List Y) (y : Y) → Contains (cons_option o ys) y → (o ≡ Some y) ⊎ Contains ys y
given_cases None ys y h = inr h
given_cases (Some z) ys y h = ⊎_elim (λ e. inl (ap Some e)) inr (in_cases z ys y h)

pub in_filter_map : {X Y : Type 0} (f : X → Option Y) (xs : List X) (x : X) (y : Y) → Contains xs x → f x ≡ Some y → Contains (filter_map f xs) y
in_filter_map f [] x y h e = absurd (not_in_nil x h)
in_filter_map f (z ∷ zs) x y h e = ⊎_elim (λ s. in_given (f z) (filter_map f zs) y (ap f s ∙ e)) (λ k. in_further (f z) (filter_map f zs) y (in_filter_map f zs x y k e)) (in_cases z zs x h)

pub from_filter_map : {X Y : Type 0} (f : X → Option Y) (xs : List X) (y : Y) → Contains (filter_map f xs) y → (x : X) × Contains xs x × (f x ≡ Some y)
from_filter_map f [] y h = absurd (not_in_nil y h)
from_filter_map f (x ∷ xs) y h = ⊎_elim (λ e. (x, in_head x xs, e)) (λ k. let w = from_filter_map f xs y k in (w.0, in_tail x xs w.0 w.1, w.2)) (given_cases (f x) (filter_map f xs) y h)

pub in_flat_map : {X Y : Type 0} (f : X → List Y) (xs : List X) (x : X) (y : Y) → Contains xs x → Contains (f x) y → Contains (flat_map f xs) y
in_flat_map f [] x y h k = absurd (not_in_nil x h)
in_flat_map f (z ∷ zs) x y h k =
    ⊎_elim (λ e. Contains-append_left (f z) (flat_map f zs) y (subst (λ u. Contains (f u) y) (sym e) k)) (λ m. Contains-append_right (f z) (flat_map f zs) y (in_flat_map f zs x y m k)) (in_cases z zs x h)

pub from_flat_map : {X Y : Type 0} (f : X → List Y) (xs : List X) (y : Y) → Contains (flat_map f xs) y → (x : X) × Contains xs x × Contains (f x) y
from_flat_map f [] y h = absurd (not_in_nil y h)
from_flat_map f (x ∷ xs) y h =
    ⊎_elim (λ k. (x, in_head x xs, k)) (λ k. let w = from_flat_map f xs y k in (w.0, in_tail x xs w.0 w.1, w.2)) (Contains-append_cases (f x) (flat_map f xs) y h)

-- an element with its place
pub in_enumerated : {X : Type 0} (n : ℕ) (xs : List X) (i : ℕ) (x : X) → slice_get xs i ≡ Some x → Contains (enumerate_from n xs) (n + i, x)
in_enumerated n [] i x e = absurd (let k : ⊥ = cc in k)
in_enumerated n (y ∷ ys) zero x e =
    let k : y ≡ x = cc in
    let m : n ≡ n + 0 = omega arith in
    subst (λ p. Contains ((n, y) ∷ enumerate_from (n + 1) ys) (p, x)) m (subst (λ z. Contains ((n, y) ∷ enumerate_from (n + 1) ys) (n, z)) k (in_head (n, y) (enumerate_from (n + 1) ys)))
in_enumerated n (y ∷ ys) (suc i) x e =
    subst (λ m. Contains ((n, y) ∷ enumerate_from (n + 1) ys) (m, x)) (omega arith) (in_tail (n, y) (enumerate_from (n + 1) ys) ((n + 1) + i, x) (in_enumerated (n + 1) ys i x e))

pub from_enumerated : {X : Type 0} (n : ℕ) (xs : List X) (p : ℕ × X) → Contains (enumerate_from n xs) p → (i : ℕ) × (p.0 ≡ n + i) × (slice_get xs i ≡ Some p.1)
from_enumerated n [] p h = absurd (not_in_nil p h)
from_enumerated n (x ∷ xs) p h =
    ⊎_elim (λ e. (let k = ap (λ q. q.0) e in (0, omega (arith, k), ap (λ q. Some q.1) e))) (λ k. let w = from_enumerated (n + 1) xs p k in let d = w.1 in (suc w.0, omega (arith, d), w.2)) (in_cases (n, x) (enumerate_from (n + 1) xs) p h)
