-- Elements of lists that are seen as the model's.
use Rattle.std.proofs.Common.{◌≡◌, ◌≤◌, ◌<◌, ◌+◌, ℕ, List, get_or, length, take, map, sym, ◌∙◌, ap, arith, Vec}
use Rattle.std.specs.List.{flat_map, enumerate_from}
use Rattle.std.specs.declared.alloc.Global.{Global}
use Rattle.std.proofs.lemmas.List.{get_or-map, length-map, take_more, take_all}
use Rattle.std.proofs.lemmas.List.FromFn.{get_or-enumerate_from, length-enumerate_from}
use Rattle.dai_model.specs.Shapes.{tuples_below}
use Rattle.dai_model.proofs.Tuples.{ended, tuples_below-push}
use Rattle.dai_template.specs.Atoms.{lists_of}

pub list_at : (vs : List (Vec ℕ Global)) (i : ℕ) (v : Vec ℕ Global) → i < length vs → v ≡ get_or vs i v → v.items ≡ get_or (lists_of vs) i v.items
list_at vs i v below is = ap (λ (w : Vec ℕ Global). w.items) is ∙ sym (get_or-map (λ (w : Vec ℕ Global). w.items) vs i v v.items below)

pub lists_below : (vs : List (Vec ℕ Global)) (i : ℕ) → i < length vs → i < length (lists_of vs)
lists_below vs i below = let e = length-map vs (λ (w : Vec ℕ Global). w.items) in omega (arith, e, below)

pub enumerated_at : {X Y : Type 0} (f : X → Y) (xs : List X) (i : ℕ) (x : X) → i < length xs → x ≡ get_or xs i x → (let z : ℕ × Y = (i, f x) in z) ≡ get_or (enumerate_from 0 (map f xs)) i (i, f x)
enumerated_at f xs i x below is =
    let here : i < length (map f xs) = let e = length-map xs f in omega (arith, e, below) in
    let same : f x ≡ get_or (map f xs) i (f x) = ap f is ∙ sym (get_or-map f xs i x (f x) below) in
    let place : i ≡ 0 + i = omega arith in
    let first : (let z : ℕ × _ = (i, f x) in z) ≡ (0 + i, f x) = ap (λ (k : ℕ). let z : ℕ × _ = (k, f x) in z) place in
    let second : (let z : ℕ × _ = (0 + i, f x) in z) ≡ (0 + i, get_or (map f xs) i (f x)) = ap (λ y. let z : ℕ × _ = (0 + i, y) in z) same in
    first ∙ (second ∙ sym (get_or-enumerate_from 0 (map f xs) i (i, f x) here))

pub enumerated_below : {X Y : Type 0} (f : X → Y) (xs : List X) (i : ℕ) → i < length xs → i < length (enumerate_from 0 (map f xs))
enumerated_below f xs i below = let e = length-map xs f in let k = length-enumerate_from 0 (map f xs) in omega (arith, e, k, below)

pub enumerated_all : {X Y : Type 0} (f : X → Y) (xs : List X) (i : ℕ) → length xs ≤ i → take i (enumerate_from 0 (map f xs)) ≡ enumerate_from 0 (map f xs)
enumerated_all f xs i past = take_all i (enumerate_from 0 (map f xs)) (let e = length-map xs f in let k = length-enumerate_from 0 (map f xs) in omega (arith, e, k, past))

-- the tuples below one limit more
pub one_limit_more : (limits : List ℕ) (i d : ℕ) → i < length limits → flat_map (ended (get_or limits i d)) (tuples_below (take i limits)) ≡ tuples_below (take (i + 1) limits)
one_limit_more limits i d below = sym (tuples_below-push (take i limits) (get_or limits i d)) ∙ ap tuples_below (sym (take_more limits i d below))
