-- The types of a protocol, as the program has them and as the model has.
use Rattle.std.proofs.Common.{◌≡◌, ◌||◌, ◌+◌, ◌<◌, ◌≤◌, ℕ, zero, suc, Bool, true, false, Some, get_or, drop, if◌then◌else◌, List, [], ◌∷◌, length, map, ap, sym, ◌∙◌, refl, arith, length-append}
use Rattle.std.specs.Prelude.{find}
use Rattle.std.specs.Option.{option_map_or}
use Rattle.std.specs.List.{list_any}
use Rattle.dai_top.specs.Bounds.{same_name, bound_of}
use Rattle.dai_model.specs.Protocol.{Sort}
use Rattle.dai_model.specs.Clause.{numbers_below}
use Rattle.dai_logic.specs.Parts.{sort_of}
use Rattle.dai_logic.specs.declared.protocol.SortInfo.{SortInfo}

pub any_sort : (test : List ℕ → Bool) (sorts : List SortInfo) → list_any (λ (s : SortInfo). test s.name) sorts ≡ list_any (λ (T : Sort). test T.name) (map sort_of sorts)
any_sort test [] = refl
any_sort test (s ∷ ss) = ap (λ b. test s.name || b) (any_sort test ss)

pub each_sort : (f : List ℕ → ℕ) (sorts : List SortInfo) → map (λ (s : SortInfo). f s.name) sorts ≡ map (λ (T : Sort). f T.name) (map sort_of sorts)
each_sort f [] = refl
each_sort f (s ∷ ss) = ap (λ ns. f s.name ∷ ns) (each_sort f ss)

pub numbers_length : (n : ℕ) → length (numbers_below n) ≡ n
numbers_length zero = refl
numbers_length (suc n) =
    let rest = numbers_length n in
    let whole = length-append (numbers_below n) (n ∷ []) in
    omega (arith, rest, whole)

given_name : (test : List ℕ × ℕ → Bool) (given : List (List ℕ × ℕ)) (i : ℕ) (b : List ℕ × ℕ) → i < length given → b ≡ get_or given i b → drop i given ≡ b ∷ drop (i + 1) given
given_name test [] i b below is = absurd (omega arith)
given_name test (g ∷ gs) zero b below is = ap (λ x. x ∷ gs) (sym is)
given_name test (g ∷ gs) (suc i) b below is =
    let rest = given_name test gs i b (omega arith) is in
    let same : drop (suc i + 1) (g ∷ gs) ≡ drop (i + 1) gs = ap (λ n. drop n (g ∷ gs)) (let e : suc i + 1 ≡ suc (i + 1) = omega arith in e) in
    rest ∙ ap (λ ys. b ∷ ys) (sym same)

-- the bound here is that of the name, or is passed
pub bound_here : (given : List (List ℕ × ℕ)) (i : ℕ) (b : List ℕ × ℕ) (name : List ℕ) → i < length given → b ≡ get_or given i b → same_name name b.0 ≡ true → bound_of (drop i given) name ≡ b.1
bound_here given i b name below is same =
    ap (λ gs. bound_of gs name) (given_name (λ x. same_name name x.0) given i b below is)
    ∙ ap (λ t. option_map_or (λ (bound : List ℕ × ℕ). bound.1) (if t then Some b else find (λ (bound : List ℕ × ℕ). same_name name bound.0) (drop (i + 1) given)) 2) same

pub bound_passed : (given : List (List ℕ × ℕ)) (i : ℕ) (b : List ℕ × ℕ) (name : List ℕ) → i < length given → b ≡ get_or given i b → same_name name b.0 ≡ false → bound_of (drop i given) name ≡ bound_of (drop (i + 1) given) name
bound_passed given i b name below is other =
    ap (λ gs. bound_of gs name) (given_name (λ x. same_name name x.0) given i b below is)
    ∙ ap (λ t. option_map_or (λ (bound : List ℕ × ℕ). bound.1) (if t then Some b else find (λ (bound : List ℕ × ℕ). same_name name bound.0) (drop (i + 1) given)) 2) other

pub bound_none : (given : List (List ℕ × ℕ)) (i : ℕ) (name : List ℕ) → length given ≤ i → bound_of (drop i given) name ≡ 2
bound_none given i name past = ap (λ gs. bound_of gs name) (drop_past given i past)
  where
    drop_past : (xs : List (List ℕ × ℕ)) (n : ℕ) → length xs ≤ n → drop n xs ≡ []
    drop_past [] zero e = refl
    drop_past [] (suc n) e = refl
    drop_past (x ∷ xs) zero e = absurd (omega arith)
    drop_past (x ∷ xs) (suc n) e = drop_past xs n (omega arith)
