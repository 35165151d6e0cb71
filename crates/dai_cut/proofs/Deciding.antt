-- Whether one clause is below another is decided by a search of the injections.
use Rattle.std.proofs.Common.{◌≡◌, ◌<◌, ◌≤◌, ◌+◌, get_or, length, ℕ, zero, suc, Bool, true, false, List, [], ◌∷◌, Option, Some, None, ap, subst, refl, arith, inl, inr, ◌⊎◌}
use Rattle.std.specs.Prelude.{nat_eq, slice_get, slice_index}
use Rattle.std.specs.List.{Contains}
use Rattle.std.proofs.lemmas.Bool.Decides.{nat_tests}
use Rattle.std.proofs.lemmas.Bool.{cases_lt}
use Rattle.dai_model.specs.Protocol.{Protocol, Sort}
use Rattle.dai_model.specs.Placement.{Apart, IsPlacement, of_sort, ArePlacements}
use Rattle.dai_model.specs.Clause.{Variable, Atom, tuple, is_individual, Clause, Literal, literals_of}
use Rattle.dai_model.specs.Subsumption.{image_of, Subsumes}
use Rattle.dai_model.proofs.Typed.{slice_get-length}
use Rattle.dai_model.proofs.Below.{Each, slice_get-some}
use Rattle.dai_model.proofs.Within.{Among}
use Rattle.dai_model.proofs.ShapeAtoms.{contained}
use Rattle.dai_cut.proofs.Embedded.{some_equal}

pub data Decision (A : Type 0) : Type 0 where
  affirmed : A → Decision A
  denied : (A → ⊥) → Decision A

decided_as : {A B : Type 0} → (A → B) → (B → A) → Decision A → Decision B
decided_as to from (affirmed a) = affirmed (to a)
decided_as to from (denied n) = denied (λ b. n (from b))

decide_both : {A B : Type 0} → Decision A → Decision B → Decision (A × B)
decide_both (affirmed a) (affirmed b) = affirmed (a, b)
decide_both (affirmed a) (denied n) = denied (λ p. n p.1)
decide_both (denied n) d = denied (λ p. n p.0)

decide_if : {A B : Type 0} → Decision A → Decision B → Decision (A → B)
decide_if (affirmed a) (affirmed b) = affirmed (λ x. b)
decide_if (affirmed a) (denied n) = denied (λ f. n (f a))
decide_if (denied n) d = affirmed (λ a. absurd (n a))

decide_not : {A : Type 0} → Decision A → Decision (A → ⊥)
decide_not (affirmed a) = denied (λ n. n a)
decide_not (denied n) = affirmed n

-- numbers
decide_less : (m n : ℕ) → Decision (m < n)
decide_less m n = by_order (cases_lt m n)
  where
    by_order : (m < n) ⊎ (n ≤ m) → Decision (m < n)
    by_order (inl h) = affirmed h
    by_order (inr h) = denied (λ k. omega (arith, h, k))

decide_equal : (m n : ℕ) → Decision (m ≡ n)
decide_equal m n = by_test (nat_eq m n) refl
  where
    by_test : (b : Bool) → nat_eq m n ≡ b → Decision (m ≡ n)
    by_test true h = affirmed (grind (arith, nat_tests))
    by_test false h = denied (λ e. grind (arith, nat_tests))

decide_same : (a b : Bool) → Decision (a ≡ b)
decide_same true true = affirmed refl
decide_same false false = affirmed refl
decide_same true false = denied (λ e. let n : ⊥ = cc in n)
decide_same false true = denied (λ e. let n : ⊥ = cc in n)

-- some number, or each number, below a bound
some_next : (n : ℕ) (Q : ℕ → Type 0) → Decision ((e : ℕ) × (e < n) × Q e) → Decision (Q n) → Decision ((e : ℕ) × (e < suc n) × Q e)
some_next n Q (affirmed found) last = affirmed (found.0, (let k = found.1 in omega (arith, k)), found.2)
some_next n Q (denied none) (affirmed q) = affirmed (n, omega arith, q)
some_next n Q (denied none) (denied m) = denied (λ found. by_order found.0 found.2 (let k = found.1 in k) (cases_lt found.0 n))
  where
    by_order : (e : ℕ) → Q e → e < suc n → (e < n) ⊎ (n ≤ e) → ⊥
    by_order e q below (inl before) = none (e, before, q)
    by_order e q below (inr after) = m (subst Q (let k : e ≡ n = omega (arith, below, after) in k) q)

decide_some : (n : ℕ) (Q : ℕ → Type 0) → ((e : ℕ) → Decision (Q e)) → Decision ((e : ℕ) × (e < n) × Q e)
decide_some zero Q each = denied (λ found. let k = found.1 in omega (arith, k))
decide_some (suc n) Q each = some_next n Q (decide_some n Q each) (each n)

each_next : (n : ℕ) (Q : ℕ → Type 0) → Decision ((e : ℕ) → e < n → Q e) → Decision (Q n) → Decision ((e : ℕ) → e < suc n → Q e)
each_next n Q (denied m) last = denied (λ all. m (λ e below. all e (omega (arith, below))))
each_next n Q (affirmed before) (denied m) = denied (λ all. m (all n (omega arith)))
each_next n Q (affirmed before) (affirmed q) = affirmed (λ e below. by_order e below (cases_lt e n))
  where
    by_order : (e : ℕ) → e < suc n → (e < n) ⊎ (n ≤ e) → Q e
    by_order e below (inl lower) = before e lower
    by_order e below (inr after) = subst Q (let k : n ≡ e = omega (arith, below, after) in k) q

decide_each : (n : ℕ) (Q : ℕ → Type 0) → ((e : ℕ) → Decision (Q e)) → Decision ((e : ℕ) → e < n → Q e)
decide_each zero Q each = affirmed (λ e below. absurd (omega (arith, below)))
decide_each (suc n) Q each = each_next n Q (decide_each n Q each) (each n)

-- lists of so many numbers below a size
abbrev AreNumbers : ℕ → ℕ → List ℕ → Type 0
AreNumbers zero size [] = Unit {0}
AreNumbers zero size (x ∷ xs) = ⊥
AreNumbers (suc count) size [] = ⊥
AreNumbers (suc count) size (x ∷ xs) = (x < size) × AreNumbers count size xs

decide_numbers : (count size : ℕ) (Q : List ℕ → Type 0) → ((xs : List ℕ) → Decision (Q xs)) → Decision ((xs : List ℕ) × AreNumbers count size xs × Q xs)
decide_numbers zero size Q each = decided_as (λ q. ([], tt, q)) none_but_empty (each [])
  where
    none_but_empty : ((xs : List ℕ) × AreNumbers zero size xs × Q xs) → Q []
    none_but_empty ([], k, q) = q
    none_but_empty (x ∷ xs, k, q) = absurd k
decide_numbers (suc count) size Q each =
    decided_as
    (λ found. (found.0 ∷ found.2.0, (found.1, found.2.1), found.2.2))
    first_and_rest
    (decide_some size (λ e. (xs : List ℕ) × AreNumbers count size xs × Q (e ∷ xs)) (λ e. decide_numbers count size (λ xs. Q (e ∷ xs)) (λ xs. each (e ∷ xs))))
  where
    first_and_rest : ((xs : List ℕ) × AreNumbers (suc count) size xs × Q xs) → (e : ℕ) × (e < size) × ((xs : List ℕ) × AreNumbers count size xs × Q (e ∷ xs))
    first_and_rest ([], k, q) = absurd k
    first_and_rest (x ∷ xs, k, q) = (x, k.0, (xs, k.1, q))

-- one such list for each type, from type k on
abbrev AreLists : (ℕ → ℕ) → (ℕ → ℕ) → ℕ → ℕ → List (List ℕ) → Type 0
AreLists count size k zero [] = Unit {0}
AreLists count size k zero (xs ∷ lists) = ⊥
AreLists count size k (suc n) [] = ⊥
AreLists count size k (suc n) (xs ∷ lists) = AreNumbers (count k) (size k) xs × AreLists count size (suc k) n lists

decide_lists : (count size : ℕ → ℕ) (k n : ℕ) (Q : List (List ℕ) → Type 0) → ((lists : List (List ℕ)) → Decision (Q lists)) → Decision ((lists : List (List ℕ)) × AreLists count size k n lists × Q lists)
decide_lists count size k zero Q each = decided_as (λ q. ([], tt, q)) none_but_empty (each [])
  where
    none_but_empty : ((lists : List (List ℕ)) × AreLists count size k zero lists × Q lists) → Q []
    none_but_empty ([], h, q) = q
    none_but_empty (xs ∷ lists, h, q) = absurd h
decide_lists count size k (suc n) Q each =
    decided_as
    (λ found. (found.0 ∷ found.2.0, (found.1, found.2.1), found.2.2))
    first_and_rest
    (decide_numbers (count k) (size k) (λ xs. (lists : List (List ℕ)) × AreLists count size (suc k) n lists × Q (xs ∷ lists)) (λ xs. decide_lists count size (suc k) n (λ lists. Q (xs ∷ lists)) (λ lists. each (xs ∷ lists))))
  where
    first_and_rest : ((lists : List (List ℕ)) × AreLists count size k (suc n) lists × Q lists) → (xs : List ℕ) × AreNumbers (count k) (size k) xs × ((lists : List (List ℕ)) × AreLists count size (suc k) n lists × Q (xs ∷ lists))
    first_and_rest ([], h, q) = absurd h
    first_and_rest (xs ∷ lists, h, q) = (xs, h.0, (lists, h.1, q))

-- placements
decide_apart : (ordered : Bool) (d e : ℕ) → Decision (Apart ordered d e)
decide_apart true d e = decide_less d e
decide_apart false d e = decide_not (decide_equal d e)

decide_placement : (ordered : Bool) (count size : ℕ) (xs : List ℕ) → Decision (IsPlacement ordered count size xs)
decide_placement ordered count size xs =
    decided_as
    (λ h. record { one_each = h.0; inside = h.1.0; apart = λ i j before below. h.1.1 j below i before })
    (λ p. (p.one_each, (p.inside, (λ j below i before. p.apart i j before below))))
    (decide_both (decide_equal (length xs) count)
    (decide_both (decide_each count (λ i. slice_index xs i < size) (λ i. decide_less (slice_index xs i) size))
    (decide_each count (λ j. (i : ℕ) → i < j → Apart ordered (slice_index xs i) (slice_index xs j)) (λ j. decide_each j (λ i. Apart ordered (slice_index xs i) (slice_index xs j)) (λ i. decide_apart ordered (slice_index xs i) (slice_index xs j))))))

decide_type : (counts sizes : List ℕ) (elements : List (List ℕ)) (sort : ℕ) (o : Option Sort) → Decision ((T : Sort) → o ≡ Some T → IsPlacement T.ordered (slice_index counts sort) (slice_index sizes sort) (of_sort elements sort))
decide_type counts sizes elements sort None = affirmed (λ T h. absurd (let n : ⊥ = cc in n))
decide_type counts sizes elements sort (Some S) =
    decided_as
    (λ p T h. subst (λ (U : Sort). IsPlacement U.ordered (slice_index counts sort) (slice_index sizes sort) (of_sort elements sort)) (some_equal S T h) p)
    (λ all. all S refl)
    (decide_placement S.ordered (slice_index counts sort) (slice_index sizes sort) (of_sort elements sort))

decide_placements : (P : Protocol) (counts sizes : List ℕ) (elements : List (List ℕ)) → Decision (ArePlacements P counts sizes elements)
decide_placements P counts sizes elements =
    decided_as
    (λ h. record { one_list_each = h.0; each = λ sort T found. h.1 sort (slice_get-length P.sorts sort T found) T found })
    (λ p. (p.one_list_each, (λ sort below T found. p.each sort T found)))
    (decide_both (decide_equal (length elements) (length P.sorts))
    (decide_each (length P.sorts) (λ sort. (T : Sort) → slice_get P.sorts sort ≡ Some T → IsPlacement T.ordered (slice_index counts sort) (slice_index sizes sort) (of_sort elements sort)) (λ sort. decide_type counts sizes elements sort (slice_get P.sorts sort))))

-- literals
same_variable : (v w : Variable) → v.sort ≡ w.sort → v.number ≡ w.number → v ≡ w
same_variable v w a b = λ i. record { sort = a i; number = b i }

decide_variable : (v w : Variable) → Decision (v ≡ w)
decide_variable v w =
    decided_as (λ h. same_variable v w h.0 h.1) (λ e. (ap (λ (x : Variable). x.sort) e, ap (λ (x : Variable). x.number) e))
    (decide_both (decide_equal v.sort w.sort) (decide_equal v.number w.number))

decide_variables : (vs ws : List Variable) → Decision (vs ≡ ws)
decide_variables [] [] = affirmed refl
decide_variables [] (w ∷ ws) = denied (λ e. let n : ⊥ = cc in n)
decide_variables (v ∷ vs) [] = denied (λ e. let n : ⊥ = cc in n)
decide_variables (v ∷ vs) (w ∷ ws) =
    decided_as (λ h. let a = h.0 in let b = h.1 in both_equal v w vs ws a b) (λ e. (first_equal v w vs ws e, rest_equal v w vs ws e))
    (decide_both (decide_variable v w) (decide_variables vs ws))
  where
    both_equal : (v w : Variable) (vs ws : List Variable) → v ≡ w → vs ≡ ws → (v ∷ vs) ≡ (w ∷ ws)
    both_equal v w vs ws a b = λ i. a i ∷ b i

    first_equal : (v w : Variable) (vs ws : List Variable) → (v ∷ vs) ≡ (w ∷ ws) → v ≡ w
    first_equal v w vs ws e = cc

    rest_equal : (v w : Variable) (vs ws : List Variable) → (v ∷ vs) ≡ (w ∷ ws) → vs ≡ ws
    rest_equal v w vs ws e = cc

same_relation : (r q : ℕ) (vs ws : List Variable) → tuple r vs ≡ tuple q ws → (r ≡ q) × (vs ≡ ws)
same_relation r q vs ws e = (cc, cc)

same_individual : (v w : Variable) (i j : ℕ) → is_individual v i ≡ is_individual w j → (v ≡ w) × (i ≡ j)
same_individual v w i j e = (cc, cc)

decide_atom : (a b : Atom) → Decision (a ≡ b)
decide_atom (tuple r vs) (tuple q ws) = decided_as (λ h. λ k. tuple (h.0 k) (h.1 k)) (same_relation r q vs ws) (decide_both (decide_equal r q) (decide_variables vs ws))
decide_atom (tuple r vs) (is_individual w j) = denied (λ e. let n : ⊥ = cc in n)
decide_atom (is_individual v i) (tuple q ws) = denied (λ e. let n : ⊥ = cc in n)
decide_atom (is_individual v i) (is_individual w j) = decided_as (λ h. λ k. is_individual (h.0 k) (h.1 k)) (same_individual v w i j) (decide_both (decide_variable v w) (decide_equal i j))

decide_literal : (l m : Literal) → Decision (l ≡ m)
decide_literal l m =
    decided_as (λ h. λ i. record { atom = h.0 i; negated = h.1 i }) (λ e. (ap (λ (x : Literal). x.atom) e, ap (λ (x : Literal). x.negated) e))
    (decide_both (decide_atom l.atom m.atom) (decide_same l.negated m.negated))

among_next : (l m : Literal) (ls : List Literal) → Decision (m ≡ l) → Decision (Among l ls) → Decision (Among l (m ∷ ls))
among_next l m ls (affirmed e) rest = affirmed (inl e)
among_next l m ls (denied n) (affirmed h) = affirmed (inr h)
among_next l m ls (denied n) (denied k) = denied neither
  where
    neither : Among l (m ∷ ls) → ⊥
    neither (inl e) = n e
    neither (inr h) = k h

decide_among : (l : Literal) (ls : List Literal) → Decision (Among l ls)
decide_among l [] = denied (λ h. h)
decide_among l (m ∷ ls) = among_next l m ls (decide_literal m l) (decide_among l ls)

pub among_of : {X : Type 0} (x : X) (xs : List X) (k : ℕ) → k < length xs → get_or xs k x ≡ x → Among x xs
among_of x [] k below is = absurd (omega (arith, below))
among_of x (y ∷ xs) zero below is = inl is
among_of x (y ∷ xs) (suc k) below is = inr (among_of x xs k (omega (arith, below)) is)

decide_member : (l : Literal) (ls : List Literal) → Decision (Contains ls l)
decide_member l ls = decided_as (contained l ls) (λ h. among_of l ls h.0 h.1 h.2) (decide_among l ls)

decide_all : (Q : Literal → Type 0) (ls : List Literal) → ((l : Literal) → Decision (Q l)) → Decision (Each Q ls)
decide_all Q [] each = affirmed tt
decide_all Q (l ∷ ls) each = decide_both (each l) (decide_all Q ls each)

each_member : {X : Type 0} (Q : X → Type 0) (xs : List X) (x : X) → Each Q xs → Among x xs → Q x
each_member Q [] x h k = absurd k
each_member Q (y ∷ xs) x h (inl e) = subst Q e h.0
each_member Q (y ∷ xs) x h (inr k) = each_member Q xs x h.1 k

each_from : {X : Type 0} (Q : X → Type 0) (xs : List X) → ((x : X) → Contains xs x → Q x) → Each Q xs
each_from Q [] h = tt
each_from Q (x ∷ xs) h = (h x (0, omega arith, refl), each_from Q xs (λ y k. h y (suc k.0, (let l = k.1 in omega (arith, l)), k.2)))

-- an injection is one of the lists that are searched
numbers_from : (count size : ℕ) (xs : List ℕ) → length xs ≡ count → ((i : ℕ) → i < count → slice_index xs i < size) → AreNumbers count size xs
numbers_from zero size [] long inside = tt
numbers_from zero size (x ∷ xs) long inside = absurd (omega (arith, long))
numbers_from (suc count) size [] long inside = absurd (omega (arith, long))
numbers_from (suc count) size (x ∷ xs) long inside = (inside 0 (omega arith), numbers_from count size xs (omega (arith, long)) (λ i below. inside (suc i) (omega (arith, below))))

lists_from : (count size : ℕ → ℕ) (k n : ℕ) (lists : List (List ℕ)) → length lists ≡ n → ((j : ℕ) → j < n → AreNumbers (count (k + j)) (size (k + j)) (get_or lists j [])) → AreLists count size k n lists
lists_from count size k zero [] long each = tt
lists_from count size k zero (xs ∷ lists) long each = absurd (omega (arith, long))
lists_from count size k (suc n) [] long each = absurd (omega (arith, long))
lists_from count size k (suc n) (xs ∷ lists) long each = (
  subst (λ j. AreNumbers (count j) (size j) xs) (let e : k + 0 ≡ k = omega arith in e) (each 0 (omega arith)),
  lists_from count size (suc k) n lists (omega (arith, long))
      (λ j below. subst (λ i. AreNumbers (count i) (size i) (get_or lists j [])) (let e : k + suc j ≡ suc k + j = omega arith in e) (each (suc j) (omega (arith, below)))),
)

placements_listed : (P : Protocol) (counts sizes : List ℕ) (elements : List (List ℕ)) → ArePlacements P counts sizes elements → AreLists (slice_index counts) (slice_index sizes) 0 (length P.sorts) elements
placements_listed P counts sizes elements p =
    lists_from (slice_index counts) (slice_index sizes) 0 (length P.sorts) elements p.one_list_each
    (λ j below.
    let found = slice_get-some P.sorts j below in
    let placed = p.each j found.0 found.1 in
    subst (λ i. AreNumbers (slice_index counts i) (slice_index sizes i) (get_or elements j [])) (let e : j ≡ 0 + j = omega arith in e)
    (numbers_from (slice_index counts j) (slice_index sizes j) (get_or elements j []) placed.one_each placed.inside))

pub decide_below : (P : Protocol) (c d : Clause) → Decision (Subsumes P c d)
decide_below P c d =
    decided_as
    (λ found. record {
      injection = found.0;
      places = found.2.0;
      literals = λ l k. each_member (λ m. Contains (literals_of P d) (image_of found.0 m)) (literals_of P c) l found.2.1 (among_of l (literals_of P c) k.0 k.1 k.2);
    })
    (λ s. (s.injection, placements_listed P c.counts d.counts s.injection s.places, (s.places, each_from (λ m. Contains (literals_of P d) (image_of s.injection m)) (literals_of P c) s.literals)))
    (decide_lists (slice_index c.counts) (slice_index d.counts) 0 (length P.sorts) (λ to. ArePlacements P c.counts d.counts to × Each (λ m. Contains (literals_of P d) (image_of to m)) (literals_of P c))
    (λ to. decide_both (decide_placements P c.counts d.counts to) (decide_all (λ m. Contains (literals_of P d) (image_of to m)) (literals_of P c) (λ m. decide_member (image_of to m) (literals_of P d)))))

pub below_or_not : (P : Protocol) (c d : Clause) → Subsumes P c d ⊎ (Subsumes P c d → ⊥)
below_or_not P c d = either (decide_below P c d)
  where
    either : Decision (Subsumes P c d) → Subsumes P c d ⊎ (Subsumes P c d → ⊥)
    either (affirmed s) = inl s
    either (denied n) = inr n
