-- The atoms of a shape: each names a relation or an individual of the protocol, each that can be made stands among
-- them, and none stands twice.
use Rattle.std.proofs.Common.{◌≡◌, ◌≢◌, ◌<◌, ◌≤◌, ◌+◌, ℕ, zero, suc, Bool, true, false, List, [], ◌∷◌, get_or, length, map, Some, sym, ◌∙◌, ap, subst, refl, arith, inl, inr, ◌⊎◌}
use Rattle.std.specs.Prelude.{slice_get, slice_index}
use Rattle.std.specs.List.{Contains, flat_map, enumerate_from}
use Rattle.std.proofs.lemmas.Bool.{cases_lt}
use Rattle.dai_model.specs.Protocol.{Protocol, Relation, Individual}
use Rattle.dai_model.specs.Clause.{Variable, Atom, tuple, is_individual, numbers_below, variables_of, choose_each, relation_atoms, individual_atoms, atoms_of}
use Rattle.dai_model.proofs.Below.{Each, Each-append, Each-map, Each-flat_map, Each-any, Each-weaker, IsVariableOf, IsAtomOf}
use Rattle.dai_model.proofs.Order.{Rising, Rising-append, Rising-map, Rising-at, numbers_under}
use Rattle.dai_model.proofs.Within.{Among, among_left, among_right, among_map, among_flat_map, among_numbers}

abbrev pub sorts_of : List Variable → List ℕ
sorts_of vs = map (λ (v : Variable). v.sort) vs

-- the atom is over a relation or an individual of the protocol, with variables of its types
abbrev pub IsNamed : Protocol → Atom → Type 0
IsNamed P (tuple r vs) = (R : Relation) × (slice_get P.relations r ≡ Some R) × (sorts_of vs ≡ R.arguments)
IsNamed P (is_individual v i) = (I : Individual) × (slice_get P.individuals i ≡ Some I) × (v.sort ≡ I.sort)

numbered : {X : Type 0} (n : ℕ) (xs all : List X) → ((k : ℕ) → slice_get all (n + k) ≡ slice_get xs k) → Each (λ (p : ℕ × X). slice_get all p.0 ≡ Some p.1) (enumerate_from n xs)
numbered n [] all h = tt
numbered n (x ∷ xs) all h = (
  ap (slice_get all) (let own : n ≡ n + 0 = omega arith in own) ∙ h 0,
  numbered (n + 1) xs all (λ k. ap (slice_get all) (let next : (n + 1) + k ≡ n + suc k = omega arith in next) ∙ h (suc k)),
)

enumerated : {X : Type 0} (xs : List X) → Each (λ (p : ℕ × X). slice_get xs p.0 ≡ Some p.1) (enumerate_from 0 xs)
enumerated xs = numbered 0 xs xs (λ k. ap (slice_get xs) (let own : 0 + k ≡ k = omega arith in own))

of_one_sort : (counts : List ℕ) (sort : ℕ) → Each (λ (v : Variable). v.sort ≡ sort) (variables_of counts sort)
of_one_sort counts sort = Each-map (λ _. Unit {0}) (λ (v : Variable). v.sort ≡ sort) _ (numbers_below (slice_index counts sort)) (λ n h. refl) (Each-any (λ _. Unit {0}) (numbers_below (slice_index counts sort)) (λ n. tt))

of_the_sorts : (counts sorts : List ℕ) → Each (λ vs. sorts_of vs ≡ sorts) (choose_each (map (variables_of counts) sorts))
of_the_sorts counts [] = (refl, tt)
of_the_sorts counts (sort ∷ sorts) =
    Each-flat_map (λ (v : Variable). v.sort ≡ sort) (λ vs. sorts_of vs ≡ sort ∷ sorts) _ (variables_of counts sort)
    (λ v e. Each-map (λ vs. sorts_of vs ≡ sorts) (λ vs. sorts_of vs ≡ sort ∷ sorts) _ (choose_each (map (variables_of counts) sorts)) (λ vs k. cc) (of_the_sorts counts sorts))
    (of_one_sort counts sort)

pub atoms_named : (P : Protocol) (counts : List ℕ) → Each (IsNamed P) (atoms_of P counts)
atoms_named P counts =
    Each-append (IsNamed P) _ _
    (Each-flat_map (λ (p : ℕ × Relation). slice_get P.relations p.0 ≡ Some p.1) (IsNamed P) (relation_atoms counts) (enumerate_from 0 P.relations)
    (λ p e. Each-map (λ vs. sorts_of vs ≡ p.1.arguments) (IsNamed P) (tuple p.0) (choose_each (map (variables_of counts) p.1.arguments)) (λ vs k. (p.1, e, k)) (of_the_sorts counts p.1.arguments))
    (enumerated P.relations))
    (Each-flat_map (λ (p : ℕ × Individual). slice_get P.individuals p.0 ≡ Some p.1) (IsNamed P) (individual_atoms counts) (enumerate_from 0 P.individuals)
    (λ p e. Each-map (λ (v : Variable). v.sort ≡ p.1.sort) (IsNamed P) _ (variables_of counts p.1.sort) (λ v k. (p.1, e, k)) (of_one_sort counts p.1.sort))
    (enumerated P.individuals))

-- each atom that can be made is there
pub contained : {X : Type 0} (x : X) (xs : List X) → Among x xs → Contains xs x
contained x [] h = absurd h
contained x (y ∷ xs) (inl e) = (0, omega arith, e)
contained x (y ∷ xs) (inr h) = let w = contained x xs h in let k = w.1 in (suc w.0, omega arith, w.2)

variable_listed : (counts : List ℕ) (v : Variable) (sort : ℕ) → v.sort ≡ sort → IsVariableOf counts v → Among v (variables_of counts sort)
variable_listed counts v sort e h =
    subst (λ s. Among v (variables_of counts s)) e (among_map (λ (n : ℕ). let w : Variable = record { sort = v.sort; number = n } in w) v.number (numbers_below (slice_index counts v.sort)) (among_numbers (slice_index counts v.sort) v.number h))

choice_listed : (counts : List ℕ) (vs : List Variable) (sorts : List ℕ) → sorts_of vs ≡ sorts → Each (IsVariableOf counts) vs → Among vs (choose_each (map (variables_of counts) sorts))
choice_listed counts [] [] e h = inl refl
choice_listed counts [] (sort ∷ sorts) e h = absurd (let k : ⊥ = cc in k)
choice_listed counts (v ∷ vs) [] e h = absurd (let k : ⊥ = cc in k)
choice_listed counts (v ∷ vs) (sort ∷ sorts) e h =
    let here : v.sort ≡ sort = cc in
    let rest : sorts_of vs ≡ sorts = cc in
    among_flat_map (λ w. map (λ (chosen : List Variable). w ∷ chosen) (choose_each (map (variables_of counts) sorts))) v (v ∷ vs) (variables_of counts sort)
    (variable_listed counts v sort here h.0)
    (among_map (λ (chosen : List Variable). v ∷ chosen) vs (choose_each (map (variables_of counts) sorts)) (choice_listed counts vs sorts rest h.1))

pair_listed : {X : Type 0} (xs : List X) (n k : ℕ) (x : X) → slice_get xs k ≡ Some x → Among (n + k, x) (enumerate_from n xs)
pair_listed [] n k x h = absurd (let e : ⊥ = cc in e)
pair_listed (y ∷ xs) n zero x h =
    let same : y ≡ x = cc in
    let here : n ≡ n + 0 = omega arith in
    inl (ap (λ (z : _). let p : ℕ × _ = (n, z) in p) same ∙ ap (λ (i : ℕ). let p : ℕ × _ = (i, x) in p) here)
pair_listed (y ∷ xs) n (suc k) x h =
    let next : (n + 1) + k ≡ n + suc k = omega arith in
    inr (subst (λ i. Among (i, x) (enumerate_from (n + 1) xs)) next (pair_listed xs (n + 1) k x h))

own_pair : {X : Type 0} (xs : List X) (k : ℕ) (x : X) → slice_get xs k ≡ Some x → Among (k, x) (enumerate_from 0 xs)
own_pair xs k x h = subst (λ i. Among (i, x) (enumerate_from 0 xs)) (let same : 0 + k ≡ k = omega arith in same) (pair_listed xs 0 k x h)

pub atom_listed : (P : Protocol) (counts : List ℕ) (a : Atom) → IsNamed P a → IsAtomOf counts a → Contains (atoms_of P counts) a
atom_listed P counts (tuple r vs) n h =
    contained (tuple r vs) (atoms_of P counts)
    (among_left (tuple r vs) (flat_map (relation_atoms counts) (enumerate_from 0 P.relations)) (flat_map (individual_atoms counts) (enumerate_from 0 P.individuals))
    (among_flat_map (relation_atoms counts) (r, n.0) (tuple r vs) (enumerate_from 0 P.relations) (own_pair P.relations r n.0 n.1)
    (among_map (tuple r) vs (choose_each (map (variables_of counts) n.0.arguments)) (choice_listed counts vs n.0.arguments n.2 h))))
atom_listed P counts (is_individual v i) n h =
    contained (is_individual v i) (atoms_of P counts)
    (among_right (is_individual v i) (flat_map (relation_atoms counts) (enumerate_from 0 P.relations)) (flat_map (individual_atoms counts) (enumerate_from 0 P.individuals))
    (among_flat_map (individual_atoms counts) (i, n.0) (is_individual v i) (enumerate_from 0 P.individuals) (own_pair P.individuals i n.0 n.1)
    (among_map (λ (w : Variable). is_individual w i) v (variables_of counts n.0.sort) (variable_listed counts v n.0.sort n.2 h))))

-- no atom is there twice
abbrev Differ : {X : Type 0} → X → X → Type 0
Differ x y = x ≢ y

-- parts that differ by what is read from their members
flat_differ : {X Y K : Type 0} (f : X → List Y) (own : X → K) (read : Y → K) (xs : List X) → Rising (λ x z. own x ≢ own z) xs → ((x : X) → Rising Differ (f x)) → ((x : X) → Each (λ y. read y ≡ own x) (f x)) → Rising Differ (flat_map f xs)
flat_differ f own read [] rising each reads = tt
flat_differ f own read (x ∷ xs) rising each reads =
    Rising-append Differ (f x) (flat_map f xs) (each x) (flat_differ f own read xs rising.1 each reads)
    (Each-weaker (λ y. read y ≡ own x) (λ y. Each (Differ y) (flat_map f xs)) (f x)
    (λ y is. Each-flat_map (λ z. own x ≢ own z) (Differ y) f xs
    (λ z ne. Each-weaker (λ w. read w ≡ own z) (Differ y) (f z) (λ w other same. ne (sym is ∙ ap read same ∙ other)) (reads z))
    rising.0)
    (reads x))

numbers_differ : (n : ℕ) → Rising Differ (numbers_below n)
numbers_differ zero = tt
numbers_differ (suc n) =
    Rising-append Differ (numbers_below n) (n ∷ []) (numbers_differ n) (tt, tt)
    (Each-weaker (λ k. k < n) (λ k. Each (Differ k) (n ∷ [])) (numbers_below n) (λ k below. ((λ e. let none : ⊥ = omega (arith, below, e) in none), tt)) (numbers_under n n (omega arith)))

variables_differ : (counts : List ℕ) (sort : ℕ) → Rising Differ (variables_of counts sort)
variables_differ counts sort = Rising-map Differ Differ _ (numbers_below (slice_index counts sort)) (λ m n ne e. ne (ap (λ (v : Variable). v.number) e)) (numbers_differ (slice_index counts sort))

abbrev no_variable : Variable
no_variable = record { sort = 0; number = 0 }

abbrev first_of_all : List Variable → Variable
first_of_all [] = no_variable
first_of_all (v ∷ vs) = v

abbrev all_but_first : List Variable → List Variable
all_but_first [] = []
all_but_first (v ∷ vs) = vs

choices_differ : (counts sorts : List ℕ) → Rising Differ (choose_each (map (variables_of counts) sorts))
choices_differ counts [] = (tt, tt)
choices_differ counts (sort ∷ sorts) =
    let rest = choose_each (map (variables_of counts) sorts) in
    flat_differ (λ v. map (λ (chosen : List Variable). v ∷ chosen) rest) (λ v. v) first_of_all (variables_of counts sort) (variables_differ counts sort)
    (λ v. Rising-map Differ Differ (λ (chosen : List Variable). v ∷ chosen) rest (λ x y ne e. ne (ap all_but_first e)) (choices_differ counts sorts))
    (λ v. Each-map (λ _. Unit {0}) (λ chosen. first_of_all chosen ≡ v) (λ (chosen : List Variable). v ∷ chosen) rest (λ x _. refl) (Each-any (λ _. Unit {0}) rest (λ _. tt)))

pairs_from : {X : Type 0} (m n : ℕ) (xs : List X) → m < n → Each (λ (p : ℕ × X). m < p.0) (enumerate_from n xs)
pairs_from m n [] h = tt
pairs_from m n (x ∷ xs) h = (h, pairs_from m (n + 1) xs (omega (arith, h)))

pairs_differ : {X : Type 0} (n : ℕ) (xs : List X) → Rising (λ (p q : ℕ × X). p.0 ≢ q.0) (enumerate_from n xs)
pairs_differ n [] = tt
pairs_differ {X} n (x ∷ xs) = (
  Each-weaker (λ (p : ℕ × X). n < p.0) (λ (p : ℕ × X). n ≢ p.0) (enumerate_from (n + 1) xs) (λ p before e. let none : ⊥ = omega (arith, before, e) in none) (pairs_from n (n + 1) xs (omega arith)),
  pairs_differ (n + 1) xs,
)

-- the number of the relation or individual, and which of the two it is
abbrev symbol_of : Atom → ℕ
symbol_of (tuple r vs) = r
symbol_of (is_individual v i) = i

abbrev is_a_tuple : Atom → Bool
is_a_tuple (tuple r vs) = true
is_a_tuple (is_individual v i) = false

abbrev variables_in : Atom → List Variable
variables_in (tuple r vs) = vs
variables_in (is_individual v i) = v ∷ []

relation_differ : (counts : List ℕ) (p : ℕ × Relation) → Rising Differ (relation_atoms counts p)
relation_differ counts p = Rising-map Differ Differ (tuple p.0) (choose_each (map (variables_of counts) p.1.arguments)) (λ x y ne e. ne (ap variables_in e)) (choices_differ counts p.1.arguments)

relation_symbols : (counts : List ℕ) (p : ℕ × Relation) → Each (λ a. symbol_of a ≡ p.0) (relation_atoms counts p)
relation_symbols counts p =
    let choices = choose_each (map (variables_of counts) p.1.arguments) in
    Each-map (λ _. Unit {0}) (λ a. symbol_of a ≡ p.0) (tuple p.0) choices (λ x _. refl) (Each-any (λ _. Unit {0}) choices (λ _. tt))

relation_tuples : (counts : List ℕ) (p : ℕ × Relation) → Each (λ a. is_a_tuple a ≡ true) (relation_atoms counts p)
relation_tuples counts p =
    let choices = choose_each (map (variables_of counts) p.1.arguments) in
    Each-map (λ _. Unit {0}) (λ a. is_a_tuple a ≡ true) (tuple p.0) choices (λ x _. refl) (Each-any (λ _. Unit {0}) choices (λ _. tt))

individual_differ : (counts : List ℕ) (p : ℕ × Individual) → Rising Differ (individual_atoms counts p)
individual_differ counts p =
    Rising-map Differ Differ (λ (v : Variable). is_individual v p.0) (variables_of counts p.1.sort) (λ x y ne e. ne (ap (λ a. first_of_all (variables_in a)) e)) (variables_differ counts p.1.sort)

individual_symbols : (counts : List ℕ) (p : ℕ × Individual) → Each (λ a. symbol_of a ≡ p.0) (individual_atoms counts p)
individual_symbols counts p =
    let vs = variables_of counts p.1.sort in
    Each-map (λ _. Unit {0}) (λ a. symbol_of a ≡ p.0) (λ (v : Variable). is_individual v p.0) vs (λ x _. refl) (Each-any (λ _. Unit {0}) vs (λ _. tt))

individual_equations : (counts : List ℕ) (p : ℕ × Individual) → Each (λ a. is_a_tuple a ≡ false) (individual_atoms counts p)
individual_equations counts p =
    let vs = variables_of counts p.1.sort in
    Each-map (λ _. Unit {0}) (λ a. is_a_tuple a ≡ false) (λ (v : Variable). is_individual v p.0) vs (λ x _. refl) (Each-any (λ _. Unit {0}) vs (λ _. tt))

not_both : (a b : Atom) → is_a_tuple a ≡ true → is_a_tuple b ≡ false → a ≡ b → ⊥
not_both a b p q e = let same : true ≡ false = sym p ∙ ap is_a_tuple e ∙ q in let none : ⊥ = cc in none

atoms_differ : (P : Protocol) (counts : List ℕ) → Rising Differ (atoms_of P counts)
atoms_differ P counts =
    let tuples = flat_map (relation_atoms counts) (enumerate_from 0 P.relations) in
    let equations = flat_map (individual_atoms counts) (enumerate_from 0 P.individuals) in
    Rising-append Differ tuples equations
    (flat_differ (relation_atoms counts) (λ p. p.0) symbol_of (enumerate_from 0 P.relations) (pairs_differ 0 P.relations) (relation_differ counts) (relation_symbols counts))
    (flat_differ (individual_atoms counts) (λ p. p.0) symbol_of (enumerate_from 0 P.individuals) (pairs_differ 0 P.individuals) (individual_differ counts) (individual_symbols counts))
    (Each-weaker (λ a. is_a_tuple a ≡ true) (λ a. Each (Differ a) equations) tuples
    (λ a is. Each-weaker (λ b. is_a_tuple b ≡ false) (Differ a) equations (λ b other. not_both a b is other)
    (Each-flat_map (λ _. Unit {0}) (λ b. is_a_tuple b ≡ false) (individual_atoms counts) (enumerate_from 0 P.individuals) (λ p _. individual_equations counts p) (Each-any (λ _. Unit {0}) (enumerate_from 0 P.individuals) (λ _. tt))))
    (Each-flat_map (λ _. Unit {0}) (λ a. is_a_tuple a ≡ true) (relation_atoms counts) (enumerate_from 0 P.relations) (λ p _. relation_tuples counts p) (Each-any (λ _. Unit {0}) (enumerate_from 0 P.relations) (λ _. tt))))

pub same_place : (P : Protocol) (counts : List ℕ) (i j : ℕ) (d : Atom) → i < length (atoms_of P counts) → j < length (atoms_of P counts) → get_or (atoms_of P counts) i d ≡ get_or (atoms_of P counts) j d → i ≡ j
same_place P counts i j d a b e = by_case (cases_lt i j) (cases_lt j i)
  where
    by_case : (i < j) ⊎ (j ≤ i) → (j < i) ⊎ (i ≤ j) → i ≡ j
    by_case (inl before) other = absurd (Rising-at Differ (atoms_of P counts) i j d before b (atoms_differ P counts) e)
    by_case (inr p) (inl before) = absurd (Rising-at Differ (atoms_of P counts) j i d before a (atoms_differ P counts) (sym e))
    by_case (inr p) (inr q) = omega (arith, p, q)
