-- Subsumption: what a map of variables does to a clause's value; reflexive, transitive, and an implication.
use Rattle.std.proofs.Common.{◌≢◌, inl, inr, ◌⊎◌, ◌≡◌, ◌<◌, ◌≤◌, get_or, length, ℕ, zero, suc, Bool, true, false, not, List, [], ◌∷◌, ◌++◌, map, Some, sym, ◌∙◌, ap, subst, refl, arith}
use Rattle.std.specs.Prelude.{slice_get, slice_index, if◌then◌else◌, nat_eq, ◌*◌, ◌/◌, ◌%◌}
use Rattle.std.specs.List.{Contains, list_any, flat_map, enumerate_from}
use Rattle.std.proofs.lemmas.Grind.{common_steps}
use Rattle.std.proofs.lemmas.List.{get_or-map, get_or_past, length-map, get_or_append_left, get_or_push}
use Rattle.std.proofs.lemmas.Bool.{cases_lt}
use Rattle.std.proofs.lemmas.List.Folds.{Any-from_list_any, list_any_at}
use Rattle.dai_model.specs.Protocol.{Protocol, Sort}
use Rattle.dai_model.specs.Structure.{Structure}
use Rattle.dai_model.specs.Placement.{Apart, IsPlacement, of_sort, ArePlacements}
use Rattle.dai_model.specs.Clause.{Variable, Atom, tuple, is_individual, Clause, Literal, numbers_below, variables_of, choose_each, relation_atoms, individual_atoms, atoms_of, literals_of, literal_among, no_atom, value_at, atom_value, literal_value, Meets}
use Rattle.dai_model.specs.Template.{Bounds, IsTemplate}
use Rattle.dai_model.proofs.Typed.{slice_get-length}
use Rattle.dai_model.specs.Subsumption.{image_of_variable, image_of_atom, image_of, Subsumes}

-- by recursion on the list, where std's word goes by places
abbrev pub Each : {X : Type 0} → (X → Type 0) → List X → Type 0
Each P [] = Unit {0}
Each P (x ∷ xs) = P x × Each P xs

pub Each-append : {X : Type 0} (P : X → Type 0) (xs ys : List X) → Each P xs → Each P ys → Each P (xs ++ ys)
Each-append P [] ys h k = k
Each-append P (x ∷ xs) ys h k = (h.0, Each-append P xs ys h.1 k)

pub Each-map : {X Y : Type 0} (P : X → Type 0) (Q : Y → Type 0) (f : X → Y) (xs : List X) → ((x : X) → P x → Q (f x)) → Each P xs → Each Q (map f xs)
Each-map P Q f [] step h = tt
Each-map P Q f (x ∷ xs) step h = (step x h.0, Each-map P Q f xs step h.1)

pub Each-flat_map : {X Y : Type 0} (P : X → Type 0) (Q : Y → Type 0) (f : X → List Y) (xs : List X) → ((x : X) → P x → Each Q (f x)) → Each P xs → Each Q (flat_map f xs)
Each-flat_map P Q f [] step h = tt
Each-flat_map P Q f (x ∷ xs) step h = Each-append Q (f x) _ (step x h.0) (Each-flat_map P Q f xs step h.1)

pub Each-any : {X : Type 0} (P : X → Type 0) (xs : List X) → ((x : X) → P x) → Each P xs
Each-any P [] h = tt
Each-any P (x ∷ xs) h = (h x, Each-any P xs h)

pub Each-weaker : {X : Type 0} (P Q : X → Type 0) (xs : List X) → ((x : X) → P x → Q x) → Each P xs → Each Q xs
Each-weaker P Q [] h k = tt
Each-weaker P Q (x ∷ xs) h k = (h x k.0, Each-weaker P Q xs h k.1)

pub Each-at : {X : Type 0} (P : X → Type 0) (xs : List X) (k : ℕ) (d : X) → k < length xs → Each P xs → P (get_or xs k d)
Each-at P [] k d h e = absurd (omega arith)
Each-at P (x ∷ xs) zero d h e = e.0
Each-at P (x ∷ xs) (suc k) d h e = Each-at P xs k d (omega arith) e.1

below_each : (n m : ℕ) → n ≤ m → Each (λ k. k < m) (numbers_below n)
below_each zero m h = tt
below_each (suc n) m h = Each-append (λ k. k < m) (numbers_below n) (n ∷ []) (below_each n m (omega arith)) (omega arith, tt)

-- the variable is one of the shape
abbrev pub IsVariableOf : List ℕ → Variable → Type 0
IsVariableOf counts v = v.number < slice_index counts v.sort

abbrev pub IsAtomOf : List ℕ → Atom → Type 0
IsAtomOf counts (tuple r vs) = Each (IsVariableOf counts) vs
IsAtomOf counts (is_individual v i) = IsVariableOf counts v

variables_inside : (counts : List ℕ) (sort : ℕ) → Each (IsVariableOf counts) (variables_of counts sort)
variables_inside counts sort = Each-map (λ k. k < slice_index counts sort) (IsVariableOf counts) _ (numbers_below (slice_index counts sort)) (λ k h. h) (below_each (slice_index counts sort) (slice_index counts sort) (omega arith))

choices_inside : (counts : List ℕ) (lists : List (List Variable)) → Each (Each (IsVariableOf counts)) lists → Each (Each (IsVariableOf counts)) (choose_each lists)
choices_inside counts [] h = (tt, tt)
choices_inside counts (vs ∷ rest) h =
    Each-flat_map (IsVariableOf counts) (Each (IsVariableOf counts)) _ vs
    (λ v inside. Each-map (Each (IsVariableOf counts)) (Each (IsVariableOf counts)) _ (choose_each rest) (λ chosen k. (inside, k)) (choices_inside counts rest h.1))
    h.0

-- each atom of a shape has variables of the shape alone
pub atoms_inside : (P : Protocol) (counts : List ℕ) → Each (IsAtomOf counts) (atoms_of P counts)
atoms_inside P counts =
    Each-append (IsAtomOf counts) _ _
    (Each-flat_map (λ _. Unit {0}) (IsAtomOf counts) (relation_atoms counts) (enumerate_from 0 P.relations)
    (λ r _. Each-map (Each (IsVariableOf counts)) (IsAtomOf counts) (tuple r.0) (choose_each (map (variables_of counts) r.1.arguments)) (λ vs h. h)
    (choices_inside counts _ (Each-map (λ _. Unit {0}) (Each (IsVariableOf counts)) (variables_of counts) r.1.arguments (λ sort _. variables_inside counts sort) (Each-any _ _ (λ _. tt)))))
    (Each-any _ _ (λ _. tt)))
    (Each-flat_map (λ _. Unit {0}) (IsAtomOf counts) (individual_atoms counts) (enumerate_from 0 P.individuals)
    (λ i _. Each-map (IsVariableOf counts) (IsAtomOf counts) _ (variables_of counts i.1.sort) (λ v h. h) (variables_inside counts i.1.sort))
    (Each-any _ _ (λ _. tt)))

numbers_below-length : (n : ℕ) → length (numbers_below n) ≡ n
numbers_below-length zero = refl
numbers_below-length (suc n) = let k = numbers_below-length n in grind (arith, common_steps, k)

number_at_end : (n k d : ℕ) → k < suc n → length (numbers_below n) ≡ n → (k < n → get_or (numbers_below n) k d ≡ k) → (k < n) ⊎ (n ≤ k) → get_or (numbers_below n ++ n ∷ []) k d ≡ k
number_at_end n k d h e rec (inl below) = get_or_append_left (numbers_below n) (n ∷ []) d k (omega arith) ∙ rec below
number_at_end n k d h e rec (inr last) =
    let same : k ≡ n = omega arith in
    let there : length (numbers_below n) ≡ k = omega arith in
    get_or_push (numbers_below n) n d k there ∙ sym same

pub numbers_below-at : (n k d : ℕ) → k < n → get_or (numbers_below n) k d ≡ k
numbers_below-at zero k d h = absurd (omega arith)
numbers_below-at (suc n) k d h = number_at_end n k d h (numbers_below-length n) (λ below. numbers_below-at n k d below) (cases_lt k n)

-- first the one map of variables, and then the other
abbrev pub composed : List (List ℕ) → List (List ℕ) → List (List ℕ)
composed second first = map (λ sort. map (slice_index (of_sort second sort)) (of_sort first sort)) (numbers_below (length first))

composed-of_sort : (second first : List (List ℕ)) (sort : ℕ) → sort < length first → of_sort (composed second first) sort ≡ map (slice_index (of_sort second sort)) (of_sort first sort)
composed-of_sort second first sort h =
    let e = numbers_below-length (length first) in
    let here : sort < length (numbers_below (length first)) = omega arith in
    let at = numbers_below-at (length first) sort 0 h in
    get_or-map (λ t. map (slice_index (of_sort second t)) (of_sort first t)) (numbers_below (length first)) sort 0 [] here ∙ ap (λ t. map (slice_index (of_sort second t)) (of_sort first t)) at

value_at-composed : (second first : List (List ℕ)) (v : Variable) → v.sort < length first → v.number < length (of_sort first v.sort) → value_at (composed second first) v ≡ value_at second (image_of_variable first v)
value_at-composed second first v h k =
    ap (λ xs. slice_index xs v.number) (composed-of_sort second first v.sort h) ∙ get_or-map (slice_index (of_sort second v.sort)) (of_sort first v.sort) v.number 0 0 k

pub placed_length : {P : Protocol} {counts sizes : List ℕ} {first : List (List ℕ)} → ArePlacements P counts sizes first → (sort : ℕ) (T : Sort) → slice_get P.sorts sort ≡ Some T → sort < length first
placed_length p sort T h = let k = slice_get-length _ sort T h in omega (arith, k, p.one_list_each)

pub apart_at : (ordered : Bool) (count size : ℕ) (xs : List ℕ) (i j : ℕ) → IsPlacement ordered count size xs → i < count → j < count → Apart ordered i j → Apart ordered (slice_index xs i) (slice_index xs j)
apart_at true count size xs i j p hi hj apart = p.apart i j apart hj
apart_at false count size xs i j p hi hj apart = apart_either (cases_lt i j)
  where
    apart_either : (i < j) ⊎ (j ≤ i) → Apart false (slice_index xs i) (slice_index xs j)
    apart_either (inl before) = p.apart i j before hj
    apart_either (inr after) = λ e. p.apart j i (let k : i ≢ j = apart in omega arith) hi (sym e)

composed_placement : (ordered : Bool) (a b size : ℕ) (first second : List ℕ) → IsPlacement ordered a b first → IsPlacement ordered b size second → IsPlacement ordered a size (map (slice_index second) first)
composed_placement ordered a b size first second p q = record {
  one_each = length-map first (slice_index second) ∙ p.one_each;
  inside = λ i h.
      let e = get_or-map (slice_index second) first i 0 0 (let k = p.one_each in omega arith) in
      let k = q.inside (slice_index first i) (p.inside i h) in
      subst (λ x. x < size) (sym e) k;
  apart = λ i j h k.
      let ei = get_or-map (slice_index second) first i 0 0 (let l = p.one_each in omega arith) in
      let ej = get_or-map (slice_index second) first j 0 0 (let l = p.one_each in omega arith) in
      let inside_i : slice_index first i < b = p.inside i (omega arith) in
      let inside_j : slice_index first j < b = p.inside j k in
      let apart = apart_at ordered b size second (slice_index first i) (slice_index first j) q inside_i inside_j (p.apart i j h k) in
      subst (λ x. Apart ordered x (get_or (map (slice_index second) first) j 0)) (sym ei) (subst (λ y. Apart ordered (slice_index second (slice_index first i)) y) (sym ej) apart);
}

pub composed_placements : (P : Protocol) (a b sizes : List ℕ) (first second : List (List ℕ)) → ArePlacements P a b first → ArePlacements P b sizes second → ArePlacements P a sizes (composed second first)
composed_placements P a b sizes first second p q = record {
  one_list_each = length-map (numbers_below (length first)) _ ∙ (numbers_below-length (length first) ∙ p.one_list_each);
  each = λ sort T h.
      subst (IsPlacement T.ordered (slice_index a sort) (slice_index sizes sort)) (sym (composed-of_sort second first sort (placed_length p sort T h)))
      (composed_placement T.ordered (slice_index a sort) (slice_index b sort) (slice_index sizes sort) (of_sort first sort) (of_sort second sort) (p.each sort T h) (q.each sort T h));
}

pub count_within : (counts : List ℕ) (sort number : ℕ) → number < slice_index counts sort → (sort < length counts) ⊎ (length counts ≤ sort) → sort < length counts
count_within counts sort number h (inl below) = below
count_within counts sort number h (inr past) = let e = get_or_past counts sort 0 past in absurd (omega arith)

pub slice_get-some : {A : Type 0} (xs : List A) (i : ℕ) → i < length xs → (x : A) × (slice_get xs i ≡ Some x)
slice_get-some [] i h = absurd (omega arith)
slice_get-some (x ∷ xs) zero h = (x, refl)
slice_get-some (x ∷ xs) (suc i) h = slice_get-some xs i (omega arith)

-- a variable of the shape, placed
variable_composed : (P : Protocol) (counts sizes : List ℕ) (first second : List (List ℕ)) (v : Variable) → length counts ≡ length P.sorts → ArePlacements P counts sizes first → IsVariableOf counts v → value_at (composed second first) v ≡ value_at second (image_of_variable first v)
variable_composed P counts sizes first second v long p inside =
    let below = count_within counts v.sort v.number inside (cases_lt v.sort (length counts)) in
    let found = slice_get-some P.sorts v.sort (omega arith) in
    let placed = p.each v.sort found.0 found.1 in
    value_at-composed second first v (placed_length p v.sort found.0 found.1) (let k = placed.one_each in omega arith)

variables_composed : (P : Protocol) (counts sizes : List ℕ) (first second : List (List ℕ)) (vs : List Variable) → length counts ≡ length P.sorts → ArePlacements P counts sizes first → Each (IsVariableOf counts) vs → map (value_at (composed second first)) vs ≡ map (value_at second) (map (image_of_variable first) vs)
variables_composed P counts sizes first second [] long p inside = refl
variables_composed P counts sizes first second (v ∷ vs) long p inside =
    let h = variable_composed P counts sizes first second v long p inside.0 in
    let k = variables_composed P counts sizes first second vs long p inside.1 in
    cc

atom_composed : (P : Protocol) (s : Structure) (counts sizes : List ℕ) (first second : List (List ℕ)) (a : Atom) → length counts ≡ length P.sorts → ArePlacements P counts sizes first → IsAtomOf counts a → atom_value s (composed second first) a ≡ atom_value s second (image_of_atom first a)
atom_composed P s counts sizes first second (tuple r vs) long p inside = ap (s.holds r) (variables_composed P counts sizes first second vs long p inside)
atom_composed P s counts sizes first second (is_individual v i) long p inside = ap (λ e. nat_eq e (s.element i)) (variable_composed P counts sizes first second v long p inside)

literal_composed : (P : Protocol) (s : Structure) (counts sizes : List ℕ) (first second : List (List ℕ)) (l : Literal) → length counts ≡ length P.sorts → ArePlacements P counts sizes first → IsAtomOf counts l.atom → literal_value s (composed second first) l ≡ literal_value s second (image_of first l)
literal_composed P s counts sizes first second l long p inside =
    ap (λ b. if l.negated then not b else b) (atom_composed P s counts sizes first second l.atom long p inside)

pub half_below : (l n : ℕ) → l < 2 * n → l / 2 < n
half_below l n h = let r : l % 2 < 2 = omega arith in omega arith

pub literal_inside : (P : Protocol) (B : Bounds) (c : Clause) (k : ℕ) → IsTemplate P B c → k < length c.literals → IsAtomOf c.counts (literal_among (atoms_of P c.counts) (slice_index c.literals k)).atom
literal_inside P B c k t h =
    let below = half_below (slice_index c.literals k) (length (atoms_of P c.counts)) (t.of_the_shape k 0 h) in
    Each-at (IsAtomOf c.counts) (atoms_of P c.counts) (slice_index c.literals k / 2) no_atom below (atoms_inside P c.counts)

-- each literal of a template is over an atom of its shape
literals_inside : (P : Protocol) (B : Bounds) (c : Clause) → IsTemplate P B c → (l : Literal) → Contains (literals_of P c) l → IsAtomOf c.counts l.atom
literals_inside P B c t l h =
    let long = length-map c.literals (literal_among (atoms_of P c.counts)) in
    let below : h.0 < length c.literals = let k = h.1 in omega arith in
    let e = get_or-map (literal_among (atoms_of P c.counts)) c.literals h.0 0 l below in
    let same : literal_among (atoms_of P c.counts) (slice_index c.literals h.0) ≡ l = sym e ∙ h.2 in
    subst (λ (m : Literal). IsAtomOf c.counts m.atom) same (literal_inside P B c h.0 t below)

true_through : (test other : Literal → Bool) (to : Literal → Literal) (ls ms : List Literal) → ((l : Literal) → Contains ls l → Contains ms (to l)) → ((l : Literal) → Contains ls l → test l ≡ other (to l)) → list_any test ls ≡ true → list_any other ms ≡ true
true_through test other to ls ms moved same h =
    let found = Any-from_list_any test ls h in
    let here : Contains ls found.1 = (found.0, found.2, found.3) in
    let there = moved found.1 here in
    let value : other (to found.1) ≡ true = sym (same found.1 here) ∙ found.4 in
    list_any_at other ms there.0 (to found.1) there.1 (subst (λ l. other l ≡ true) (sym there.2) value)

-- a clause below another implies it in every structure
pub below_implies : (P : Protocol) (B : Bounds) (below above : Clause) → IsTemplate P B below → Subsumes P below above → (s : Structure) → Meets P s below → Meets P s above
below_implies P B below above t sub s meets elements placed =
    let both = composed_placements P below.counts above.counts s.sizes sub.injection elements sub.places placed in
    true_through (literal_value s (composed elements sub.injection)) (literal_value s elements) (image_of sub.injection) (literals_of P below) (literals_of P above)
    sub.literals
    (λ l h. literal_composed P s below.counts above.counts sub.injection elements l t.one_count_each sub.places (literals_inside P B below t l h))
    (meets (composed elements sub.injection) both)

variable_image_composed : (P : Protocol) (counts sizes : List ℕ) (first second : List (List ℕ)) (v : Variable) → length counts ≡ length P.sorts → ArePlacements P counts sizes first → IsVariableOf counts v → image_of_variable (composed second first) v ≡ image_of_variable second (image_of_variable first v)
variable_image_composed P counts sizes first second v long p inside =
    ap (λ (n : ℕ). let moved : Variable = record { sort = v.sort; number = n } in moved) (variable_composed P counts sizes first second v long p inside)

variables_image_composed : (P : Protocol) (counts sizes : List ℕ) (first second : List (List ℕ)) (vs : List Variable) → length counts ≡ length P.sorts → ArePlacements P counts sizes first → Each (IsVariableOf counts) vs → map (image_of_variable (composed second first)) vs ≡ map (image_of_variable second) (map (image_of_variable first) vs)
variables_image_composed P counts sizes first second [] long p inside = refl
variables_image_composed P counts sizes first second (v ∷ vs) long p inside =
    let h = variable_image_composed P counts sizes first second v long p inside.0 in
    let k = variables_image_composed P counts sizes first second vs long p inside.1 in
    cc

atom_image_composed : (P : Protocol) (counts sizes : List ℕ) (first second : List (List ℕ)) (a : Atom) → length counts ≡ length P.sorts → ArePlacements P counts sizes first → IsAtomOf counts a → image_of_atom (composed second first) a ≡ image_of_atom second (image_of_atom first a)
atom_image_composed P counts sizes first second (tuple r vs) long p inside = ap (tuple r) (variables_image_composed P counts sizes first second vs long p inside)
atom_image_composed P counts sizes first second (is_individual v i) long p inside = ap (λ w. is_individual w i) (variable_image_composed P counts sizes first second v long p inside)

literal_image_composed : (P : Protocol) (counts sizes : List ℕ) (first second : List (List ℕ)) (l : Literal) → length counts ≡ length P.sorts → ArePlacements P counts sizes first → IsAtomOf counts l.atom → image_of (composed second first) l ≡ image_of second (image_of first l)
literal_image_composed P counts sizes first second l long p inside =
    ap (λ (a : Atom). let moved : Literal = record { atom = a; negated = l.negated } in moved) (atom_image_composed P counts sizes first second l.atom long p inside)

pub below-trans : (P : Protocol) (B : Bounds) (a b c : Clause) → IsTemplate P B a → Subsumes P a b → Subsumes P b c → Subsumes P a c
below-trans P B a b c t first second = record {
  injection = composed second.injection first.injection;
  places = composed_placements P a.counts b.counts c.counts first.injection second.injection first.places second.places;
  literals = λ l h.
      let e = literal_image_composed P a.counts b.counts first.injection second.injection l t.one_count_each first.places (literals_inside P B a t l h) in
      subst (Contains (literals_of P c)) (sym e) (second.literals (image_of first.injection l) (first.literals l h));
}

-- each variable stays what it is
abbrev pub unmoved : List ℕ → List (List ℕ)
unmoved counts = map numbers_below counts

unmoved-of_sort : (counts : List ℕ) (sort : ℕ) → sort < length counts → of_sort (unmoved counts) sort ≡ numbers_below (slice_index counts sort)
unmoved-of_sort counts sort h = get_or-map numbers_below counts sort 0 [] h

same_apart : (ordered : Bool) (i j : ℕ) → i < j → Apart ordered i j
same_apart true i j h = h
same_apart false i j h = λ e. omega arith

unmoved_placement : (ordered : Bool) (count : ℕ) → IsPlacement ordered count count (numbers_below count)
unmoved_placement ordered count = record {
  one_each = numbers_below-length count;
  inside = λ i h. let e = numbers_below-at count i 0 h in omega arith;
  apart = λ i j h k.
      let ei = numbers_below-at count i 0 (omega arith) in
      let ej = numbers_below-at count j 0 k in
      subst (λ x. Apart ordered x (slice_index (numbers_below count) j)) (sym ei) (subst (λ y. Apart ordered i y) (sym ej) (same_apart ordered i j h));
}

unmoved_placements : (P : Protocol) (counts : List ℕ) → length counts ≡ length P.sorts → ArePlacements P counts counts (unmoved counts)
unmoved_placements P counts long = record {
  one_list_each = length-map counts numbers_below ∙ long;
  each = λ sort T h.
      let below : sort < length counts = let k = slice_get-length P.sorts sort T h in omega arith in
      subst (IsPlacement T.ordered (slice_index counts sort) (slice_index counts sort)) (sym (unmoved-of_sort counts sort below)) (unmoved_placement T.ordered (slice_index counts sort));
}

variable_unmoved : (counts : List ℕ) (v : Variable) → IsVariableOf counts v → image_of_variable (unmoved counts) v ≡ v
variable_unmoved counts v inside =
    let below = count_within counts v.sort v.number inside (cases_lt v.sort (length counts)) in
    let e : value_at (unmoved counts) v ≡ v.number = ap (λ (xs : List ℕ). slice_index xs v.number) (unmoved-of_sort counts v.sort below) ∙ numbers_below-at (slice_index counts v.sort) v.number 0 inside in
    ap (λ (n : ℕ). let moved : Variable = record { sort = v.sort; number = n } in moved) e

variables_unmoved : (counts : List ℕ) (vs : List Variable) → Each (IsVariableOf counts) vs → map (image_of_variable (unmoved counts)) vs ≡ vs
variables_unmoved counts [] inside = refl
variables_unmoved counts (v ∷ vs) inside =
    let h = variable_unmoved counts v inside.0 in
    let k = variables_unmoved counts vs inside.1 in
    cc

atom_unmoved : (counts : List ℕ) (a : Atom) → IsAtomOf counts a → image_of_atom (unmoved counts) a ≡ a
atom_unmoved counts (tuple r vs) inside = ap (tuple r) (variables_unmoved counts vs inside)
atom_unmoved counts (is_individual v i) inside = ap (λ w. is_individual w i) (variable_unmoved counts v inside)

pub below-refl : (P : Protocol) (B : Bounds) (c : Clause) → IsTemplate P B c → Subsumes P c c
below-refl P B c t = record {
  injection = unmoved c.counts;
  places = unmoved_placements P c.counts t.one_count_each;
  literals = λ l h.
      let e : image_of (unmoved c.counts) l ≡ l = ap (λ (a : Atom). let moved : Literal = record { atom = a; negated = l.negated } in moved) (atom_unmoved c.counts l.atom (literals_inside P B c t l h)) in
      subst (Contains (literals_of P c)) (sym e) h;
}
