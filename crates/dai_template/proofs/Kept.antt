-- A search that keeps the order of further types: those of which the literals have no variable.
use Rattle.std.proofs.Common.{◌≡◌, ◌<◌, ◌≤◌, ◌+◌, ◌-◌, ◌*◌, ◌/◌, ◌%◌, ℕ, zero, suc, Bool, true, false, List, [], ◌∷◌, length, get_or, map, Some, sym, ap, ◌∙◌, subst, refl, arith}
use Rattle.std.specs.Prelude.{slice_get, slice_index, if◌then◌else◌}
use Rattle.std.specs.List.{All, Contains}
use Rattle.std.proofs.lemmas.List.{get_or-map, length-map, get_or_default}
use Rattle.dai_model.specs.Protocol.{Protocol, Sort}
use Rattle.dai_model.specs.Placement.{Apart, IsPlacement, of_sort, ArePlacements}
use Rattle.dai_model.specs.Clause.{Variable, Atom, tuple, is_individual, Literal, numbers_below, atoms_of, literal_among, no_atom, value_at}
use Rattle.dai_model.specs.Subsumption.{image_of_variable, image_of_atom, image_of}
use Rattle.dai_model.proofs.Below.{Each, IsVariableOf, IsAtomOf, atoms_inside}
use Rattle.dai_model.proofs.Folds.{numbers_below-length, numbers_below-at}
use Rattle.dai_model.proofs.Typed.{slice_get-length}
use Rattle.dai_template.specs.Renamings.{IsShapeOf, AreLiterals, IsImage, IsSmallerImage, IsLeastFrom, IsSame, AreAsOrdered, AreTypesBelow, IsTyped, AreKept}
use Rattle.dai_template.proofs.Asked.{none_before}
use Rattle.dai_template.proofs.MetFrom.{count_inside}
use Rattle.dai_template.proofs.Choices.{sort_at}

-- the protocol whose types are ordered as a list says
abbrev pub reordered : List Bool → List Sort → List Sort
reordered kept [] = []
reordered [] (T ∷ Ts) = T ∷ Ts
reordered (b ∷ bs) (T ∷ Ts) = (record T { ordered = b }) ∷ reordered bs Ts

abbrev pub with_orders : List Bool → Protocol → Protocol
with_orders kept P = record P { sorts = reordered kept P.sorts }

reordered_length : (kept : List Bool) (Ts : List Sort) → length (reordered kept Ts) ≡ length Ts
reordered_length kept [] = refl
reordered_length [] (T ∷ Ts) = refl
reordered_length (b ∷ bs) (T ∷ Ts) = ap suc (reordered_length bs Ts)

-- the type of a number, before
type_before : (kept : List Bool) (Ts : List Sort) (t : ℕ) (T : Sort) → length Ts ≤ length kept → slice_get (reordered kept Ts) t ≡ Some T → (U : Sort) × (slice_get Ts t ≡ Some U) × (get_or kept t false ≡ T.ordered)
type_before kept [] t T long h = absurd (let e : ⊥ = cc in e)
type_before [] (U ∷ Ts) t T long h = absurd (omega arith)
type_before (b ∷ bs) (U ∷ Ts) zero T long h =
    let same : (let V : Sort = record U { ordered = b } in V) ≡ T = cc in
    (U, refl, ap (λ (V : Sort). V.ordered) same)
type_before (b ∷ bs) (U ∷ Ts) (suc t) T long h = type_before bs Ts t T (omega arith) h

type_after : (kept : List Bool) (Ts : List Sort) (t : ℕ) (T : Sort) → length Ts ≤ length kept → slice_get Ts t ≡ Some T → (U : Sort) × (slice_get (reordered kept Ts) t ≡ Some U) × (get_or kept t false ≡ U.ordered)
type_after kept [] t T long h = absurd (let e : ⊥ = cc in e)
type_after [] (U ∷ Ts) t T long h = absurd (omega arith)
type_after (b ∷ bs) (U ∷ Ts) zero T long h = (record U { ordered = b }, refl, refl)
type_after (b ∷ bs) (U ∷ Ts) (suc t) T long h = type_after bs Ts t T (omega arith) h

pub kept_shape : (P : Protocol) (ordered kept : List Bool) (counts : List ℕ) (atoms : List Atom) → IsShapeOf P ordered counts atoms → length kept ≡ 8 → IsShapeOf (with_orders kept P) kept counts atoms
kept_shape P ordered kept counts atoms h long =
    let types = h.few_types in
    let each = h.each in
    record {
      orders_are = λ t T found. (type_before kept P.sorts t T (omega (arith, types, each, long)) found).2;
      order_each = omega (arith, types, long);
      atoms_are = h.atoms_are;
      each = let e = reordered_length kept P.sorts in omega (arith, e, each);
      few_types = h.few_types;
      few = h.few;
      few_atoms = h.few_atoms;
    }

pub kept_literals : (P : Protocol) (kept : List Bool) (counts literals : List ℕ) → AreLiterals P counts literals → AreLiterals (with_orders kept P) counts literals
kept_literals P kept counts literals h = record { of_the_shape = h.of_the_shape; each_atom_once = h.each_atom_once }

-- the way back: a renaming that keeps more orders is one

looser : (b o : Bool) (d e : ℕ) → (o ≡ true → b ≡ true) → Apart b d e → Apart o d e
looser true true d e h k = k
looser true false d e h k = λ same. omega (arith, k, same)
looser false true d e h k = absurd (let no : false ≡ true = h refl in let bottom : ⊥ = cc in bottom)
looser false false d e h k = k

tighter_placement : (b o : Bool) (count size : ℕ) (xs : List ℕ) → (o ≡ true → b ≡ true) → IsPlacement b count size xs → IsPlacement o count size xs
tighter_placement b o count size xs h p = record { one_each = p.one_each; inside = p.inside; apart = λ i j before below. looser b o _ _ h (p.apart i j before below) }

-- what is known of the orders
record IsOrderedBy (P : Protocol) (ordered kept : List Bool) (counts : List ℕ) : Type 0 where
  orders_are : (t : ℕ) (T : Sort) → slice_get P.sorts t ≡ Some T → get_or ordered t false ≡ T.ordered
  each : length counts ≡ length P.sorts
  few_types : length counts ≤ 8
  long : length kept ≡ 8
  keeps : (t : ℕ) → t < 8 → get_or ordered t false ≡ true → get_or kept t false ≡ true

ordered_by : (P : Protocol) (ordered kept : List Bool) (counts literals : List ℕ) (atoms : List Atom) → IsShapeOf P ordered counts atoms → AreKept ordered atoms literals kept → IsOrderedBy P ordered kept counts
ordered_by P ordered kept counts literals atoms h k = record { orders_are = h.orders_are; each = h.each; few_types = h.few_types; long = k.long; keeps = k.keeps }

back : (P : Protocol) (ordered kept : List Bool) (counts : List ℕ) (to : List (List ℕ)) → IsOrderedBy P ordered kept counts → ArePlacements (with_orders kept P) counts counts to → ArePlacements P counts counts to
back P ordered kept counts to h p = record {
  one_list_each = p.one_list_each ∙ reordered_length kept P.sorts;
  each = λ t T found.
      let types = h.few_types in
      let each = h.each in
      let long = h.long in
      let inside = slice_get-length P.sorts t T found in
      let after = type_after kept P.sorts t T (omega (arith, types, each, long)) found in
      tighter_placement after.0.ordered T.ordered (slice_index counts t) (slice_index counts t) (of_sort to t)
      (λ own. sym after.2 ∙ h.keeps t (omega (arith, inside, each, types)) (h.orders_are t T found ∙ own))
      (p.each t after.0 after.1);
}

same_image : (P : Protocol) (kept : List Bool) (counts : List ℕ) (to : List (List ℕ)) (literals others : List ℕ) → IsImage (with_orders kept P) counts to literals others → IsImage P counts to literals others
same_image P kept counts to literals others h = record { are = record { of_the_shape = h.are.of_the_shape; each_atom_once = h.are.each_atom_once }; as_many = h.as_many; taken = h.taken }

pub kept_smaller : (P : Protocol) (ordered kept : List Bool) (counts literals others : List ℕ) (atoms : List Atom) → IsShapeOf P ordered counts atoms → AreKept ordered atoms literals kept → IsSmallerImage (with_orders kept P) counts literals others → IsSmallerImage P counts literals others
kept_smaller P ordered kept counts literals others atoms h k image = record {
  to = image.to;
  places = back P ordered kept counts image.to (ordered_by P ordered kept counts literals atoms h k) image.places;
  image = same_image P kept counts image.to literals others image.image;
  less = image.less;
}

-- the way there: a renaming that leaves the types alone of which the literals have no variable

not_below : (n : ℕ) (xs : List ℕ) (i : ℕ) → IsPlacement true n n xs → i < n → i ≤ slice_index xs i
not_below n xs zero p h = omega arith
not_below n xs (suc i) p h =
    let before = not_below n xs i p (omega (arith, h)) in
    let up : slice_index xs i < slice_index xs (suc i) = p.apart i (suc i) (omega arith) h in
    omega (arith, before, up)

not_above : (n : ℕ) (xs : List ℕ) (k i : ℕ) → IsPlacement true n n xs → i + k + 1 ≡ n → slice_index xs i + k < n
not_above n xs zero i p e = let h = p.inside i (omega (arith, e)) in omega (arith, h)
not_above n xs (suc k) i p e =
    let after = not_above n xs k (suc i) p (omega (arith, e)) in
    let up : slice_index xs i < slice_index xs (suc i) = p.apart i (suc i) (omega arith) (omega (arith, e)) in
    omega (arith, after, up)

-- numbers that keep their order stay what they are
stay : (n : ℕ) (xs : List ℕ) (i : ℕ) → IsPlacement true n n xs → i < n → slice_index xs i ≡ i
stay n xs i p h =
    let low = not_below n xs i p h in
    let high = not_above n xs (n - (i + 1)) i p (omega (arith, h)) in
    omega (arith, low, high, h)

unmoved_placement : (count : ℕ) → IsPlacement true count count (numbers_below count)
unmoved_placement count = record {
  one_each = numbers_below-length count;
  inside = λ i h. let e = numbers_below-at count i 0 h in omega (arith, e, h);
  apart = λ i j h k.
      let ei = numbers_below-at count i 0 (omega (arith, h, k)) in
      let ej = numbers_below-at count j 0 k in
      let less : slice_index (numbers_below count) i < slice_index (numbers_below count) j = omega (arith, ei, ej, h) in
      less;
}

abbrev partly : List Bool → List ℕ → List (List ℕ) → List (List ℕ)
partly kept counts to = map (λ t. if get_or kept t false then numbers_below (slice_index counts t) else of_sort to t) (numbers_below (length counts))

partly_at : (kept : List Bool) (counts : List ℕ) (to : List (List ℕ)) (t : ℕ) → t < length counts → of_sort (partly kept counts to) t ≡ (if get_or kept t false then numbers_below (slice_index counts t) else of_sort to t)
partly_at kept counts to t h =
    let long = numbers_below-length (length counts) in
    let at = numbers_below-at (length counts) t 0 h in
    get_or-map (λ u. if get_or kept u false then numbers_below (slice_index counts u) else of_sort to u) (numbers_below (length counts)) t 0 [] (omega (arith, long, h))
    ∙ ap (λ u. if get_or kept u false then numbers_below (slice_index counts u) else of_sort to u) at

partly_placement : (b o : Bool) (count : ℕ) (xs : List ℕ) → (o ≡ true → b ≡ true) → IsPlacement o count count xs → IsPlacement b count count (if b then numbers_below count else xs)
partly_placement true o count xs h p = unmoved_placement count
partly_placement false true count xs h p = absurd (let no : false ≡ true = h refl in let bottom : ⊥ = cc in bottom)
partly_placement false false count xs h p = p

there : (P : Protocol) (ordered kept : List Bool) (counts : List ℕ) (to : List (List ℕ)) → IsOrderedBy P ordered kept counts → ArePlacements P counts counts to → ArePlacements (with_orders kept P) counts counts (partly kept counts to)
there P ordered kept counts to h p = record {
  one_list_each = length-map (numbers_below (length counts)) _ ∙ (numbers_below-length (length counts) ∙ (h.each ∙ sym (reordered_length kept P.sorts)));
  each = λ t T found.
      let types = h.few_types in
      let each = h.each in
      let long = h.long in
      let before = type_before kept P.sorts t T (omega (arith, types, each, long)) found in
      let inside : t < length counts = let k = slice_get-length P.sorts t before.0 before.1 in omega (arith, k, each) in
      subst (λ b. IsPlacement b (slice_index counts t) (slice_index counts t) (of_sort (partly kept counts to) t)) before.2
      (subst (IsPlacement (get_or kept t false) (slice_index counts t) (slice_index counts t)) (sym (partly_at kept counts to t inside))
      (partly_placement (get_or kept t false) before.0.ordered (slice_index counts t) (of_sort to t)
      (λ own. h.keeps t (omega (arith, inside, types)) (h.orders_are t before.0 before.1 ∙ own))
      (p.each t before.0 before.1)));
}

partly_value : (b o : Bool) (count n : ℕ) (xs : List ℕ) → b ≡ o → IsPlacement o count count xs → n < count → slice_index (if b then numbers_below count else xs) n ≡ slice_index xs n
partly_value true true count n xs e p h = numbers_below-at count n 0 h ∙ sym (stay count xs n p h)
partly_value true false count n xs e p h = absurd (let bottom : ⊥ = cc in bottom)
partly_value false o count n xs e p h = refl

same_value : (P : Protocol) (ordered kept : List Bool) (counts : List ℕ) (to : List (List ℕ)) (v : Variable) → IsOrderedBy P ordered kept counts → ArePlacements P counts counts to → IsVariableOf counts v → IsSame kept ordered v.sort → image_of_variable (partly kept counts to) v ≡ image_of_variable to v
same_value P ordered kept counts to v h p inside same =
    let below = count_inside counts v.sort v.number inside in
    let found = sort_at P.sorts v.sort (let e = h.each in omega (arith, e, below)) in
    let value : value_at (partly kept counts to) v ≡ value_at to v =
    ap (λ xs. slice_index xs v.number) (partly_at kept counts to v.sort below)
    ∙ partly_value (get_or kept v.sort false) found.0.ordered (slice_index counts v.sort) v.number (of_sort to v.sort) (same ∙ h.orders_are v.sort found.0 found.1) (p.each v.sort found.0 found.1) inside in
    ap (λ (n : ℕ). let w : Variable = record { sort = v.sort; number = n } in w) value

same_values : (P : Protocol) (ordered kept : List Bool) (counts : List ℕ) (to : List (List ℕ)) (vs : List Variable) → IsOrderedBy P ordered kept counts → ArePlacements P counts counts to → Each (IsVariableOf counts) vs → All (λ (v : Variable). IsSame kept ordered v.sort) vs → map (image_of_variable (partly kept counts to)) vs ≡ map (image_of_variable to) vs
same_values P ordered kept counts to [] h p inside same = refl
same_values P ordered kept counts to (v ∷ vs) h p inside same =
    let here = same_value P ordered kept counts to v h p inside.0 (same 0 v (omega arith)) in
    let rest = same_values P ordered kept counts to vs h p inside.1 (λ k d below. same (suc k) d (omega (arith, below))) in
    cc

same_atom : (P : Protocol) (ordered kept : List Bool) (counts : List ℕ) (to : List (List ℕ)) (a : Atom) → IsOrderedBy P ordered kept counts → ArePlacements P counts counts to → IsAtomOf counts a → AreAsOrdered kept ordered a → image_of_atom (partly kept counts to) a ≡ image_of_atom to a
same_atom P ordered kept counts to (tuple r vs) h p inside same = ap (tuple r) (same_values P ordered kept counts to vs h p inside same)
same_atom P ordered kept counts to (is_individual v i) h p inside same = ap (λ w. is_individual w i) (same_value P ordered kept counts to v h p inside same)

each_at : {X : Type 0} (P : X → Type 0) (xs : List X) (k : ℕ) (d : X) → k < length xs → Each P xs → P (get_or xs k d)
each_at P [] k d h e = absurd (omega arith)
each_at P (x ∷ xs) zero d h e = e.0
each_at P (x ∷ xs) (suc k) d h e = each_at P xs k d (omega arith) e.1

there_image : (P : Protocol) (ordered kept : List Bool) (counts literals : List ℕ) (atoms : List Atom) (to : List (List ℕ)) (others : List ℕ) → IsShapeOf P ordered counts atoms → AreLiterals P counts literals → AreKept ordered atoms literals kept → ArePlacements P counts counts to → IsImage P counts to literals others → IsImage (with_orders kept P) counts (partly kept counts to) literals others
there_image P ordered kept counts literals atoms to others h are k p image = record {
  are = record { of_the_shape = image.are.of_the_shape; each_atom_once = image.are.each_atom_once };
  as_many = image.as_many;
  taken = λ l found.
      let at : slice_index literals found.0 ≡ l = get_or_default literals found.0 0 l found.1 ∙ found.2 in
      let below : l < 2 * length (atoms_of P counts) = subst (λ x. x < 2 * length (atoms_of P counts)) at (are.of_the_shape found.0 0 found.1) in
      let rest : l % 2 < 2 = omega arith in
      let half : l / 2 < length (atoms_of P counts) = omega (arith, below, rest) in
      let freed : AreAsOrdered kept ordered (literal_among (atoms_of P counts) l).atom = subst (λ n. AreAsOrdered kept ordered (literal_among (atoms_of P counts) n).atom) at (subst (λ xs. AreAsOrdered kept ordered (literal_among xs (slice_index literals found.0)).atom) h.atoms_are (k.freed found.0 found.1)) in
      let same = same_atom P ordered kept counts to (get_or (atoms_of P counts) (l / 2) no_atom) (ordered_by P ordered kept counts literals atoms h k) p (each_at (IsAtomOf counts) (atoms_of P counts) (l / 2) no_atom half (atoms_inside P counts)) freed in
      let moved : image_of to (literal_among (atoms_of P counts) l) ≡ image_of (partly kept counts to) (literal_among (atoms_of P counts) l) = ap (λ (a : Atom). let m : Literal = record { atom = a; negated = (literal_among (atoms_of P counts) l).negated } in m) (sym same) in
      subst (Contains (map (literal_among (atoms_of P counts)) others)) moved (image.taken l found);
}

pub kept_least : (P : Protocol) (ordered kept : List Bool) (counts literals values : List ℕ) (atoms : List Atom) → IsShapeOf P ordered counts atoms → AreLiterals P counts literals → AreKept ordered atoms literals kept → IsLeastFrom (with_orders kept P) counts literals 0 0 values → IsLeastFrom P counts literals 0 0 values
kept_least P ordered kept counts literals values atoms h are k least to placed agree others image =
    least (partly kept counts to) (there P ordered kept counts to (ordered_by P ordered kept counts literals atoms h k) placed) (λ t i below before. absurd (none_before t i before)) others (there_image P ordered kept counts literals atoms to others h are k placed image)

-- the types of a shape's atoms are few
below_each : (counts : List ℕ) (n : ℕ) (vs : List Variable) → length counts ≤ n → Each (IsVariableOf counts) vs → All (λ (v : Variable). v.sort < n) vs
below_each counts n [] many h k d below = absurd (omega arith)
below_each counts n (v ∷ vs) many h zero d below = let a = count_inside counts v.sort v.number h.0 in omega (arith, a, many)
below_each counts n (v ∷ vs) many h (suc k) d below = below_each counts n vs many h.1 k d (omega arith)

types_below : (counts : List ℕ) (n : ℕ) (a : Atom) → length counts ≤ n → IsAtomOf counts a → AreTypesBelow n a
types_below counts n (tuple r vs) many h = below_each counts n vs many h
types_below counts n (is_individual v i) many h = let a = count_inside counts v.sort v.number h in omega (arith, a, many)

all_below : (P : Protocol) (counts : List ℕ) (atoms : List Atom) (n : ℕ) → atoms ≡ atoms_of P counts → length counts ≤ n → All (AreTypesBelow n) atoms
all_below P counts atoms n e many = subst (All (AreTypesBelow n)) (sym e) (λ k d below. types_below counts n (get_or (atoms_of P counts) k d) many (each_at (IsAtomOf counts) (atoms_of P counts) k d below (atoms_inside P counts)))

pub typed : (P : Protocol) (ordered : List Bool) (counts : List ℕ) (atoms : List Atom) (literals : List ℕ) → IsShapeOf P ordered counts atoms → AreLiterals P counts literals → IsTyped (length ordered) atoms literals
typed P ordered counts atoms literals h are = record {
  few = all_below P counts atoms 8 h.atoms_are h.few_types;
  known = all_below P counts atoms (length ordered) h.atoms_are h.order_each;
  inside = subst (λ xs. All (λ l. l < 2 * length xs) literals) (sym h.atoms_are) are.of_the_shape;
}
