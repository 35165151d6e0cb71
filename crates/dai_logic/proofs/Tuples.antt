-- Where a tuple stands in its relation's table, and the structure that a structure of tables stands for.
use Rattle.std.proofs.Common.{◌≡◌, ℕ, zero, suc, ◌+◌, ◌*◌, ◌/◌, ◌%◌, ◌^◌, ◌<◌, ◌≤◌, ◌&&◌, Bool, true, false, List, [], ◌∷◌, length, get_or, drop, map, Option, Some, None, slice_get, Vec, sym, ap, ◌∙◌, refl, subst, arith, ◌⊎◌, inl, inr, lit<}
use Rattle.std.specs.Prelude.{nat_lt}
use Rattle.std.specs.Option.{option_map}
use Rattle.std.specs.declared.alloc.Global.{Global}
use Rattle.std.proofs.Math.Nat.{add-mul, mul_assoc, mul_comm, mul-zero, le_refl, le-mul_of_pos_right}
use Rattle.std.proofs.lemmas.Bool.{cases_lt}
use Rattle.std.proofs.lemmas.Bool.Decides.{nat_tests}
use Rattle.std.proofs.lemmas.List.{get_or_past, get_or_default, drop_more, length-map}
use Rattle.std.proofs.lemmas.Nat.{mul-add-lt, div-mul-add, mod-mul-add, div-add-mod', mul-le}
use Rattle.dai_model.specs.Formula.{Term, variable, individual, parameter, choice, relates}
use Rattle.dai_model.specs.Protocol.{Protocol, Relation, Individual}
use Rattle.dai_model.specs.Structure as Model
use Rattle.dai_model.specs.Structure.{is_tuple, is_tuple_for, IsStructure}
use Rattle.dai_model.specs.Value.{Environment, value_of_term}
use Rattle.dai_model.specs.WellSorted.{Scope, sort_of, HasSort, HaveSorts, EnvironmentFits}
use Rattle.dai_model.proofs.Typed.{and_left, and_right, term_fits, slice_get-length}
use Rattle.dai_logic.specs.declared.structure.Structure.{Structure}
use Rattle.dai_logic.specs.Tables.{structure_of, tables_of, bits_of, bit_in, tuple_count, tuple_place, tuple_at, Fits, Gives, HasPlace, IsEvaluable}

pub lt_from_test : (m n : ℕ) → nat_lt m n ≡ true → m < n
lt_from_test m n h = grind (arith, nat_tests)

pub test_from_lt : (m n : ℕ) → m < n → nat_lt m n ≡ true
test_from_lt m n h = grind (arith, nat_tests)

pub place_inside : (sizes sorts es : List ℕ) → is_tuple sizes sorts es ≡ true → tuple_place sizes sorts es < tuple_count sizes sorts
place_inside sizes [] [] h = omega arith
place_inside sizes [] (e ∷ es) h = absurd (let k : ⊥ = cc in k)
place_inside sizes (sort ∷ sorts) [] h = absurd (let k : ⊥ = cc in k)
place_inside sizes (sort ∷ sorts) (e ∷ es) h =
    let size = get_or sizes sort 0 in
    let c = tuple_count sizes sorts in
    subst (λ n. e * c + tuple_place sizes sorts es < n) (mul_comm c size) (mul-add-lt e c (tuple_place sizes sorts es) size (lt_from_test e size (and_left _ _ h)) (place_inside sizes sorts es (and_right (nat_lt e size) _ h)))

pub tuple_length : (sizes sorts es : List ℕ) → is_tuple sizes sorts es ≡ true → length es ≡ length sorts
tuple_length sizes [] [] h = refl
tuple_length sizes [] (e ∷ es) h = absurd (let k : ⊥ = cc in k)
tuple_length sizes (sort ∷ sorts) [] h = absurd (let k : ⊥ = cc in k)
tuple_length sizes (sort ∷ sorts) (e ∷ es) h = ap suc (tuple_length sizes sorts es (and_right (nat_lt e (get_or sizes sort 0)) _ h))

-- a type with an element has a size
pub size_inside : (sizes : List ℕ) (sort e : ℕ) → e < get_or sizes sort 0 → sort < length sizes
size_inside sizes sort e h = by_cases (cases_lt sort (length sizes))
  where
    by_cases : (sort < length sizes) ⊎ (length sizes ≤ sort) → sort < length sizes
    by_cases (inl below) = below
    by_cases (inr past) = let none = get_or_past sizes sort 0 past in absurd (omega arith)

-- the elements so far have this place, and the rest completes it
pub record IsRead (sizes sorts es : List ℕ) (total : ℕ) (place : ℕ) : Type 0 where
  pub tuple : is_tuple sizes sorts es ≡ true
  pub number : place * tuple_count sizes sorts + tuple_place sizes sorts es ≡ total

pub record IsReadMore (sizes : List ℕ) (sort : ℕ) (sorts : List ℕ) (e : ℕ) (es : List ℕ) (total place : ℕ) : Type 0 where
  pub known : sort < length sizes
  pub element : e < get_or sizes sort 0
  pub bound : place * get_or sizes sort 0 + e ≤ total
  pub next : IsRead sizes sorts es total (place * get_or sizes sort 0 + e)

regroup : (place size c e r : ℕ) → (place * size + e) * c + r ≡ place * (size * c) + (e * c + r)
regroup place size c e r = omega (arith, add-mul (place * size) e c, mul_assoc place size c)

read_cons : (sizes : List ℕ) (sort : ℕ) (sorts : List ℕ) (e : ℕ) (es : List ℕ) (total place : ℕ) → IsRead sizes (sort ∷ sorts) (e ∷ es) total place → IsReadMore sizes sort sorts e es total place
read_cons sizes sort sorts e es total place h =
    let size = get_or sizes sort 0 in
    let c = tuple_count sizes sorts in
    let r = tuple_place sizes sorts es in
    let element : e < get_or sizes sort 0 = lt_from_test e size (and_left _ _ h.tuple) in
    let rest : is_tuple sizes sorts es ≡ true = and_right (nat_lt e size) _ h.tuple in
    let inside : r < c = place_inside sizes sorts es rest in
    let whole : (place * size + e) * c + r ≡ total = regroup place size c e r ∙ h.number in
    let grows : place * size + e ≤ (place * size + e) * c = let some : 0 < c = omega arith in le-mul_of_pos_right {m = c} (place * size + e) some in
    record {
      known = size_inside sizes sort e element;
      element = element;
      bound = omega arith;
      next = record { tuple = rest; number = whole };
    }

pub read_more : (sizes sorts es : List ℕ) (k total place : ℕ) → k < length sorts → k < length es → IsRead sizes (drop k sorts) (drop k es) total place → IsReadMore sizes (get_or sorts k 0) (drop (k + 1) sorts) (get_or es k 0) (drop (k + 1) es) total place
read_more sizes sorts es k total place below inside h =
    read_cons sizes (get_or sorts k 0) (drop (k + 1) sorts) (get_or es k 0) (drop (k + 1) es) total place
    (subst (λ ys. IsRead sizes (get_or sorts k 0 ∷ drop (k + 1) sorts) ys total place) (drop_more es k 0 inside) (subst (λ xs. IsRead sizes xs (drop k es) total place) (drop_more sorts k 0 below) h))

pub read_all : (sizes sorts es : List ℕ) (total place : ℕ) → sorts ≡ [] → IsRead sizes sorts es total place → place ≡ total
read_all sizes [] es total place e h = let n : place * 1 + 0 ≡ total = h.number in omega arith
read_all sizes (sort ∷ sorts) es total place e h = absurd (let k : ⊥ = cc in k)

-- what fits is a structure of the protocol
pub fits_structure : (P : Protocol) (s : Structure) → Fits P s → IsStructure P (structure_of P s)
fits_structure P s fits = record {
  one_size_each = fits.one_size_each;
  inhabited = fits.inhabited;
  tuples_inside = λ r es h. and_left _ _ h;
  elements_inside = fits.values_inside;
  nothing_outside = λ i h. get_or_past s.values.items i 0 (let one = fits.one_value_each in omega arith);
}

cons_tuple : (sizes : List ℕ) (sort : ℕ) (sorts : List ℕ) (e : ℕ) (es : List ℕ) → e < get_or sizes sort 0 → is_tuple sizes sorts es ≡ true → (nat_lt e (get_or sizes sort 0) && is_tuple sizes sorts es) ≡ true
cons_tuple sizes sort sorts e es below rest = ap (λ b. b && is_tuple sizes sorts es) (test_from_lt e (get_or sizes sort 0) below) ∙ rest

-- terms of these types stand for a tuple
pub terms_tuple : (P : Protocol) (scope : Scope) (S : Model.Structure) (env : Environment) (ts : List Term) (sorts : List ℕ) → IsStructure P S → EnvironmentFits scope S.sizes env → map (sort_of P scope) ts ≡ map Some sorts → is_tuple S.sizes sorts (map (value_of_term S env) ts) ≡ true
terms_tuple P scope S env [] [] st fits h = refl
terms_tuple P scope S env [] (sort ∷ sorts) st fits h = absurd (let k : ⊥ = cc in k)
terms_tuple P scope S env (t ∷ ts) [] st fits h = absurd (let k : ⊥ = cc in k)
terms_tuple P scope S env (t ∷ ts) (sort ∷ sorts) st fits h =
    cons_tuple S.sizes sort sorts (value_of_term S env t) (map (value_of_term S env) ts) (term_fits P scope S env t sort st fits (let k : sort_of P scope t ≡ Some sort = cc in k)) (terms_tuple P scope S env ts sorts st fits (let k : map (sort_of P scope) ts ≡ map Some sorts = cc in k))

-- a term that has a type has a value
individual_place : (P : Protocol) (s : Structure) (i sort : ℕ) (o : Option Individual) → Fits P s → slice_get P.individuals i ≡ o → option_map (λ (I : Individual). I.sort) o ≡ Some sort → i < length s.values.items
individual_place P s i sort None fits h e = absurd (let k : ⊥ = cc in k)
individual_place P s i sort (Some I) fits h e =
    let below = slice_get-length P.individuals i I h in
    let one = fits.one_value_each in
    omega arith

pub term_place : (P : Protocol) (scope : Scope) (s : Structure) (env : Environment) (t : Term) (sort : ℕ) → Fits P s → Gives scope s.sizes.items env → HasSort P scope t sort → HasPlace s env t
term_place P scope s env (variable v) sort fits gives h = tt
term_place P scope s env (individual i) sort fits gives h = individual_place P s i sort (slice_get P.individuals i) fits refl h
term_place P scope s env (parameter p) sort fits gives h =
    let below = slice_get-length scope.parameters p sort h in
    let given = gives.parameters in
    omega arith
term_place P scope s env (choice c) sort fits gives h =
    let below = slice_get-length scope.choices c sort h in
    let given = gives.choices in
    omega arith

pub sort_at : (P : Protocol) (scope : Scope) (ts : List Term) (sorts : List ℕ) (k : ℕ) (d : Term) → HaveSorts P scope ts sorts → k < length ts → HasSort P scope (get_or ts k d) (get_or sorts k 0)
sort_at P scope [] sorts k d h below = absurd (omega arith)
sort_at P scope (t ∷ ts) [] k d h below = absurd (let e : ⊥ = cc in e)
sort_at P scope (t ∷ ts) (sort ∷ sorts) zero d h below = cc
sort_at P scope (t ∷ ts) (sort ∷ sorts) (suc k) d h below = sort_at P scope ts sorts k d (let e : map (sort_of P scope) ts ≡ map Some sorts = cc in e) (omega arith)

-- each table is as long as memory allows
table_bound : (tables : Vec (Vec Bool Global) Global) (r : ℕ) → length (get_or (bits_of tables) r []) < 2 ^ 64
table_bound tables r = bound_in tables.items r
  where
    bound_in : (ts : List (Vec Bool Global)) (r : ℕ) → length (get_or (map (λ (t : Vec Bool Global). t.items) ts) r []) < 2 ^ 64
    bound_in [] r = lit< tt
    bound_in (t ∷ ts) zero = let long = t.ok.0 in let few = t.small in omega arith
    bound_in (t ∷ ts) (suc r) = bound_in ts r

-- what a well-sorted tuple of terms says where the structure fits
pub record IsTupleIn (P : Protocol) (s : Structure) (env : Environment) (r : ℕ) (ts : List Term) (sorts : List ℕ) : Type 0 where
  pub tuple : is_tuple s.sizes.items sorts (map (value_of_term (structure_of P s) env) ts) ≡ true
  pub known : r < length (tables_of s)
  pub inside : tuple_place s.sizes.items sorts (map (value_of_term (structure_of P s) env) ts) < length (get_or (tables_of s) r [])
  pub bound : tuple_place s.sizes.items sorts (map (value_of_term (structure_of P s) env) ts) < 2 ^ 64

pub relation_known : (P : Protocol) (s : Structure) (r : ℕ) (R : Relation) → Fits P s → slice_get P.relations r ≡ Some R → r < length (tables_of s)
relation_known P s r R fits found =
    let below = slice_get-length P.relations r R found in
    let one = fits.one_table_each in
    let long = length-map s.tables.items (λ (t : Vec Bool Global). t.items) in
    omega arith

pub relates_tuple : (P : Protocol) (s : Structure) (env : Environment) (r : ℕ) (ts : List Term) (sorts : List ℕ) → Fits P s → IsEvaluable P s.sizes.items env (relates r ts) → ((R : Relation) → slice_get P.relations r ≡ Some R → sorts ≡ R.arguments) → IsTupleIn P s env r ts sorts
relates_tuple P s env r ts sorts fits h same =
    let R = h.sorted.0 in
    let own : sorts ≡ R.arguments = same R h.sorted.1 in
    let tuple : is_tuple s.sizes.items sorts (map (value_of_term (structure_of P s) env) ts) ≡ true =
    subst (λ xs. is_tuple s.sizes.items xs (map (value_of_term (structure_of P s) env) ts) ≡ true) (sym own) (terms_tuple P h.scope (structure_of P s) env ts R.arguments (fits_structure P s fits) h.gives.fits h.sorted.2) in
    let inside = place_inside s.sizes.items sorts (map (value_of_term (structure_of P s) env) ts) tuple in
    let whole = fits.whole_tables r R h.sorted.1 ∙ ap (tuple_count s.sizes.items) (sym own) in
    let few = table_bound s.tables r in
    record { tuple = tuple; known = relation_known P s r R fits h.sorted.1; inside = omega arith; bound = omega arith }

-- the step of a walk along terms
pub record IsWalked (P : Protocol) (s : Structure) (env : Environment) (ts : List Term) (sorts : List ℕ) (k place total size element : ℕ) : Type 0 where
  pub product : place * size < 2 ^ 64
  pub sum : place * size + element < 2 ^ 64
  pub next : IsRead s.sizes.items (drop (k + 1) sorts) (drop (k + 1) (map (value_of_term (structure_of P s) env) ts)) total (place * size + element)

pub walked : (P : Protocol) (s : Structure) (env : Environment) (ts : List Term) (sorts : List ℕ) (k place total size element sort : ℕ) → total < 2 ^ 64 → k < length sorts → k < length (map (value_of_term (structure_of P s) env) ts) → IsRead s.sizes.items (drop k sorts) (drop k (map (value_of_term (structure_of P s) env) ts)) total place → sort ≡ get_or sorts k 0 → size ≡ get_or s.sizes.items sort 0 → element ≡ get_or (map (value_of_term (structure_of P s) env) ts) k 0 → IsWalked P s env ts sorts k place total size element
walked P s env ts sorts k place total size element sort few below inside h is size_is element_is =
    let m = read_more s.sizes.items sorts (map (value_of_term (structure_of P s) env) ts) k total place below inside h in
    let size_at : get_or s.sizes.items (get_or sorts k 0) 0 ≡ size = ap (λ x. get_or s.sizes.items x 0) (sym is) ∙ sym size_is in
    let number : place * get_or s.sizes.items (get_or sorts k 0) 0 + get_or (map (value_of_term (structure_of P s) env) ts) k 0 ≡ place * size + element = ap (λ x. place * x + get_or (map (value_of_term (structure_of P s) env) ts) k 0) size_at ∙ ap (λ x. place * size + x) (sym element_is) in
    let bound = m.bound in
    record {
      product = omega arith;
      sum = omega arith;
      next = subst (λ n. IsRead s.sizes.items (drop (k + 1) sorts) (drop (k + 1) (map (value_of_term (structure_of P s) env) ts)) total n) number m.next;
    }

-- the value of a relation's formula, from the table
pub relates_value : (P : Protocol) (s : Structure) (env : Environment) (r : ℕ) (ts : List Term) (R : Relation) (place : ℕ) (b : Bool) → slice_get P.relations r ≡ Some R → is_tuple s.sizes.items R.arguments (map (value_of_term (structure_of P s) env) ts) ≡ true → place ≡ tuple_place s.sizes.items R.arguments (map (value_of_term (structure_of P s) env) ts) → b ≡ get_or (get_or (tables_of s) r []) place false → b ≡ (structure_of P s).holds r (map (value_of_term (structure_of P s) env) ts)
relates_value P s env r ts R place b found tuple place_is is = is ∙ sym (holds_at (slice_get P.relations r) found)
  where
    holds_at : (o : Option Relation) → o ≡ Some R → (is_tuple_for s.sizes.items o (map (value_of_term (structure_of P s) env) ts) && bit_in s.sizes.items (get_or (tables_of s) r []) o (map (value_of_term (structure_of P s) env) ts)) ≡ get_or (get_or (tables_of s) r []) place false
    holds_at o e =
        ap (λ p. is_tuple_for s.sizes.items p (map (value_of_term (structure_of P s) env) ts) && bit_in s.sizes.items (get_or (tables_of s) r []) p (map (value_of_term (structure_of P s) env) ts)) e
        ∙ (ap (λ t. t && get_or (get_or (tables_of s) r []) (tuple_place s.sizes.items R.arguments (map (value_of_term (structure_of P s) env) ts)) false) tuple
        ∙ ap (λ n. get_or (get_or (tables_of s) r []) n false) (sym place_is))

-- The walk along a list of terms that the program keeps: how the loop of `place_of` goes on.
pub record IsWalkedHere (P : Protocol) (s : Structure) (env : Environment) (ts : List Term) (sorts : List ℕ) (k place total : ℕ) : Type 0 where
  pub sort_inside : k < length sorts
  pub size_inside : get_or sorts k 0 < length s.sizes.items
  pub step : (size element : ℕ) → size ≡ get_or s.sizes.items (get_or sorts k 0) size → element ≡ get_or (map (value_of_term (structure_of P s) env) ts) k 0 → IsWalked P s env ts sorts k place total size element

pub walked_here : (P : Protocol) (s : Structure) (env : Environment) (r : ℕ) (ts : List Term) (sorts : List ℕ) (k place : ℕ) → IsTupleIn P s env r ts sorts → k < length ts → IsRead s.sizes.items (drop k sorts) (drop k (map (value_of_term (structure_of P s) env) ts)) (tuple_place s.sizes.items sorts (map (value_of_term (structure_of P s) env) ts)) place → IsWalkedHere P s env ts sorts k place (tuple_place s.sizes.items sorts (map (value_of_term (structure_of P s) env) ts))
walked_here P s env r ts sorts k place h below read =
    let as_long = tuple_length s.sizes.items sorts (map (value_of_term (structure_of P s) env) ts) h.tuple in
    let mapped = length-map ts (value_of_term (structure_of P s) env) in
    let sort_in : k < length sorts = omega arith in
    let element_in : k < length (map (value_of_term (structure_of P s) env) ts) = omega arith in
    let more = read_more s.sizes.items sorts (map (value_of_term (structure_of P s) env) ts) k (tuple_place s.sizes.items sorts (map (value_of_term (structure_of P s) env) ts)) place sort_in element_in read in
    record {
      sort_inside = sort_in;
      size_inside = more.known;
      step = λ size element size_is element_is.
          walked P s env ts sorts k place (tuple_place s.sizes.items sorts (map (value_of_term (structure_of P s) env) ts)) size element (get_or sorts k 0) h.bound sort_in element_in read refl (size_is ∙ get_or_default s.sizes.items (get_or sorts k 0) size 0 more.known) element_is;
    }

tuple_of_cons : (sizes sorts : List ℕ) (n m sort e : ℕ) (es : List ℕ) → n ≡ e → m ≡ tuple_place sizes sorts es → tuple_at sizes sorts (tuple_place sizes sorts es) ≡ es → (n ∷ tuple_at sizes sorts m) ≡ (e ∷ es)
tuple_of_cons sizes sorts n m sort e es first rest same = λ i. first i ∷ (ap (tuple_at sizes sorts) rest ∙ same) i

-- a tuple is the one at its place
pub tuple_of_place : (sizes sorts es : List ℕ) → is_tuple sizes sorts es ≡ true → tuple_at sizes sorts (tuple_place sizes sorts es) ≡ es
tuple_of_place sizes [] [] h = refl
tuple_of_place sizes [] (e ∷ es) h = absurd (let k : ⊥ = cc in k)
tuple_of_place sizes (sort ∷ sorts) [] h = absurd (let k : ⊥ = cc in k)
tuple_of_place sizes (sort ∷ sorts) (e ∷ es) h =
    let rest : is_tuple sizes sorts es ≡ true = and_right (nat_lt e (get_or sizes sort 0)) _ h in
    let inside = place_inside sizes sorts es rest in
    tuple_of_cons sizes sorts _ _ sort e es (div-mul-add e (tuple_count sizes sorts) (tuple_place sizes sorts es) inside) (mod-mul-add e (tuple_count sizes sorts) (tuple_place sizes sorts es) inside) (tuple_of_place sizes sorts es rest)

-- at each place there is a tuple, and it stands there
pub place_of_tuple : (sizes sorts : List ℕ) (place : ℕ) → place < tuple_count sizes sorts → (is_tuple sizes sorts (tuple_at sizes sorts place) ≡ true) × (tuple_place sizes sorts (tuple_at sizes sorts place) ≡ place)
place_of_tuple sizes [] place h = (refl, omega arith)
place_of_tuple sizes (sort ∷ sorts) place h =
    let c = tuple_count sizes sorts in
    let size = get_or sizes sort 0 in
    let some : 0 < c = some_factor size c place h in
    let rest : place % c < c = omega arith in
    let known = place_of_tuple sizes sorts (place % c) rest in
    let whole : place / c * c + place % c ≡ place = div-add-mod' place c in
    let element : place / c < size = div-less size c place some h in
    (cons_tuple sizes sort sorts (place / c) (tuple_at sizes sorts (place % c)) element known.0, ap (λ n. place / c * c + n) known.1 ∙ whole)
  where
    some_factor : (m c n : ℕ) → n < m * c → 0 < c
    some_factor m zero n below = absurd (omega (arith, mul-zero m))
    some_factor m (suc c) n below = omega arith

    div-less : (m c n : ℕ) → 0 < c → n < m * c → n / c < m
    div-less m c n some below = by_cases (cases_lt (n / c) m)
      where
        by_cases : (n / c < m) ⊎ (m ≤ n / c) → n / c < m
        by_cases (inl less) = less
        by_cases (inr more) = absurd (omega (arith, mul-le m c (n / c) c more (le_refl c), div-add-mod' n c))
