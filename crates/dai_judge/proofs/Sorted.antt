-- The formula of a template is closed and well-sorted.
use Rattle.std.proofs.Common.{◌≡◌, ◌<◌, ◌≤◌, ℕ, zero, suc, ◌+◌, ◌*◌, ◌/◌, ◌%◌, Bool, true, false, List, [], ◌∷◌, length, get_or, map, take, Some, sym, ap, ◌∙◌, refl, arith}
use Rattle.std.specs.Prelude.{slice_index, slice_get, sum, nat_eq, if◌then◌else◌}
use Rattle.std.specs.Option.{option_map}
use Rattle.std.specs.List.{All}
use Rattle.std.proofs.lemmas.List.Elements.{All-head, All-tail}
use Rattle.std.proofs.lemmas.Bool.Decides.{nat_tests}
use Rattle.std.proofs.lemmas.Option.{slice_get-get_or}
use Rattle.dai_model.specs.Protocol.{Protocol, Sort, Individual}
use Rattle.dai_model.specs.Formula.{Formula, negation, disjunction}
use Rattle.dai_model.specs.WellSorted.{Scope, closed_scope, with_variable, sort_of, IsOrdered, IsWellSorted, AreWellSorted}
use Rattle.dai_model.specs.Clause.{Variable, Atom, tuple, is_individual, Clause, literal_among, no_atom, is_negated, numbers_below, atoms_of, literals_of}
use Rattle.dai_model.specs.Template.{Bounds, IsTemplate}
use Rattle.dai_model.proofs.Below.{Each, Each-append, Each-map, Each-flat_map, Each-any, Each-at, IsVariableOf, IsAtomOf, atoms_inside}
use Rattle.dai_model.proofs.ShapeAtoms.{sorts_of, IsNamed, atoms_named}
use Rattle.dai_template.specs.ClauseFormulas.{term_at, atom_formula, literal_formula, clash, clashes_with, clashes_of, clashes, formulas_from, for_all, types_from, orders_of, parts_of, formula_of_clause}
use Rattle.dai_template.proofs.Flat.{sum_cons, types_length, types_at, number_inside}

-- the variables from a number on are of these types
abbrev scope_from : Scope → ℕ → List ℕ → Scope
scope_from scope first [] = scope
scope_from scope first (sort ∷ sorts) = scope_from (with_variable scope first sort) (first + 1) sorts

earlier : (scope : Scope) (first : ℕ) (sorts : List ℕ) (v : ℕ) → v < first → (scope_from scope first sorts).variables v ≡ scope.variables v
earlier scope first [] v h = refl
earlier scope first (sort ∷ sorts) v h =
    let other : nat_eq v first ≡ false = grind (arith, nat_tests) in
    let here : (with_variable scope first sort).variables v ≡ scope.variables v = cc in
    earlier (with_variable scope first sort) (first + 1) sorts v (omega (arith, h)) ∙ here

scope_at : (scope : Scope) (first : ℕ) (sorts : List ℕ) (i sort : ℕ) → slice_get sorts i ≡ Some sort → (scope_from scope first sorts).variables (first + i) ≡ Some sort
scope_at scope first [] i sort h = absurd (let e : ⊥ = cc in e)
scope_at scope first (t ∷ sorts) zero sort h =
    let own : nat_eq (first + 0) first ≡ true = grind (arith, nat_tests) in
    let same : t ≡ sort = cc in
    let here : (with_variable scope first t).variables (first + 0) ≡ Some t = cc in
    earlier (with_variable scope first t) (first + 1) sorts (first + 0) (omega arith) ∙ (here ∙ ap Some same)
scope_at scope first (t ∷ sorts) (suc i) sort h =
    let next : first + suc i ≡ (first + 1) + i = omega arith in
    ap (λ v. (scope_from scope first (t ∷ sorts)).variables v) next ∙ scope_at (with_variable scope first t) (first + 1) sorts i sort h

for_all_sorted : (P : Protocol) (scope : Scope) (first : ℕ) (sorts : List ℕ) (f : Formula) → Each (λ sort. sort < length P.sorts) sorts → IsWellSorted P (scope_from scope first sorts) f → IsWellSorted P scope (for_all sorts first f)
for_all_sorted P scope first [] f known h = h
for_all_sorted P scope first (sort ∷ sorts) f known h = (known.0, for_all_sorted P (with_variable scope first sort) (first + 1) sorts f known.1 h)

types_known : (n first : ℕ) (counts : List ℕ) → first + length counts ≤ n → Each (λ sort. sort < n) (types_from first counts)
types_known n first [] h = tt
types_known n first (c ∷ counts) h =
    Each-append (λ sort. sort < n) (map (λ _. first) (numbers_below c)) (types_from (first + 1) counts)
    (Each-map (λ _. Unit {0}) (λ sort. sort < n) (λ _. first) (numbers_below c) (λ _ _. omega (arith, h)) (Each-any (λ _. Unit {0}) (numbers_below c) (λ _. tt)))
    (types_known n (first + 1) counts (omega (arith, h)))

-- a count is of a type
count_inside : (counts : List ℕ) (sort number : ℕ) → number < slice_index counts sort → sort < length counts
count_inside [] sort number h = absurd (omega arith)
count_inside (c ∷ counts) zero number h = omega arith
count_inside (c ∷ counts) (suc sort) number h = let k = count_inside counts sort number h in omega (arith, k)

-- each variable of the shape has its type
abbrev HaveTypes : Scope → List ℕ → Type 0
HaveTypes scope counts = (sort number : ℕ) → number < slice_index counts sort → scope.variables (sum (take sort counts) + number) ≡ Some sort

have_types : (counts : List ℕ) → HaveTypes (scope_from closed_scope 0 (types_from 0 counts)) counts
have_types counts sort number h =
    let sorts = types_from 0 counts in
    let place = sum (take sort counts) + number in
    let below = count_inside counts sort number h in
    let inside = number_inside counts sort number below h in
    let many = types_length 0 counts in
    let at = types_at 0 counts sort number below h in
    let own : 0 + sort ≡ sort = omega arith in
    let there : place ≡ 0 + place = omega arith in
    ap (λ v. (scope_from closed_scope 0 sorts).variables v) there
    ∙ scope_at closed_scope 0 sorts place sort (slice_get-get_or sorts place 0 (omega (arith, many, inside)) ∙ ap Some (at ∙ own))

terms_sorted : (P : Protocol) (scope : Scope) (counts : List ℕ) (vs : List Variable) → HaveTypes scope counts → Each (IsVariableOf counts) vs → map (sort_of P scope) (map (term_at counts) vs) ≡ map Some (sorts_of vs)
terms_sorted P scope counts [] types h = refl
terms_sorted P scope counts (v ∷ vs) types h =
    let here : sort_of P scope (term_at counts v) ≡ Some v.sort = types v.sort v.number h.0 in
    let rest = terms_sorted P scope counts vs types h.1 in
    cc

atom_sorted : (P : Protocol) (scope : Scope) (counts : List ℕ) (a : Atom) → HaveTypes scope counts → IsAtomOf counts a → IsNamed P a → IsWellSorted P scope (atom_formula counts a)
atom_sorted P scope counts (tuple r vs) types h named = (named.0, named.1, terms_sorted P scope counts vs types h ∙ ap (map Some) named.2)
atom_sorted P scope counts (is_individual v i) types h named = (
  v.sort,
  types v.sort v.number h,
  ap (option_map (λ (I : Individual). I.sort)) named.1 ∙ ap Some (sym named.2),
)

atoms_sorted : (P : Protocol) (scope : Scope) (counts : List ℕ) (atoms : List Atom) → HaveTypes scope counts → Each (IsAtomOf counts) atoms → Each (IsNamed P) atoms → Each (λ a. IsWellSorted P scope (atom_formula counts a)) atoms
atoms_sorted P scope counts [] types h named = tt
atoms_sorted P scope counts (a ∷ atoms) types h named = (atom_sorted P scope counts a types h.0 named.0, atoms_sorted P scope counts atoms types h.1 named.1)

signed_sorted : (P : Protocol) (scope : Scope) (negated : Bool) (f : Formula) → IsWellSorted P scope f → IsWellSorted P scope (if negated then negation f else f)
signed_sorted P scope true f h = h
signed_sorted P scope false f h = h

half_below : (l n : ℕ) → l < 2 * n → l / 2 < n
half_below l n h = let r : l % 2 < 2 = omega arith in omega arith

literals_sorted : (P : Protocol) (scope : Scope) (counts : List ℕ) (atoms : List Atom) (ls : List ℕ) → Each (λ a. IsWellSorted P scope (atom_formula counts a)) atoms → All (λ l. l < 2 * length atoms) ls → Each (IsWellSorted P scope) (map (literal_formula counts) (map (literal_among atoms) ls))
literals_sorted P scope counts atoms [] each h = tt
literals_sorted P scope counts atoms (l ∷ ls) each h = (
  signed_sorted P scope (is_negated l) (atom_formula counts (get_or atoms (l / 2) no_atom))
      (Each-at (λ a. IsWellSorted P scope (atom_formula counts a)) atoms (l / 2) no_atom (half_below l (length atoms) (All-head (λ m. m < 2 * length atoms) l ls h)) each),
  literals_sorted P scope counts atoms ls each (All-tail (λ m. m < 2 * length atoms) l ls h),
)

clash_sorted : (P : Protocol) (scope : Scope) (ordered : Bool) (v w sort : ℕ) → scope.variables v ≡ Some sort → scope.variables w ≡ Some sort → (ordered ≡ true → IsOrdered P sort) → IsWellSorted P scope (clash ordered v w)
clash_sorted P scope true v w sort h k order = (sort, k, h, order refl)
clash_sorted P scope false v w sort h k order = (sort, h, k)

numbers_inside : (n m : ℕ) → n ≤ m → Each (λ k. k < m) (numbers_below n)
numbers_inside zero m h = tt
numbers_inside (suc n) m h = Each-append (λ k. k < m) (numbers_below n) (n ∷ []) (numbers_inside n m (omega arith)) (omega arith, tt)

-- the clashes of so many variables of one type
of_one_type : (P : Protocol) (scope : Scope) (ordered : Bool) (first count sort : ℕ) → ((i : ℕ) → i < count → scope.variables (first + i) ≡ Some sort) → (ordered ≡ true → IsOrdered P sort) → Each (IsWellSorted P scope) (clashes_of ordered first count)
of_one_type P scope ordered first count sort types order =
    Each-flat_map (λ j. j < count) (IsWellSorted P scope) (clashes_with ordered first) (numbers_below count)
    (λ j below. Each-map (λ i. i < j) (IsWellSorted P scope) (λ i. clash ordered (first + i) (first + j)) (numbers_below j)
    (λ i before. clash_sorted P scope ordered (first + i) (first + j) sort (types i (omega (arith, before, below))) (types j below) order)
    (numbers_inside j j (omega arith)))
    (numbers_inside count count (omega arith))

clashes_sorted : (P : Protocol) (scope : Scope) (orders : List Bool) (first : ℕ) (counts : List ℕ) (sort_at : ℕ → ℕ) → ((k i : ℕ) → i < slice_index counts k → scope.variables (first + (sum (take k counts) + i)) ≡ Some (sort_at k)) → ((k : ℕ) (ordered : Bool) → slice_get orders k ≡ Some ordered → ordered ≡ true → IsOrdered P (sort_at k)) → Each (IsWellSorted P scope) (clashes orders first counts)
clashes_sorted P scope [] first counts sort_at types order = tt
clashes_sorted P scope (o ∷ orders) first [] sort_at types order = tt
clashes_sorted P scope (o ∷ orders) first (c ∷ counts) sort_at types order =
    Each-append (IsWellSorted P scope) (clashes_of o first c) (clashes orders (first + c) counts)
    (of_one_type P scope o first c (sort_at 0) (λ i below. ap scope.variables (let own : first + i ≡ first + (0 + i) = omega arith in own) ∙ types 0 i below) (order 0 o refl))
    (clashes_sorted P scope orders (first + c) counts (λ k. sort_at (suc k))
    (λ k i below.
    let all = sum_cons c (take k counts) in
    ap scope.variables (let own : (first + c) + (sum (take k counts) + i) ≡ first + (sum (c ∷ take k counts) + i) = omega (arith, all) in own) ∙ types (suc k) i below)
    (λ k ordered is. order (suc k) ordered is))

sort_ordered : (Ts : List Sort) (sort : ℕ) (ordered : Bool) → slice_get (map (λ (T : Sort). T.ordered) Ts) sort ≡ Some ordered → (T : Sort) × (slice_get Ts sort ≡ Some T) × (T.ordered ≡ ordered)
sort_ordered [] sort ordered h = absurd (let k : ⊥ = cc in k)
sort_ordered (U ∷ Ts) zero ordered h = (U, refl, let k : U.ordered ≡ ordered = cc in k)
sort_ordered (U ∷ Ts) (suc sort) ordered h = sort_ordered Ts sort ordered h

all_sorted : (P : Protocol) (scope : Scope) (fs : List Formula) → Each (IsWellSorted P scope) fs → AreWellSorted P scope (formulas_from fs)
all_sorted P scope [] h = tt
all_sorted P scope (f ∷ fs) h = (h.0, all_sorted P scope fs h.1)

pub formula_sorted : (P : Protocol) (B : Bounds) (c : Clause) → IsTemplate P B c → IsWellSorted P closed_scope (formula_of_clause P c)
formula_sorted P B c template =
    let sorts = types_from 0 c.counts in
    let scope = scope_from closed_scope 0 sorts in
    let types = have_types c.counts in
    let atoms = atoms_of P c.counts in
    let long = template.one_count_each in
    for_all_sorted P closed_scope 0 sorts (disjunction (formulas_from (parts_of P c))) (types_known (length P.sorts) 0 c.counts (omega (arith, long)))
    (all_sorted P scope (parts_of P c)
    (Each-append (IsWellSorted P scope) (clashes (orders_of P) 0 c.counts) (map (literal_formula c.counts) (literals_of P c))
    (clashes_sorted P scope (orders_of P) 0 c.counts (λ k. k)
    (λ k i below. ap scope.variables (let own : 0 + (sum (take k c.counts) + i) ≡ sum (take k c.counts) + i = omega arith in own) ∙ types k i below)
    (λ k ordered is given. let found = sort_ordered P.sorts k ordered is in (found.0, found.1, found.2 ∙ given)))
    (literals_sorted P scope c.counts atoms c.literals (atoms_sorted P scope c.counts atoms types (atoms_inside P c.counts) (atoms_named P c.counts)) template.of_the_shape)))
