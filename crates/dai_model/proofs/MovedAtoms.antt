-- What an injection of variables does to the atoms and literals of a shape: they stay atoms of the protocol, and no two
-- become one.
use Rattle.std.proofs.Common.{◌≡◌, ◌≢◌, ◌<◌, ℕ, Bool, true, false, List, [], ◌∷◌, length, map, Some, sym, ◌∙◌, ap, subst, refl, arith}
use Rattle.std.specs.Prelude.{slice_get, slice_index}
use Rattle.std.proofs.lemmas.Bool.{cases_lt}
use Rattle.std.proofs.lemmas.List.{get_or-map, length-map}
use Rattle.dai_model.specs.Protocol.{Protocol, Sort}
use Rattle.dai_model.specs.Placement.{Apart, IsPlacement, of_sort, ArePlacements}
use Rattle.dai_model.specs.Clause.{Variable, Atom, tuple, is_individual, Literal, numbers_below}
use Rattle.dai_model.specs.Subsumption.{image_of_variable, image_of_atom, image_of}
use Rattle.dai_model.proofs.Typed.{slice_get-length}
use Rattle.dai_model.proofs.Folds.{numbers_below-length}
use Rattle.dai_model.proofs.Below.{Each, IsVariableOf, IsAtomOf, numbers_below-at, count_within, slice_get-some}
use Rattle.dai_model.proofs.Counting.{IsOneToOne, same_number}
use Rattle.dai_model.proofs.ShapeAtoms.{sorts_of, IsNamed}

apart_differ : (ordered : Bool) (x y : ℕ) → Apart ordered x y → x ≢ y
apart_differ true x y h = λ e. let none : ⊥ = omega (arith, h, e) in none
apart_differ false x y h = h

pub placed_one_to_one : (ordered : Bool) (n m : ℕ) (xs : List ℕ) → IsPlacement ordered n m xs → IsOneToOne n m (slice_index xs)
placed_one_to_one ordered n m xs p = record { inside = p.inside; apart = λ i j before below. apart_differ ordered (slice_index xs i) (slice_index xs j) (p.apart i j before below) }

-- the placement of the type of a variable of the shape
pub sort_placed : (P : Protocol) (counts sizes : List ℕ) (to : List (List ℕ)) (sort number : ℕ) → length counts ≡ length P.sorts → ArePlacements P counts sizes to → number < slice_index counts sort → IsOneToOne (slice_index counts sort) (slice_index sizes sort) (slice_index (of_sort to sort))
sort_placed P counts sizes to sort number long p inside =
    let below = count_within counts sort number inside (cases_lt sort (length counts)) in
    let found = slice_get-some P.sorts sort (omega (arith, below, long)) in
    placed_one_to_one found.0.ordered (slice_index counts sort) (slice_index sizes sort) (of_sort to sort) (p.each sort found.0 found.1)

-- variables of a shape stay of the shape that they are placed in
variable_moved : (P : Protocol) (counts sizes : List ℕ) (to : List (List ℕ)) (v : Variable) → length counts ≡ length P.sorts → ArePlacements P counts sizes to → IsVariableOf counts v → IsVariableOf sizes (image_of_variable to v)
variable_moved P counts sizes to v long p inside = let one = sort_placed P counts sizes to v.sort v.number long p inside in one.inside v.number inside

variables_moved : (P : Protocol) (counts sizes : List ℕ) (to : List (List ℕ)) (vs : List Variable) → length counts ≡ length P.sorts → ArePlacements P counts sizes to → Each (IsVariableOf counts) vs → Each (IsVariableOf sizes) (map (image_of_variable to) vs)
variables_moved P counts sizes to [] long p inside = tt
variables_moved P counts sizes to (v ∷ vs) long p inside = (variable_moved P counts sizes to v long p inside.0, variables_moved P counts sizes to vs long p inside.1)

pub atom_moved : (P : Protocol) (counts sizes : List ℕ) (to : List (List ℕ)) (a : Atom) → length counts ≡ length P.sorts → ArePlacements P counts sizes to → IsAtomOf counts a → IsAtomOf sizes (image_of_atom to a)
atom_moved P counts sizes to (tuple r vs) long p inside = variables_moved P counts sizes to vs long p inside
atom_moved P counts sizes to (is_individual v i) long p inside = variable_moved P counts sizes to v long p inside

same_sorts : (to : List (List ℕ)) (vs : List Variable) → sorts_of (map (image_of_variable to) vs) ≡ sorts_of vs
same_sorts to [] = refl
same_sorts to (v ∷ vs) = ap (λ ss. v.sort ∷ ss) (same_sorts to vs)

pub named_moved : (P : Protocol) (to : List (List ℕ)) (a : Atom) → IsNamed P a → IsNamed P (image_of_atom to a)
named_moved P to (tuple r vs) n = (n.0, n.1, same_sorts to vs ∙ n.2)
named_moved P to (is_individual v i) n = n

-- no two become one
same_variable : (P : Protocol) (counts sizes : List ℕ) (to : List (List ℕ)) (v w : Variable) → length counts ≡ length P.sorts → ArePlacements P counts sizes to → IsVariableOf counts v → IsVariableOf counts w → image_of_variable to v ≡ image_of_variable to w → v ≡ w
same_variable P counts sizes to v w long p a b e =
    let sort : v.sort ≡ w.sort = ap (λ (x : Variable). x.sort) e in
    let one = sort_placed P counts sizes to v.sort v.number long p a in
    let below : w.number < slice_index counts v.sort = subst (λ s. w.number < slice_index counts s) (sym sort) b in
    let values : slice_index (of_sort to v.sort) v.number ≡ slice_index (of_sort to v.sort) w.number = ap (λ (x : Variable). x.number) e ∙ ap (λ s. slice_index (of_sort to s) w.number) (sym sort) in
    let number = same_number (slice_index counts v.sort) (slice_index sizes v.sort) (slice_index (of_sort to v.sort)) v.number w.number one a below values in
    λ i. record { sort = sort i; number = number i }

same_variables : (P : Protocol) (counts sizes : List ℕ) (to : List (List ℕ)) (vs ws : List Variable) → length counts ≡ length P.sorts → ArePlacements P counts sizes to → Each (IsVariableOf counts) vs → Each (IsVariableOf counts) ws → map (image_of_variable to) vs ≡ map (image_of_variable to) ws → vs ≡ ws
same_variables P counts sizes to [] [] long p a b e = refl
same_variables P counts sizes to [] (w ∷ ws) long p a b e = absurd (let none : ⊥ = cc in none)
same_variables P counts sizes to (v ∷ vs) [] long p a b e = absurd (let none : ⊥ = cc in none)
same_variables P counts sizes to (v ∷ vs) (w ∷ ws) long p a b e =
    let first : image_of_variable to v ≡ image_of_variable to w = cc in
    let rest : map (image_of_variable to) vs ≡ map (image_of_variable to) ws = cc in
    let head = same_variable P counts sizes to v w long p a.0 b.0 first in
    let tail = same_variables P counts sizes to vs ws long p a.1 b.1 rest in
    λ i. head i ∷ tail i

pub same_atom : (P : Protocol) (counts sizes : List ℕ) (to : List (List ℕ)) (a b : Atom) → length counts ≡ length P.sorts → ArePlacements P counts sizes to → IsAtomOf counts a → IsAtomOf counts b → image_of_atom to a ≡ image_of_atom to b → a ≡ b
same_atom P counts sizes to (tuple r vs) (tuple q ws) long p a b e =
    let symbol : r ≡ q = cc in
    let moved : map (image_of_variable to) vs ≡ map (image_of_variable to) ws = cc in
    let variables = same_variables P counts sizes to vs ws long p a b moved in
    λ i. tuple (symbol i) (variables i)
same_atom P counts sizes to (tuple r vs) (is_individual w j) long p a b e = absurd (let none : ⊥ = cc in none)
same_atom P counts sizes to (is_individual v i) (tuple q ws) long p a b e = absurd (let none : ⊥ = cc in none)
same_atom P counts sizes to (is_individual v i) (is_individual w j) long p a b e =
    let symbol : i ≡ j = cc in
    let moved : image_of_variable to v ≡ image_of_variable to w = cc in
    let variable = same_variable P counts sizes to v w long p a b moved in
    λ k. is_individual (variable k) (symbol k)

pub same_literal : (P : Protocol) (counts sizes : List ℕ) (to : List (List ℕ)) (l m : Literal) → length counts ≡ length P.sorts → ArePlacements P counts sizes to → IsAtomOf counts l.atom → IsAtomOf counts m.atom → image_of to l ≡ image_of to m → l ≡ m
same_literal P counts sizes to l m long p a b e =
    let atom = same_atom P counts sizes to l.atom m.atom long p a b (ap (λ (k : Literal). k.atom) e) in
    let sign : l.negated ≡ m.negated = ap (λ (k : Literal). k.negated) e in
    λ i. record { atom = atom i; negated = sign i }

-- one map and then another are a third, on the variables of a shape, and so on its literals
abbrev pub AreTwoInOne : List ℕ → List (List ℕ) → List (List ℕ) → (Variable → Variable) → Type 0
AreTwoInOne counts first second both = (v : Variable) → IsVariableOf counts v → image_of_variable second (image_of_variable first v) ≡ both v

variables_in_one : (counts : List ℕ) (first second third : List (List ℕ)) (vs : List Variable) → AreTwoInOne counts first second (image_of_variable third) → Each (IsVariableOf counts) vs → map (image_of_variable second) (map (image_of_variable first) vs) ≡ map (image_of_variable third) vs
variables_in_one counts first second third [] same inside = refl
variables_in_one counts first second third (v ∷ vs) same inside =
    let head = same v inside.0 in
    let tail = variables_in_one counts first second third vs same inside.1 in
    λ i. head i ∷ tail i

atom_in_one : (counts : List ℕ) (first second third : List (List ℕ)) (a : Atom) → AreTwoInOne counts first second (image_of_variable third) → IsAtomOf counts a → image_of_atom second (image_of_atom first a) ≡ image_of_atom third a
atom_in_one counts first second third (tuple r vs) same inside = ap (tuple r) (variables_in_one counts first second third vs same inside)
atom_in_one counts first second third (is_individual v i) same inside = ap (λ w. is_individual w i) (same v inside)

pub literal_in_one : (counts : List ℕ) (first second third : List (List ℕ)) (l : Literal) → AreTwoInOne counts first second (image_of_variable third) → IsAtomOf counts l.atom → image_of second (image_of first l) ≡ image_of third l
literal_in_one counts first second third l same inside =
    let atom = atom_in_one counts first second third l.atom same inside in
    λ i. record { atom = atom i; negated = l.negated }

variables_again : (counts : List ℕ) (first second : List (List ℕ)) (vs : List Variable) → AreTwoInOne counts first second (λ v. v) → Each (IsVariableOf counts) vs → map (image_of_variable second) (map (image_of_variable first) vs) ≡ vs
variables_again counts first second [] same inside = refl
variables_again counts first second (v ∷ vs) same inside =
    let head = same v inside.0 in
    let tail = variables_again counts first second vs same inside.1 in
    λ i. head i ∷ tail i

atom_again : (counts : List ℕ) (first second : List (List ℕ)) (a : Atom) → AreTwoInOne counts first second (λ v. v) → IsAtomOf counts a → image_of_atom second (image_of_atom first a) ≡ a
atom_again counts first second (tuple r vs) same inside = ap (tuple r) (variables_again counts first second vs same inside)
atom_again counts first second (is_individual v i) same inside = ap (λ w. is_individual w i) (same v inside)

pub literal_again : (counts : List ℕ) (first second : List (List ℕ)) (l : Literal) → AreTwoInOne counts first second (λ v. v) → IsAtomOf counts l.atom → image_of second (image_of first l) ≡ l
literal_again counts first second l same inside =
    let atom = atom_again counts first second l.atom same inside in
    λ i. record { atom = atom i; negated = l.negated }

-- new numbers by a function of the type and the number
abbrev pub table : (ℕ → ℕ → ℕ) → List ℕ → ℕ → List (List ℕ)
table f counts types = map (λ sort. map (f sort) (numbers_below (slice_index counts sort))) (numbers_below types)

table-of_sort : (f : ℕ → ℕ → ℕ) (counts : List ℕ) (types sort : ℕ) → sort < types → of_sort (table f counts types) sort ≡ map (f sort) (numbers_below (slice_index counts sort))
table-of_sort f counts types sort below =
    let e = numbers_below-length types in
    let here : sort < length (numbers_below types) = omega (arith, e, below) in
    get_or-map (λ t. map (f t) (numbers_below (slice_index counts t))) (numbers_below types) sort 0 [] here ∙ ap (λ t. map (f t) (numbers_below (slice_index counts t))) (numbers_below-at types sort 0 below)

row-at : (g : ℕ → ℕ) (n k : ℕ) → k < n → slice_index (map g (numbers_below n)) k ≡ g k
row-at g n k below =
    let e = numbers_below-length n in
    let here : k < length (numbers_below n) = omega (arith, e, below) in
    get_or-map g (numbers_below n) k 0 0 here ∙ ap g (numbers_below-at n k 0 below)

pub table-at : (f : ℕ → ℕ → ℕ) (counts : List ℕ) (types sort number : ℕ) → sort < types → number < slice_index counts sort → slice_index (of_sort (table f counts types) sort) number ≡ f sort number
table-at f counts types sort number below inside =
    ap (λ xs. slice_index xs number) (table-of_sort f counts types sort below) ∙ row-at (f sort) (slice_index counts sort) number inside

-- what the function does to the numbers of one type
pub record Places (ordered : Bool) (n m : ℕ) (g : ℕ → ℕ) : Type 0 where
  pub inside : (i : ℕ) → i < n → g i < m
  pub apart : (i j : ℕ) → i < j → j < n → Apart ordered (g i) (g j)

row_placed : (ordered : Bool) (n m : ℕ) (g : ℕ → ℕ) → Places ordered n m g → IsPlacement ordered n m (map g (numbers_below n))
row_placed ordered n m g h = record {
  one_each = length-map (numbers_below n) g ∙ numbers_below-length n;
  inside = λ i below. subst (λ x. x < m) (sym (row-at g n i below)) (h.inside i below);
  apart = λ i j before below.
      let first = row-at g n i (omega (arith, before, below)) in
      let second = row-at g n j below in
      subst (λ x. Apart ordered x (slice_index (map g (numbers_below n)) j)) (sym first) (subst (Apart ordered (g i)) (sym second) (h.apart i j before below));
}

pub table_placed : (P : Protocol) (counts sizes : List ℕ) (f : ℕ → ℕ → ℕ) → ((sort : ℕ) (T : Sort) → slice_get P.sorts sort ≡ Some T → Places T.ordered (slice_index counts sort) (slice_index sizes sort) (f sort)) → ArePlacements P counts sizes (table f counts (length P.sorts))
table_placed P counts sizes f each = record {
  one_list_each = length-map (numbers_below (length P.sorts)) (λ sort. map (f sort) (numbers_below (slice_index counts sort))) ∙ numbers_below-length (length P.sorts);
  each = λ sort T h.
      subst (IsPlacement T.ordered (slice_index counts sort) (slice_index sizes sort)) (sym (table-of_sort f counts (length P.sorts) sort (slice_get-length P.sorts sort T h)))
      (row_placed T.ordered (slice_index counts sort) (slice_index sizes sort) (f sort) (each sort T h));
}
