-- Atoms and literals under new numbers.
use Rattle.std.proofs.Common.{◌≡◌, ◌≢◌, ◌<◌, ◌≤◌, ◌+◌, ◌*◌, ◌/◌, ◌%◌, ℕ, zero, suc, Bool, true, false, List, [], ◌∷◌, get_or, length, map, take, Some, sym, ◌∙◌, ap, subst, refl, arith, inl, inr, ◌⊎◌}
use Rattle.std.specs.Prelude.{sum_by, slice_get, slice_index}
use Rattle.std.specs.List.{Contains}
use Rattle.std.proofs.lemmas.Bool.{cases_lt}
use Rattle.std.proofs.lemmas.List.{get_or_default}
use Rattle.std.proofs.lemmas.List.Sums.{sum_by-cons}
use Rattle.dai_model.specs.Protocol.{Protocol, Relation}
use Rattle.dai_model.specs.Placement.{Apart}
use Rattle.dai_model.specs.Clause.{Variable, Atom, tuple, is_individual, atoms_of, no_atom}
use Rattle.dai_model.specs.Limits.{tuples_at}
use Rattle.dai_model.proofs.Below.{Each, IsVariableOf, IsAtomOf, atoms_inside}
use Rattle.dai_model.proofs.Folds.{map-map}
use Rattle.dai_model.proofs.Tuples.{atoms_of-length}
use Rattle.dai_logic.specs.Counts.{tuple_place, tuple_count}
use Rattle.dai_template.specs.Meeting.{element_in, sorts_of, IsNamed}
use Rattle.dai_template.specs.Renamings.{place_of_atom, renamed_variable, renamed_atom, renamed_literal, IsPlaceable, IsShapeOf, IsRenamed}
use Rattle.dai_template.proofs.Ways.{All-from_Each}
use Rattle.dai_template.proofs.Named.{atoms_named}
use Rattle.dai_template.proofs.MetFrom.{count_inside, tuple_in}
use Rattle.dai_template.proofs.Choices.{sort_at}
use Rattle.dai_template.proofs.AtomPlaces.{placed, atom_listed, counted}

each_at : {X : Type 0} (P : X → Type 0) (xs : List X) (k : ℕ) (d : X) → k < length xs → Each P xs → P (get_or xs k d)
each_at P [] k d h e = absurd (omega arith)
each_at P (x ∷ xs) zero d h e = e.0
each_at P (x ∷ xs) (suc k) d h e = each_at P xs k d (omega arith) e.1

each_map : {X Y : Type 0} (P : X → Type 0) (Q : Y → Type 0) (f : X → Y) (xs : List X) → ((x : X) → P x → Q (f x)) → Each P xs → Each Q (map f xs)
each_map P Q f [] step h = tt
each_map P Q f (x ∷ xs) step h = (step x h.0, each_map P Q f xs step h.1)

each_to : {X : Type 0} (P Q : X → Type 0) (xs : List X) → ((x : X) → P x → Q x) → Each P xs → Each Q xs
each_to P Q [] f h = tt
each_to P Q (x ∷ xs) f h = (f x h.0, each_to P Q xs f h.1)

-- an atom of the shape is at its place
pub at_place : (P : Protocol) (counts : List ℕ) (a : Atom) → Contains (atoms_of P counts) a → (place_of_atom P counts a < length (atoms_of P counts)) × (get_or (atoms_of P counts) (place_of_atom P counts a) no_atom ≡ a)
at_place P counts a h =
    let place : place_of_atom P counts a ≡ h.0 = ap (place_of_atom P counts) (sym h.2) ∙ placed P counts h.0 a h.1 in
    let below = h.1 in
    (omega (arith, place, below), ap (λ k. get_or (atoms_of P counts) k no_atom) place ∙ (get_or_default (atoms_of P counts) h.0 no_atom a below ∙ h.2))

renamed_sorts : (to : List ℕ) (vs : List Variable) → sorts_of (map (renamed_variable to) vs) ≡ sorts_of vs
renamed_sorts to vs = map-map (λ (v : Variable). v.sort) (renamed_variable to) vs

renamed_numbers : (to : List ℕ) (vs : List Variable) → map (λ (v : Variable). v.number) (map (renamed_variable to) vs) ≡ map (element_in to) vs
renamed_numbers to vs = map-map (λ (v : Variable). v.number) (renamed_variable to) vs

renamed_named : (P : Protocol) (to : List ℕ) (a : Atom) → IsNamed P a → IsNamed P (renamed_atom to a)
renamed_named P to (tuple r vs) n = (n.0, n.1, renamed_sorts to vs ∙ n.2)
renamed_named P to (is_individual v i) n = n

new_inside : (P : Protocol) (counts : List ℕ) (atoms : List Atom) (to : List ℕ) → IsRenamed P counts atoms to → (v : Variable) → IsVariableOf counts v → element_in to v < slice_index counts v.sort
new_inside P counts atoms to h v k = h.begun.inside v.sort v.number k (inl (count_inside counts v.sort v.number k))

renamed_inside : (P : Protocol) (counts : List ℕ) (atoms : List Atom) (to : List ℕ) (a : Atom) → IsRenamed P counts atoms to → IsAtomOf counts a → IsAtomOf counts (renamed_atom to a)
renamed_inside P counts atoms to (tuple r vs) h k = each_map (IsVariableOf counts) (IsVariableOf counts) (renamed_variable to) vs (new_inside P counts atoms to h) k
renamed_inside P counts atoms to (is_individual v i) h k = new_inside P counts atoms to h v k

-- the renamed atom is one of the shape's
pub renamed_listed : (P : Protocol) (counts : List ℕ) (atoms : List Atom) (to : List ℕ) (k : ℕ) → IsRenamed P counts atoms to → k < length (atoms_of P counts) → Contains (atoms_of P counts) (renamed_atom to (get_or (atoms_of P counts) k no_atom))
renamed_listed P counts atoms to k h below =
    let a = get_or (atoms_of P counts) k no_atom in
    atom_listed P counts (renamed_atom to a)
    (renamed_named P to a (each_at (IsNamed P) (atoms_of P counts) k no_atom below (atoms_named P counts)))
    (renamed_inside P counts atoms to a h (each_at (IsAtomOf counts) (atoms_of P counts) k no_atom below (atoms_inside P counts)))

-- numbers that stay
abbrev pub fours : ℕ → List ℕ
fours zero = []
fours (suc k) = 0 ∷ 1 ∷ 2 ∷ 3 ∷ fours k

fours_at : (k s n : ℕ) → s < k → n < 4 → get_or (fours k) (4 * s + n) 0 ≡ n
fours_at zero s n h small = absurd (omega arith)
fours_at (suc k) zero zero h small = refl
fours_at (suc k) zero (suc zero) h small = refl
fours_at (suc k) zero (suc (suc zero)) h small = refl
fours_at (suc k) zero (suc (suc (suc zero))) h small = refl
fours_at (suc k) zero (suc (suc (suc (suc n)))) h small = absurd (omega arith)
fours_at (suc k) (suc s) n h small =
    let far : 4 * suc s + n ≡ suc (suc (suc (suc (4 * s + n)))) = omega arith in
    ap (λ i. get_or (fours (suc k)) i 0) far ∙ fours_at k s n (omega (arith, h)) small

own_number : (P : Protocol) (orders : List Bool) (counts : List ℕ) (atoms : List Atom) → IsShapeOf P orders counts atoms → (v : Variable) → IsVariableOf counts v → element_in (fours 8) v ≡ v.number
own_number P orders counts atoms h v k =
    let few = h.few v.sort in
    let types = h.few_types in
    let below = count_inside counts v.sort v.number k in
    fours_at 8 v.sort v.number (omega (arith, below, types)) (omega (arith, few, k))

own_numbers : (P : Protocol) (orders : List Bool) (counts : List ℕ) (atoms : List Atom) (vs : List Variable) → IsShapeOf P orders counts atoms → Each (IsVariableOf counts) vs → map (element_in (fours 8)) vs ≡ map (λ (v : Variable). v.number) vs
own_numbers P orders counts atoms [] h k = refl
own_numbers P orders counts atoms (v ∷ vs) h k =
    let here = own_number P orders counts atoms h v k.0 in
    let rest = own_numbers P orders counts atoms vs h k.1 in
    cc

one_of : (f : Relation → ℕ) (Rs : List Relation) (r : ℕ) (R : Relation) → slice_get Rs r ≡ Some R → f R ≤ sum_by f Rs
one_of f [] r R h = absurd (let e : ⊥ = cc in e)
one_of f (S ∷ Rs) zero R h =
    let same : f S ≡ f R = ap f (let e : S ≡ R = cc in e) in
    let split = sum_by-cons f S Rs in
    omega (arith, same, split)
one_of f (S ∷ Rs) (suc r) R h =
    let rest = one_of f Rs r R h in
    let split = sum_by-cons f S Rs in
    omega (arith, rest, split)

-- no relation has more tuples than the shape has atoms
few_tuples : (P : Protocol) (counts : List ℕ) (r : ℕ) (vs : List Variable) → IsNamed P (tuple r vs) → tuple_count counts (sorts_of vs) ≤ length (atoms_of P counts)
few_tuples P counts r vs n =
    let one = one_of (tuples_at counts) P.relations r n.0 n.1 in
    let all = atoms_of-length P counts in
    let same : tuple_count counts (sorts_of vs) ≡ tuples_at counts n.0 = ap (tuple_count counts) n.2 ∙ counted counts n.0.arguments in
    omega (arith, one, all, same)

places_of : (P : Protocol) (orders : List Bool) (counts : List ℕ) (atoms : List Atom) (r : ℕ) (vs : List Variable) (to : List ℕ) → IsShapeOf P orders counts atoms → IsNamed P (tuple r vs) → IsAtomOf counts (tuple r vs) → length to ≡ 32 → ((v : Variable) → IsVariableOf counts v → element_in to v < slice_index counts v.sort) → IsPlaceable counts to vs
places_of P orders counts atoms r vs to h n k long inside = record {
  long = long;
  places = All-from_Each (λ (v : Variable). 4 * v.sort + v.number < length to) vs (each_to (IsVariableOf counts) (λ (v : Variable). 4 * v.sort + v.number < length to) vs (λ v l. let a = count_inside counts v.sort v.number l in let b = h.few v.sort in let d = h.few_types in omega (arith, l, a, b, d, long)) k);
  tuple = tuple_in counts counts to vs inside k;
  bound = let a = few_tuples P counts r vs n in let b = h.few_atoms in let d = ap length h.atoms_are in omega (arith, a, b, d);
}

-- how a literal over a tuple moves
pub record IsTupleMove (P : Protocol) (counts to : List ℕ) (literal : ℕ) (vs : List Variable) : Type 0 where
  pub before : IsPlaceable counts (fours 8) vs
  pub after : IsPlaceable counts to vs
  pub enough : 2 * tuple_place counts (sorts_of vs) (map (element_in (fours 8)) vs) ≤ literal
  pub few : literal + 2 * tuple_place counts (sorts_of vs) (map (element_in to) vs) < 256
  pub is : (m : ℕ) → m + 2 * tuple_place counts (sorts_of vs) (map (element_in (fours 8)) vs) ≡ literal + 2 * tuple_place counts (sorts_of vs) (map (element_in to) vs) → m ≡ renamed_literal P counts to literal

half_below : (l n : ℕ) → l < 2 * n → l / 2 < n
half_below l n h = let r : l % 2 < 2 = omega arith in omega arith

pub tuple_moves : (P : Protocol) (counts : List ℕ) (atoms : List Atom) (to : List ℕ) (literal r : ℕ) (vs : List Variable) → IsRenamed P counts atoms to → literal < 2 * length atoms → tuple r vs ≡ get_or atoms (literal / 2) no_atom → IsTupleMove P counts to literal vs
tuple_moves P counts atoms to literal r vs h inside is =
    let same = h.shape.atoms_are in
    let long = ap length same in
    let below = half_below literal (length (atoms_of P counts)) (omega (arith, inside, long)) in
    let own : get_or (atoms_of P counts) (literal / 2) no_atom ≡ tuple r vs = sym (is ∙ ap (λ xs. get_or xs (literal / 2) no_atom) same) in
    let named = subst (IsNamed P) own (each_at (IsNamed P) (atoms_of P counts) (literal / 2) no_atom below (atoms_named P counts)) in
    let over = subst (IsAtomOf counts) own (each_at (IsAtomOf counts) (atoms_of P counts) (literal / 2) no_atom below (atoms_inside P counts)) in
    let base = sum_by (tuples_at counts) (take r P.relations) in
    let old = tuple_place counts (sorts_of vs) (map (element_in (fours 8)) vs) in
    let new = tuple_place counts (sorts_of vs) (map (element_in to) vs) in
    let first : base + old ≡ literal / 2 = ap (λ es. base + tuple_place counts (sorts_of vs) es) (own_numbers P h.orders counts atoms vs h.shape over) ∙ (ap (place_of_atom P counts) (sym own) ∙ placed P counts (literal / 2) no_atom below) in
    let second : place_of_atom P counts (tuple r (map (renamed_variable to) vs)) ≡ base + new = ap (λ ts. base + tuple_place counts ts (map (λ (v : Variable). v.number) (map (renamed_variable to) vs))) (renamed_sorts to vs) ∙ ap (λ es. base + tuple_place counts (sorts_of vs) es) (renamed_numbers to vs) in
    let moved : place_of_atom P counts (renamed_atom to (get_or (atoms_of P counts) (literal / 2) no_atom)) ≡ base + new = ap (λ a. place_of_atom P counts (renamed_atom to a)) own ∙ second in
    let there = (at_place P counts (renamed_atom to (get_or (atoms_of P counts) (literal / 2) no_atom)) (renamed_listed P counts atoms to (literal / 2) h below)).0 in
    let few = h.shape.few_atoms in
    let rest : literal % 2 < 2 = omega arith in
    record {
      before = places_of P h.orders counts atoms r vs (fours 8) h.shape named over refl (λ v k. let e = own_number P h.orders counts atoms h.shape v k in omega (arith, e, k));
      after = places_of P h.orders counts atoms r vs to h.shape named over h.begun.long (new_inside P counts atoms to h);
      enough = omega (arith, first);
      few = omega (arith, moved, there, few, long, inside);
      is = λ m e. omega (arith, e, first, moved);
    }

-- how a literal over an equation moves
pub record IsEquationMove (P : Protocol) (counts to : List ℕ) (literal : ℕ) (v : Variable) : Type 0 where
  pub stored : 4 * v.sort + v.number < 32
  pub enough : 2 * v.number ≤ literal
  pub few : literal + 2 * element_in to v < 256
  pub is : (m : ℕ) → m + 2 * v.number ≡ literal + 2 * element_in to v → m ≡ renamed_literal P counts to literal

pub equation_moves : (P : Protocol) (counts : List ℕ) (atoms : List Atom) (to : List ℕ) (literal i : ℕ) (v : Variable) → IsRenamed P counts atoms to → literal < 2 * length atoms → is_individual v i ≡ get_or atoms (literal / 2) no_atom → IsEquationMove P counts to literal v
equation_moves P counts atoms to literal i v h inside is =
    let same = h.shape.atoms_are in
    let long = ap length same in
    let below = half_below literal (length (atoms_of P counts)) (omega (arith, inside, long)) in
    let own : get_or (atoms_of P counts) (literal / 2) no_atom ≡ is_individual v i = sym (is ∙ ap (λ xs. get_or xs (literal / 2) no_atom) same) in
    let over = subst (IsAtomOf counts) own (each_at (IsAtomOf counts) (atoms_of P counts) (literal / 2) no_atom below (atoms_inside P counts)) in
    let first : place_of_atom P counts (is_individual v i) ≡ literal / 2 = ap (place_of_atom P counts) (sym own) ∙ placed P counts (literal / 2) no_atom below in
    let moved : place_of_atom P counts (renamed_atom to (get_or (atoms_of P counts) (literal / 2) no_atom)) ≡ place_of_atom P counts (renamed_atom to (is_individual v i)) = ap (λ a. place_of_atom P counts (renamed_atom to a)) own in
    let there = (at_place P counts (renamed_atom to (get_or (atoms_of P counts) (literal / 2) no_atom)) (renamed_listed P counts atoms to (literal / 2) h below)).0 in
    let few = h.shape.few_atoms in
    let rest : literal % 2 < 2 = omega arith in
    let a = count_inside counts v.sort v.number over in
    let b = h.shape.few v.sort in
    let d = h.shape.few_types in
    record {
      stored = omega (arith, over, a, b, d);
      enough = omega (arith, first);
      few = omega (arith, moved, there, few, long, inside);
      is = λ m e. omega (arith, e, first, moved);
    }

apart_differ : (ordered : Bool) (d e : ℕ) → Apart ordered d e → d ≢ e
apart_differ true d e h = λ same. omega (arith, h, same)
apart_differ false d e h = h

same_number : (P : Protocol) (counts : List ℕ) (atoms : List Atom) (to : List ℕ) (sort i j : ℕ) → IsRenamed P counts atoms to → i < slice_index counts sort → j < slice_index counts sort → slice_index to (4 * sort + i) ≡ slice_index to (4 * sort + j) → (i < j) ⊎ (j ≤ i) → (j < i) ⊎ (i ≤ j) → i ≡ j
same_number P counts atoms to sort i j h hi hj e (inl before) _ =
    let below = count_inside counts sort j hj in
    let found = sort_at P.sorts sort (let k = h.shape.each in omega (arith, k, below)) in
    absurd (apart_differ found.0.ordered _ _ (h.begun.apart sort found.0 i j found.1 before hj (inl below)) e)
same_number P counts atoms to sort i j h hi hj e (inr past) (inl before) =
    let below = count_inside counts sort i hi in
    let found = sort_at P.sorts sort (let k = h.shape.each in omega (arith, k, below)) in
    absurd (apart_differ found.0.ordered _ _ (h.begun.apart sort found.0 j i found.1 before hi (inl below)) (sym e))
same_number P counts atoms to sort i j h hi hj e (inr past) (inr other) = omega (arith, past, other)

named_same : (v w : Variable) → v.sort ≡ w.sort → v.number ≡ w.number → v ≡ w
named_same v w e f =
    ap (λ (s : ℕ). let x : Variable = record { sort = s; number = v.number } in x) e ∙ ap (λ (n : ℕ). let x : Variable = record { sort = w.sort; number = n } in x) f

same_variable : (P : Protocol) (counts : List ℕ) (atoms : List Atom) (to : List ℕ) (v w : Variable) → IsRenamed P counts atoms to → IsVariableOf counts v → IsVariableOf counts w → renamed_variable to v ≡ renamed_variable to w → v ≡ w
same_variable P counts atoms to v w h hv hw e =
    let sort : v.sort ≡ w.sort = ap (λ (x : Variable). x.sort) e in
    let new : element_in to v ≡ element_in to w = ap (λ (x : Variable). x.number) e in
    let inside : w.number < slice_index counts v.sort = subst (λ s. w.number < slice_index counts s) (sym sort) hw in
    let there : slice_index to (4 * v.sort + v.number) ≡ slice_index to (4 * v.sort + w.number) = new ∙ ap (λ s. slice_index to (4 * s + w.number)) (sym sort) in
    named_same v w sort (same_number P counts atoms to v.sort v.number w.number h hv inside there (cases_lt v.number w.number) (cases_lt w.number v.number))

same_variables : (P : Protocol) (counts : List ℕ) (atoms : List Atom) (to : List ℕ) (vs ws : List Variable) → IsRenamed P counts atoms to → Each (IsVariableOf counts) vs → Each (IsVariableOf counts) ws → map (renamed_variable to) vs ≡ map (renamed_variable to) ws → vs ≡ ws
same_variables P counts atoms to [] [] h hv hw e = refl
same_variables P counts atoms to [] (w ∷ ws) h hv hw e = absurd (let k : ⊥ = cc in k)
same_variables P counts atoms to (v ∷ vs) [] h hv hw e = absurd (let k : ⊥ = cc in k)
same_variables P counts atoms to (v ∷ vs) (w ∷ ws) h hv hw e =
    let first : renamed_variable to v ≡ renamed_variable to w = cc in
    let others : map (renamed_variable to) vs ≡ map (renamed_variable to) ws = cc in
    let here = same_variable P counts atoms to v w h hv.0 hw.0 first in
    let rest = same_variables P counts atoms to vs ws h hv.1 hw.1 others in
    cc

-- different atoms stay different
pub same_atom : (P : Protocol) (counts : List ℕ) (atoms : List Atom) (to : List ℕ) (a b : Atom) → IsRenamed P counts atoms to → IsAtomOf counts a → IsAtomOf counts b → renamed_atom to a ≡ renamed_atom to b → a ≡ b
same_atom P counts atoms to (tuple r vs) (tuple q ws) h ha hb e =
    let symbol : r ≡ q = cc in
    let places : map (renamed_variable to) vs ≡ map (renamed_variable to) ws = cc in
    let rest = same_variables P counts atoms to vs ws h ha hb places in
    cc
same_atom P counts atoms to (tuple r vs) (is_individual w j) h ha hb e = absurd (let k : ⊥ = cc in k)
same_atom P counts atoms to (is_individual v i) (tuple q ws) h ha hb e = absurd (let k : ⊥ = cc in k)
same_atom P counts atoms to (is_individual v i) (is_individual w j) h ha hb e =
    let symbol : i ≡ j = cc in
    let place : renamed_variable to v ≡ renamed_variable to w = cc in
    let rest = same_variable P counts atoms to v w h ha hb place in
    cc
