-- The literals under new numbers are the image of the literals, and the only one.
use Rattle.std.proofs.Common.{◌≡◌, ◌<◌, ◌+◌, ◌*◌, ◌/◌, ◌%◌, ℕ, zero, suc, Bool, true, false, List, [], ◌∷◌, get_or, length, map, sym, ◌∙◌, ap, subst, refl, arith, inl}
use Rattle.std.specs.Prelude.{nat_eq}
use Rattle.std.specs.List.{All, Contains}
use Rattle.std.proofs.lemmas.List.{get_or-map, length-map, get_or_default}
use Rattle.dai_model.specs.Protocol.{Protocol}
use Rattle.dai_model.specs.Clause.{Variable, Atom, tuple, is_individual, Literal, atoms_of, literal_among, no_atom, value_at}
use Rattle.dai_model.specs.Subsumption.{image_of_variable, image_of_atom, image_of}
use Rattle.dai_model.proofs.Below.{Each, IsVariableOf, IsAtomOf, atoms_inside}
use Rattle.dai_model.proofs.Order.{Rising}
use Rattle.dai_template.specs.Meeting.{element_in}
use Rattle.dai_template.specs.Renamings.{place_of_atom, renamed_variable, renamed_atom, renamed_literal, renamed_literals, IsRenamed, AreLiterals, IsImage}
use Rattle.dai_template.proofs.Within.{Among, among_map, contained, among_at}
use Rattle.dai_template.proofs.AtomPlaces.{placed}
use Rattle.dai_template.proofs.Renamed.{at_place, renamed_listed, same_atom}
use Rattle.dai_template.proofs.InOrder.{IsAtomBefore, AreApart, put_all_each, put_all_length, put_all_among, put_all_rising, same_members, each_from, rising_from, rising_at}

-- each variable's new number is in the array
abbrev pub AreNumbers : List ℕ → List (List ℕ) → List ℕ → Type 0
AreNumbers counts elements to = (v : Variable) → IsVariableOf counts v → value_at elements v ≡ element_in to v

each_at : {X : Type 0} (P : X → Type 0) (xs : List X) (k : ℕ) (d : X) → k < length xs → Each P xs → P (get_or xs k d)
each_at P [] k d h e = absurd (omega arith)
each_at P (x ∷ xs) zero d h e = e.0
each_at P (x ∷ xs) (suc k) d h e = each_at P xs k d (omega arith) e.1

variable_image : (counts : List ℕ) (elements : List (List ℕ)) (to : List ℕ) (v : Variable) → AreNumbers counts elements to → IsVariableOf counts v → renamed_variable to v ≡ image_of_variable elements v
variable_image counts elements to v h k = ap (λ (n : ℕ). let w : Variable = record { sort = v.sort; number = n } in w) (sym (h v k))

variables_image : (counts : List ℕ) (elements : List (List ℕ)) (to : List ℕ) (vs : List Variable) → AreNumbers counts elements to → Each (IsVariableOf counts) vs → map (renamed_variable to) vs ≡ map (image_of_variable elements) vs
variables_image counts elements to [] h k = refl
variables_image counts elements to (v ∷ vs) h k =
    let here = variable_image counts elements to v h k.0 in
    let rest = variables_image counts elements to vs h k.1 in
    cc

atom_image : (counts : List ℕ) (elements : List (List ℕ)) (to : List ℕ) (a : Atom) → AreNumbers counts elements to → IsAtomOf counts a → renamed_atom to a ≡ image_of_atom elements a
atom_image counts elements to (tuple r vs) h k = ap (tuple r) (variables_image counts elements to vs h k)
atom_image counts elements to (is_individual v i) h k = ap (λ w. is_individual w i) (variable_image counts elements to v h k)

half_below : (l n : ℕ) → l < 2 * n → l / 2 < n
half_below l n h = let r : l % 2 < 2 = omega arith in omega arith

-- what a renamed literal is
record IsMoved (P : Protocol) (counts to : List ℕ) (l : ℕ) : Type 0 where
  place : place_of_atom P counts (renamed_atom to (get_or (atoms_of P counts) (l / 2) no_atom)) < length (atoms_of P counts)
  atom : get_or (atoms_of P counts) (renamed_literal P counts to l / 2) no_atom ≡ renamed_atom to (get_or (atoms_of P counts) (l / 2) no_atom)
  inside : renamed_literal P counts to l < 2 * length (atoms_of P counts)
  sign : renamed_literal P counts to l % 2 ≡ l % 2

moved : (P : Protocol) (counts : List ℕ) (atoms : List Atom) (to : List ℕ) (l : ℕ) → IsRenamed P counts atoms to → l < 2 * length (atoms_of P counts) → IsMoved P counts to l
moved P counts atoms to l h below =
    let there = at_place P counts (renamed_atom to (get_or (atoms_of P counts) (l / 2) no_atom)) (renamed_listed P counts atoms to (l / 2) h (half_below l (length (atoms_of P counts)) below)) in
    let place = place_of_atom P counts (renamed_atom to (get_or (atoms_of P counts) (l / 2) no_atom)) in
    let rest : l % 2 < 2 = omega arith in
    let inside = there.0 in
    let half : (2 * place + l % 2) / 2 ≡ place = omega (arith, rest) in
    record {
      place = inside;
      atom = ap (λ k. get_or (atoms_of P counts) k no_atom) half ∙ there.1;
      inside = omega (arith, inside, rest);
      sign = let e : (2 * place + l % 2) % 2 ≡ l % 2 = omega (arith, rest) in e;
    }

same_literal : (a b : Atom) (m n : Bool) → a ≡ b → m ≡ n → (let l : Literal = record { atom = a; negated = m } in l) ≡ (let l : Literal = record { atom = b; negated = n } in l)
same_literal a b m n e f = ap (λ (x : Atom). let l : Literal = record { atom = x; negated = m } in l) e ∙ ap (λ (x : Bool). let l : Literal = record { atom = b; negated = x } in l) f

literal_image : (P : Protocol) (counts : List ℕ) (atoms : List Atom) (to : List ℕ) (elements : List (List ℕ)) (l : ℕ) → IsRenamed P counts atoms to → AreNumbers counts elements to → l < 2 * length (atoms_of P counts) → literal_among (atoms_of P counts) (renamed_literal P counts to l) ≡ image_of elements (literal_among (atoms_of P counts) l)
literal_image P counts atoms to elements l h agree below =
    let m = moved P counts atoms to l h below in
    let half = half_below l (length (atoms_of P counts)) below in
    same_literal _ _ _ _
    (m.atom ∙ atom_image counts elements to (get_or (atoms_of P counts) (l / 2) no_atom) agree (each_at (IsAtomOf counts) (atoms_of P counts) (l / 2) no_atom half (atoms_inside P counts)))
    (ap (λ n. nat_eq n 1) m.sign)

apart : (P : Protocol) (counts : List ℕ) (atoms : List Atom) (to : List ℕ) (l m : ℕ) → IsRenamed P counts atoms to → l < 2 * length (atoms_of P counts) → m < 2 * length (atoms_of P counts) → AreApart l m → AreApart (renamed_literal P counts to l) (renamed_literal P counts to m)
apart P counts atoms to l m h hl hm differ e =
    let all = atoms_of P counts in
    let bl = half_below l (length all) hl in
    let bm = half_below m (length all) hm in
    let same : renamed_atom to (get_or all (l / 2) no_atom) ≡ renamed_atom to (get_or all (m / 2) no_atom) =
    sym (moved P counts atoms to l h hl).atom ∙ (ap (λ k. get_or all k no_atom) e ∙ (moved P counts atoms to m h hm).atom) in
    let one = same_atom P counts atoms to (get_or all (l / 2) no_atom) (get_or all (m / 2) no_atom) h (each_at (IsAtomOf counts) all (l / 2) no_atom bl (atoms_inside P counts)) (each_at (IsAtomOf counts) all (m / 2) no_atom bm (atoms_inside P counts)) same in
    differ (sym (placed P counts (l / 2) no_atom bl) ∙ (ap (place_of_atom P counts) one ∙ placed P counts (m / 2) no_atom bm))

same_parity : (a b : ℕ) → a < 2 → b < 2 → nat_eq a 1 ≡ nat_eq b 1 → a ≡ b
same_parity zero zero h k e = refl
same_parity zero (suc zero) h k e = absurd (let f : false ≡ true = e in let bottom : ⊥ = cc in bottom)
same_parity (suc zero) zero h k e = absurd (let f : true ≡ false = e in let bottom : ⊥ = cc in bottom)
same_parity (suc zero) (suc zero) h k e = refl
same_parity (suc (suc a)) b h k e = absurd (omega arith)
same_parity zero (suc (suc b)) h k e = absurd (omega arith)
same_parity (suc zero) (suc (suc b)) h k e = absurd (omega arith)

same_number : (P : Protocol) (counts : List ℕ) (l m : ℕ) → l < 2 * length (atoms_of P counts) → m < 2 * length (atoms_of P counts) → literal_among (atoms_of P counts) l ≡ literal_among (atoms_of P counts) m → l ≡ m
same_number P counts l m hl hm e =
    let bl = half_below l (length (atoms_of P counts)) hl in
    let bm = half_below m (length (atoms_of P counts)) hm in
    let atom : get_or (atoms_of P counts) (l / 2) no_atom ≡ get_or (atoms_of P counts) (m / 2) no_atom = ap (λ (x : Literal). x.atom) e in
    let place : l / 2 ≡ m / 2 = sym (placed P counts (l / 2) no_atom bl) ∙ (ap (place_of_atom P counts) atom ∙ placed P counts (m / 2) no_atom bm) in
    let rl : l % 2 < 2 = omega arith in
    let rm : m % 2 < 2 = omega arith in
    let sign : l % 2 ≡ m % 2 = same_parity (l % 2) (m % 2) rl rm (ap (λ (x : Literal). x.negated) e) in
    omega (arith, place, sign)

at : (literals : List ℕ) (n i : ℕ) → All (λ l. l < 2 * n) literals → i < length literals → get_or literals i 0 < 2 * n
at literals n i h below = h i 0 below

-- the literals under new numbers rise
renamed_rising : (P : Protocol) (counts : List ℕ) (atoms : List Atom) (to literals : List ℕ) → IsRenamed P counts atoms to → AreLiterals P counts literals → Rising IsAtomBefore (renamed_literals P counts to literals)
renamed_rising P counts atoms to literals h are =
    put_all_rising (map (renamed_literal P counts to) literals) [] tt
    (rising_from AreApart (map (renamed_literal P counts to) literals) (λ i j before below.
    let long = length-map literals (renamed_literal P counts to) in
    let hj : j < length literals = omega (arith, below, long) in
    let hi : i < length literals = omega (arith, before, hj) in
    let ei = get_or-map (renamed_literal P counts to) literals i 0 0 hi in
    let ej = get_or-map (renamed_literal P counts to) literals j 0 0 hj in
    let once = are.each_atom_once i j before hj in
    subst (λ x. AreApart x (get_or (map (renamed_literal P counts to) literals) j 0)) (sym ei)
    (subst (λ y. AreApart (renamed_literal P counts to (get_or literals i 0)) y) (sym ej)
    (apart P counts atoms to (get_or literals i 0) (get_or literals j 0) h (at literals (length (atoms_of P counts)) i are.of_the_shape hi) (at literals (length (atoms_of P counts)) j are.of_the_shape hj) (λ e. omega (arith, once, e))))))
    (each_any (map (renamed_literal P counts to) literals))
  where
    each_any : (xs : List ℕ) → Each (λ n. Each (AreApart n) []) xs
    each_any [] = tt
    each_any (x ∷ xs) = (tt, each_any xs)

each_all : (P : ℕ → Type 0) (xs : List ℕ) → Each P xs → All P xs
each_all P [] h k d below = absurd (omega arith)
each_all P (x ∷ xs) h zero d below = h.0
each_all P (x ∷ xs) h (suc k) d below = each_all P xs h.1 k d (omega arith)

pub array_image : (P : Protocol) (counts : List ℕ) (atoms : List Atom) (to : List ℕ) (elements : List (List ℕ)) (literals : List ℕ) → IsRenamed P counts atoms to → AreNumbers counts elements to → AreLiterals P counts literals → IsImage P counts elements literals (renamed_literals P counts to literals)
array_image P counts atoms to elements literals h agree are = record {
  are = record {
    of_the_shape = each_all (λ l. l < 2 * length (atoms_of P counts)) (renamed_literals P counts to literals)
        (put_all_each (λ l. l < 2 * length (atoms_of P counts)) (map (renamed_literal P counts to) literals) []
        (each_from (λ l. l < 2 * length (atoms_of P counts)) (map (renamed_literal P counts to) literals) (λ i below.
        let long = length-map literals (renamed_literal P counts to) in
        let hi : i < length literals = omega (arith, below, long) in
        subst (λ x. x < 2 * length (atoms_of P counts)) (sym (get_or-map (renamed_literal P counts to) literals i 0 0 hi)) (moved P counts atoms to (get_or literals i 0) h (at literals (length (atoms_of P counts)) i are.of_the_shape hi)).inside))
        tt);
    each_atom_once = λ i j before below. rising_at IsAtomBefore (renamed_literals P counts to literals) i j before below (renamed_rising P counts atoms to literals h are);
  };
  as_many = let e = put_all_length (map (renamed_literal P counts to) literals) [] in let k = length-map literals (renamed_literal P counts to) in omega (arith, e, k);
  taken = λ l k.
      let there = among_map (renamed_literal P counts to) l literals (among_at l literals k.0 k.1 k.2) in
      let below : l < 2 * length (atoms_of P counts) = subst (λ x. x < 2 * length (atoms_of P counts)) k.2 (are.of_the_shape k.0 l k.1) in
      subst (Contains (map (literal_among (atoms_of P counts)) (renamed_literals P counts to literals))) (literal_image P counts atoms to elements l h agree below)
      (contained _ (map (literal_among (atoms_of P counts)) (renamed_literals P counts to literals)) (among_map (literal_among (atoms_of P counts)) (renamed_literal P counts to l) (renamed_literals P counts to literals) (put_all_among (renamed_literal P counts to l) (map (renamed_literal P counts to) literals) [] (inl there))));
}

pub only_image : (P : Protocol) (counts : List ℕ) (atoms : List Atom) (to : List ℕ) (elements : List (List ℕ)) (literals others : List ℕ) → IsRenamed P counts atoms to → AreNumbers counts elements to → AreLiterals P counts literals → IsImage P counts elements literals others → renamed_literals P counts to literals ≡ others
only_image P counts atoms to elements literals others h agree are image =
    same_members (renamed_literals P counts to literals) others (renamed_rising P counts atoms to literals h are)
    (rising_from IsAtomBefore others (λ i j before below. image.are.each_atom_once i j before below))
    (let e = put_all_length (map (renamed_literal P counts to) literals) [] in let k = length-map literals (renamed_literal P counts to) in let m = image.as_many in omega (arith, e, k, m))
    (put_all_each (λ x. Among x others) (map (renamed_literal P counts to) literals) []
    (each_from (λ x. Among x others) (map (renamed_literal P counts to) literals) (λ i below.
    let long = length-map literals (renamed_literal P counts to) in
    let hi : i < length literals = omega (arith, below, long) in
    let l = get_or literals i 0 in
    let inside = at literals (length (atoms_of P counts)) i are.of_the_shape hi in
    let found = image.taken l (i, hi, get_or_default literals i l 0 hi) in
    let there : found.0 < length others = let k = found.1 in let e = length-map others (literal_among (atoms_of P counts)) in omega (arith, k, e) in
    let m = get_or others found.0 0 in
    let same : literal_among (atoms_of P counts) m ≡ literal_among (atoms_of P counts) (renamed_literal P counts to l) =
    sym (get_or-map (literal_among (atoms_of P counts)) others found.0 0 (image_of elements (literal_among (atoms_of P counts) l)) there) ∙ (found.2 ∙ sym (literal_image P counts atoms to elements l h agree inside)) in
    let one : m ≡ renamed_literal P counts to l = same_number P counts m (renamed_literal P counts to l) (at others (length (atoms_of P counts)) found.0 image.are.of_the_shape there) (moved P counts atoms to l h inside).inside same in
    subst (λ x. Among x others) (sym (get_or-map (renamed_literal P counts to) literals i 0 0 hi))
    (among_at (renamed_literal P counts to l) others found.0 there (get_or_default others found.0 (renamed_literal P counts to l) 0 there ∙ one))))
    tt)
