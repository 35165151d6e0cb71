-- Steps of writing a clause's formula.
use Rattle.std.proofs.Common.{◌≡◌, ◌≢◌, ◌<◌, ◌≤◌, ℕ, zero, suc, ◌*◌, ◌/◌, ◌%◌, true, false, List, [], ◌∷◌, length, get_or, map, take, sum, sym, ap, ◌∙◌, refl, arith}
use Rattle.std.specs.Prelude.{slice_index, nat_eq, if◌then◌else◌}
use Rattle.std.proofs.lemmas.Bool.Decides.{nat_tests}
use Rattle.std.proofs.lemmas.List.{take_all, get_or-map, length-map}
use Rattle.dai_model.specs.Formula.{Formula, negation, with_formula}
use Rattle.dai_model.specs.Clause.{literal_among, no_atom}
use Rattle.dai_logic.specs.declared.protocol.Formula.{Formula as Tree}
use Rattle.dai_logic.specs.Trees.{formula_of, formulas_of}
use Rattle.dai_template.specs.declared.clause.Atom.{Atom}
use Rattle.dai_template.specs.Atoms.{atom_of}
use Rattle.dai_template.specs.ClauseFormulas.{atom_formula, literal_formula, formulas_from, trees_of, IsWritable}
use Rattle.dai_model.proofs.Below.{Each}
use Rattle.dai_model.proofs.Folds.{map-map}
use Rattle.dai_template.proofs.Flat.{sum_cons}

pub each_mapped : {X Y : Type 0} (P : Y → Type 0) (f : X → Y) (xs : List X) (k : ℕ) (d : X) → k < length xs → Each P (map f xs) → P (f (get_or xs k d))
each_mapped P f [] k d h e = absurd (omega arith)
each_mapped P f (x ∷ xs) zero d h e = e.0
each_mapped P f (x ∷ xs) (suc k) d h e = each_mapped P f xs k d (omega (arith, h)) e.1

-- all elements in two steps
pub mapped_all : {X Y Z : Type 0} (f : Y → Z) (g : X → Y) (xs : List X) (i : ℕ) → length xs ≤ i → map (λ x. f (g x)) (take i xs) ≡ map f (map g xs)
mapped_all f g xs i past = ap (map (λ x. f (g x))) (take_all i xs past) ∙ sym (map-map f g xs)

pub small_sum : (xs : List ℕ) → ((i : ℕ) → slice_index xs i ≤ 4) → sum xs ≤ length xs * 4
small_sum [] h = omega arith
small_sum (x ∷ xs) h = let k = small_sum xs (λ i. h (suc i)) in let e = sum_cons x xs in let here = h 0 in omega (arith, k, e, here)

-- the literal is over an atom of the shape
pub atom_below : (counts : List ℕ) (atoms : List Atom) (literal : ℕ) → IsWritable counts (map atom_of atoms) (literal ∷ []) → literal / 2 < length atoms
atom_below counts atoms literal h =
    let below : literal < 2 * length (map atom_of atoms) = h.of_the_shape 0 0 (omega arith) in
    let long = length-map atoms atom_of in
    let rest : literal % 2 < 2 = omega arith in
    omega (arith, below, long, rest)

atom_named : (atoms : List Atom) (literal i : ℕ) (a : Atom) → i ≡ literal / 2 → literal / 2 < length atoms → a ≡ get_or atoms i a → atom_of a ≡ get_or (map atom_of atoms) (literal / 2) no_atom
atom_named atoms literal i a same below is = ap atom_of (is ∙ ap (λ k. get_or atoms k a) same) ∙ sym (get_or-map atom_of atoms (literal / 2) a no_atom below)

pub written_negated : (counts : List ℕ) (atoms : List Atom) (literal i : ℕ) (a : Atom) (f : Formula) → i ≡ literal / 2 → literal / 2 < length atoms → a ≡ get_or atoms i a → f ≡ atom_formula counts (atom_of a) → literal % 2 ≡ 1 → negation f ≡ literal_formula counts (literal_among (map atom_of atoms) literal)
written_negated counts atoms literal i a f same below is e odd =
    let n : nat_eq (literal % 2) 1 ≡ true = grind (arith, nat_tests) in
    let g = atom_formula counts (get_or (map atom_of atoms) (literal / 2) no_atom) in
    ap negation (e ∙ ap (atom_formula counts) (atom_named atoms literal i a same below is)) ∙ sym (ap (λ b. if b then negation g else g) n)

pub written_plain : (counts : List ℕ) (atoms : List Atom) (literal i : ℕ) (a : Atom) (f : Formula) → i ≡ literal / 2 → literal / 2 < length atoms → a ≡ get_or atoms i a → f ≡ atom_formula counts (atom_of a) → literal % 2 ≢ 1 → f ≡ literal_formula counts (literal_among (map atom_of atoms) literal)
written_plain counts atoms literal i a f same below is e even =
    let n : nat_eq (literal % 2) 1 ≡ false = grind (arith, nat_tests) in
    let g = atom_formula counts (get_or (map atom_of atoms) (literal / 2) no_atom) in
    (e ∙ ap (atom_formula counts) (atom_named atoms literal i a same below is)) ∙ sym (ap (λ b. if b then negation g else g) n)

-- the tree of a disjunction from the trees of its parts
pub trees_formulas : (fs : List Tree) → formulas_of fs ≡ formulas_from (trees_of fs)
trees_formulas [] = refl
trees_formulas (f ∷ fs) = ap (with_formula (formula_of f)) (trees_formulas fs)
