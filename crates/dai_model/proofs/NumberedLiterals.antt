-- Numbers for literals over the atoms of a shape.
use Rattle.std.proofs.Common.{◌≡◌, ◌<◌, ◌+◌, ◌*◌, ◌/◌, ◌%◌, ℕ, zero, suc, Bool, true, false, List, [], ◌∷◌, get_or, length, ap, ◌∙◌, refl, arith}
use Rattle.std.specs.Prelude.{slice_index, nat_eq}
use Rattle.std.proofs.lemmas.List.{get_or_default}
use Rattle.dai_model.specs.Protocol.{Protocol}
use Rattle.dai_model.specs.Clause.{Clause, Literal, literal_among, atoms_of, atom_number, no_atom}
use Rattle.dai_model.specs.Template.{Bounds, IsTemplate}
use Rattle.dai_model.proofs.Below.{IsAtomOf, Each-at, half_below}
use Rattle.dai_model.proofs.ShapeAtoms.{IsNamed, atoms_named, atom_listed}
use Rattle.dai_model.proofs.Ranks.{literal_at}

pub record IsNumberOf (P : Protocol) (counts : List ℕ) (l : Literal) (number : ℕ) : Type 0 where
  pub below : number < 2 * length (atoms_of P counts)
  pub is : literal_among (atoms_of P counts) number ≡ l

with_sign : Bool → ℕ → ℕ
with_sign true k = 2 * k + 1
with_sign false k = 2 * k

sign_read : (b : Bool) (k : ℕ) → nat_eq (with_sign b k % 2) 1 ≡ b
unfolding with_sign
sign_read true k = let e : (2 * k + 1) % 2 ≡ 1 = omega arith in ap (λ n. nat_eq n 1) e
sign_read false k = let e : (2 * k) % 2 ≡ 0 = omega arith in ap (λ n. nat_eq n 1) e

atom_read : (b : Bool) (k : ℕ) → with_sign b k / 2 ≡ k
unfolding with_sign
atom_read true k = omega arith
atom_read false k = omega arith

sign_below : (b : Bool) (k n : ℕ) → k < n → with_sign b k < 2 * n
unfolding with_sign
sign_below true k n h = omega (arith, h)
sign_below false k n h = omega (arith, h)

number_of : (P : Protocol) (counts : List ℕ) (l : Literal) → IsNamed P l.atom → IsAtomOf counts l.atom → (number : ℕ) × IsNumberOf P counts l number
number_of P counts l named inside =
    let w = atom_listed P counts l.atom named inside in
    let atoms = atoms_of P counts in
    let atom : get_or atoms (with_sign l.negated w.0 / 2) no_atom ≡ l.atom = ap (λ k. get_or atoms k no_atom) (atom_read l.negated w.0) ∙ get_or_default atoms w.0 no_atom l.atom w.1 ∙ w.2 in
    let sign = sign_read l.negated w.0 in
    (with_sign l.negated w.0, record { below = sign_below l.negated w.0 (length atoms) w.1; is = λ i. record { atom = atom i; negated = sign i } })

-- the literals of a template are over atoms of the protocol
pub literal_named : (P : Protocol) (B : Bounds) (c : Clause) (i : ℕ) → IsTemplate P B c → i < length c.literals → IsNamed P (literal_at P c i).atom
literal_named P B c i t below =
    Each-at (IsNamed P) (atoms_of P c.counts) (atom_number (slice_index c.literals i)) no_atom
    (half_below (slice_index c.literals i) (length (atoms_of P c.counts)) (t.of_the_shape i 0 below)) (atoms_named P c.counts)

-- numbers for so many literals, in order
pub record AreNumbersOf (P : Protocol) (counts : List ℕ) (n : ℕ) (literal : ℕ → Literal) (numbers : List ℕ) : Type 0 where
  pub long : length numbers ≡ n
  pub each : (i : ℕ) → i < n → IsNumberOf P counts (literal i) (slice_index numbers i)

pub numbers_of : (P : Protocol) (counts : List ℕ) (n : ℕ) (literal : ℕ → Literal) → ((i : ℕ) → i < n → IsNamed P (literal i).atom × IsAtomOf counts (literal i).atom) → (numbers : List ℕ) × AreNumbersOf P counts n literal numbers
numbers_of P counts zero literal fits = ([], record { long = refl; each = λ i h. absurd (let none : ⊥ = omega (arith, h) in none) })
numbers_of P counts (suc n) literal fits =
    let here = fits 0 (omega arith) in
    let first = number_of P counts (literal 0) here.0 here.1 in
    let rest = numbers_of P counts n (λ i. literal (suc i)) (λ i h. fits (suc i) (omega (arith, h))) in
    (first.0 ∷ rest.0, record { long = ap suc rest.1.long; each = at_place first.0 rest.0 first.1 rest.1 })
  where
    at_place : (number : ℕ) (numbers : List ℕ) → IsNumberOf P counts (literal 0) number → AreNumbersOf P counts n (λ i. literal (suc i)) numbers → (i : ℕ) → i < suc n → IsNumberOf P counts (literal i) (slice_index (number ∷ numbers) i)
    at_place number numbers own others zero h = own
    at_place number numbers own others (suc i) h = others.each i (omega (arith, h))
