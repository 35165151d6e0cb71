-- The value of a literal, and of some literal of a list.
use Rattle.std.proofs.Common.{◌≡◌, ◌<◌, ℕ, ◌*◌, ◌/◌, ◌%◌, Bool, true, false, not, List, length, get_or, map, sym, ap, ◌∙◌, refl, subst, arith}
use Rattle.std.specs.Prelude.{nat_eq, if◌then◌else◌}
use Rattle.std.specs.List.{All}
use mathlib.Core.Bool.{beq}
use Rattle.std.proofs.lemmas.List.{get_or-map, length-map}
use Rattle.dai_model.specs.Structure as Model
use Rattle.dai_model.specs.Clause.{Atom as ModelAtom}
use Rattle.dai_model.specs.Clause.{literal_among, no_atom}
use Rattle.dai_template.specs.declared.clause.Atom.{Atom}
use Rattle.dai_template.specs.Atoms.{atom_of}
use Rattle.dai_template.specs.Meeting.{atom_in, literal_in}

signed : (b negated : Bool) → not (beq b negated) ≡ (if negated then not b else b)
signed true true = refl
signed true false = refl
signed false true = refl
signed false false = refl

pub half : (literals : List ℕ) (k : ℕ) (atoms : List Atom) → All (λ literal. literal < 2 * length (map atom_of atoms)) literals → k < length literals → get_or literals k 0 / 2 < length atoms
half literals k atoms h below =
    let l = h k 0 below in
    let long = length-map atoms atom_of in
    let rest : get_or literals k 0 % 2 < 2 = omega arith in
    omega (arith, l, long, rest)

pub literal_is : (S : Model.Structure) (values : List ℕ) (atoms : List Atom) (n i : ℕ) (a : Atom) (b : Bool) → i ≡ n / 2 → n / 2 < length atoms → a ≡ get_or atoms i a → b ≡ atom_in S values (atom_of a) → not (beq b (nat_eq (n % 2) 1)) ≡ literal_in S values (literal_among (map atom_of atoms) n)
literal_is S values atoms n i a b same below is e =
    let named : atom_of a ≡ get_or (map atom_of atoms) (n / 2) no_atom = ap atom_of (is ∙ ap (λ k. get_or atoms k a) same) ∙ sym (get_or-map atom_of atoms (n / 2) a no_atom below) in
    signed b (nat_eq (n % 2) 1) ∙ ap (λ x. if nat_eq (n % 2) 1 then not x else x) (e ∙ ap (atom_in S values) named)

-- the atom that is read is the literal's
pub atom_is : (Q : ModelAtom → Type 0) (atoms : List Atom) (n i : ℕ) (a : Atom) → n < 2 * length (map atom_of atoms) → i ≡ n / 2 → a ≡ get_or atoms i a → Q (literal_among (map atom_of atoms) n).atom → Q (atom_of a)
atom_is Q atoms n i a below same is h =
    let long = length-map atoms atom_of in
    let named : atom_of a ≡ get_or (map atom_of atoms) (n / 2) no_atom = ap atom_of (is ∙ ap (λ k. get_or atoms k a) same) ∙ sym (get_or-map atom_of atoms (n / 2) a no_atom (omega (arith, below, long))) in
    subst Q (sym named) h
