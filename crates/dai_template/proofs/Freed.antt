-- The types that are let go, one after another.
use Rattle.std.proofs.Common.{◌≡◌, ◌≢◌, ◌<◌, ◌≤◌, ◌+◌, ◌*◌, ◌/◌, ◌%◌, ℕ, Bool, true, false, List, length, get_or, set, map, sym, ap, ◌∙◌, subst, arith, inl, inr, ◌⊎◌}
use Rattle.std.specs.List.{All}
use Rattle.std.proofs.lemmas.Bool.{cases_lt}
use Rattle.std.proofs.lemmas.List.{get_or-map, get_or-set_same, get_or-set_other, length-map}
use Rattle.dai_model.specs.Clause.{Variable, Atom, tuple, is_individual, no_atom}
use Rattle.dai_template.specs.declared.clause.Atom.{Atom as Own}
use Rattle.dai_template.specs.Atoms.{variable_of, atom_of}
use Rattle.dai_template.specs.Renamings.{IsSame, AreAsOrdered, AreTypesBelow}

same_or_not : (t i : ℕ) → (t ≡ i) ⊎ (t ≢ i)
same_or_not t i = by_order (cases_lt t i) (cases_lt i t)
  where
    by_order : (t < i) ⊎ (i ≤ t) → (i < t) ⊎ (t ≤ i) → (t ≡ i) ⊎ (t ≢ i)
    by_order (inl below) _ = inr (λ e. omega (arith, below, e))
    by_order (inr past) (inl above) = inr (λ e. omega (arith, above, e))
    by_order (inr past) (inr other) = inl (omega (arith, past, other))

pub freed_here : (kept ordered : List Bool) (i j s : ℕ) → i ≡ s → j ≡ s → s < length kept → IsSame (set kept i (get_or ordered j false)) ordered s
freed_here kept ordered i j s e f below =
    ap (λ k. get_or (set kept k (get_or ordered j false)) s false) e ∙ (get_or-set_same kept s (get_or ordered j false) false below ∙ ap (λ k. get_or ordered k false) f)

pub stays_same : (kept ordered : List Bool) (i j s t : ℕ) → i ≡ s → j ≡ s → s < length kept → IsSame kept ordered t → IsSame (set kept i (get_or ordered j false)) ordered t
stays_same kept ordered i j s t e f below h = by_place (same_or_not t s)
  where
    by_place : (t ≡ s) ⊎ (t ≢ s) → IsSame (set kept i (get_or ordered j false)) ordered t
    by_place (inl same) = subst (λ k. IsSame (set kept i (get_or ordered j false)) ordered k) (sym same) (freed_here kept ordered i j s e f below)
    by_place (inr other) = get_or-set_other kept i t (get_or ordered j false) false (λ k. other (k ∙ e)) ∙ h

pub keeps_on : (kept ordered : List Bool) (i j s t : ℕ) → i ≡ s → j ≡ s → s < length kept → get_or ordered t false ≡ true → get_or kept t false ≡ true → get_or (set kept i (get_or ordered j false)) t false ≡ true
keeps_on kept ordered i j s t e f below own h = by_place (same_or_not t s)
  where
    by_place : (t ≡ s) ⊎ (t ≢ s) → get_or (set kept i (get_or ordered j false)) t false ≡ true
    by_place (inl same) = ap (λ k. get_or (set kept i (get_or ordered j false)) k false) same ∙ (freed_here kept ordered i j s e f below ∙ (ap (λ k. get_or ordered k false) (sym same) ∙ own))
    by_place (inr other) = get_or-set_other kept i t (get_or ordered j false) false (λ k. other (k ∙ e)) ∙ h

pub sort_below : (vars : List (ℕ × ℕ)) (n k : ℕ) → All (λ (v : Variable). v.sort < n) (map variable_of vars) → k < length vars → (get_or vars k (0, 0)).0 < n
sort_below vars n k h below =
    let long = length-map vars variable_of in
    let at = get_or-map variable_of vars k (0, 0) (variable_of (0, 0)) below in
    subst (λ (v : Variable). v.sort < n) at (h k (variable_of (0, 0)) (omega (arith, long, below)))

pub all_freed : (vars : List (ℕ × ℕ)) (kept ordered : List Bool) (n : ℕ) → length vars ≤ n → ((k : ℕ) → k < n → IsSame kept ordered (get_or vars k (0, 0)).0) → All (λ (v : Variable). IsSame kept ordered v.sort) (map variable_of vars)
all_freed vars kept ordered n many h k d below =
    let long = length-map vars variable_of in
    let inside : k < length vars = omega (arith, long, below) in
    subst (λ (v : Variable). IsSame kept ordered v.sort) (sym (get_or-map variable_of vars k (0, 0) d inside)) (h k (omega (arith, inside, many)))

pub one_more : (Q : ℕ → Type 0) (n k : ℕ) → k < n + 1 → ((j : ℕ) → j < n → Q j) → Q n → Q k
one_more Q n k h earlier last = by_order (cases_lt k n)
  where
    by_order : (k < n) ⊎ (n ≤ k) → Q k
    by_order (inl below) = earlier k below
    by_order (inr past) = subst Q (let same : n ≡ k = omega (arith, h, past) in same) last

-- what stays as it is ordered, atom by atom
pub as_ordered_on : (old new ordered : List Bool) (a : Atom) → ((t : ℕ) → IsSame old ordered t → IsSame new ordered t) → AreAsOrdered old ordered a → AreAsOrdered new ordered a
as_ordered_on old new ordered (tuple r vs) stays h = λ k d below. stays (get_or vs k d).sort (h k d below)
as_ordered_on old new ordered (is_individual v i) stays h = stays v.sort h

-- the atom of a literal
pub literal_atom : (atoms : List Own) (literal i : ℕ) (a : Own) → i ≡ literal / 2 → literal < 2 * length (map atom_of atoms) → a ≡ get_or atoms i a → get_or (map atom_of atoms) (literal / 2) no_atom ≡ atom_of a
literal_atom atoms literal i a e below is =
    let long = length-map atoms atom_of in
    let rest : literal % 2 < 2 = omega arith in
    let half : literal / 2 < length atoms = omega (arith, below, long, rest) in
    get_or-map atom_of atoms (literal / 2) a no_atom half ∙ ap atom_of (ap (λ k. get_or atoms k a) (sym e) ∙ sym is)

pub types_at : (n : ℕ) (atoms : List Own) (literal i : ℕ) (a : Own) → All (AreTypesBelow n) (map atom_of atoms) → i ≡ literal / 2 → literal < 2 * length (map atom_of atoms) → a ≡ get_or atoms i a → AreTypesBelow n (atom_of a)
types_at n atoms literal i a all e below is =
    let rest : literal % 2 < 2 = omega arith in
    subst (AreTypesBelow n) (literal_atom atoms literal i a e below is) (all (literal / 2) no_atom (omega (arith, below, rest)))
