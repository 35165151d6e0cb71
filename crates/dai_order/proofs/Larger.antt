-- The shape with one variable more, and the new numbers of the variables.
use Rattle.std.proofs.Common.{◌≡◌, ◌<◌, ◌≤◌, ◌+◌, ◌*◌, ◌/◌, ◌%◌, ℕ, zero, suc, List, [], ◌∷◌, ◌++◌, length, get_or, map, take, sym, ap, ◌∙◌, refl, subst, arith, inl, inr, ◌⊎◌}
use Rattle.std.specs.Prelude.{slice_index}
use Rattle.std.proofs.lemmas.Bool.{cases_lt}
use Rattle.std.proofs.lemmas.List.{get_or-map, length-map, get_or_append_left, get_or_push, length-append, length-take-le, get_or-take}
use Rattle.dai_model.specs.Clause.{Atom, no_atom}
use Rattle.dai_template.specs.declared.clause.Atom.{Atom as Kept}
use Rattle.dai_template.specs.declared.clause.Shape.{Shape}
use Rattle.dai_template.specs.declared.space.Space.{Space}
use Rattle.dai_template.specs.Atoms.{atom_of, counts_of}
use Rattle.dai_template.specs.Renamings.{put_in_order, put_all_in_order}
use Rattle.dai_template.proofs.InOrder.{put_all_length}
use Rattle.dai_order.specs.Variables.{counts_at, atoms_at, IsImageAt, IsMovedTo, AreMovedTo}

pub counts_is : (space : Space) (k : ℕ) (s : Shape) → k < length space.shapes.items → s ≡ get_or space.shapes.items k s → s.counts.items ≡ counts_at space k
counts_is space k s below is = ap counts_of is ∙ sym (get_or-map counts_of space.shapes.items k s [] below)

pub atoms_is : (space : Space) (k : ℕ) (s : Shape) → k < length space.shapes.items → s ≡ get_or space.shapes.items k s → map atom_of s.atoms.items ≡ atoms_at space k
atoms_is space k s below is = ap (map atom_of) (ap (λ (x : Shape). x.atoms.items) is ∙ sym (get_or-map (λ (x : Shape). x.atoms.items) space.shapes.items k s [] below))

pub none_more : (Q : ℕ → Type 0) (n k : ℕ) → k < n + 1 → (k < n → Q k → ⊥) → (Q n → ⊥) → Q k → ⊥
none_more Q n k below earlier last here = by_place (cases_lt k n)
  where
    by_place : (k < n) ⊎ (n ≤ k) → ⊥
    by_place (inl before) = earlier before here
    by_place (inr past) = last (subst Q (let same : k ≡ n = omega (arith, below, past) in same) here)

-- numbers that stay
abbrev fours : ℕ → List ℕ
fours zero = []
fours (suc k) = 0 ∷ 1 ∷ 2 ∷ 3 ∷ fours k

pub fours_at : (k s n : ℕ) → s < k → n < 4 → get_or (fours k) (4 * s + n) 0 ≡ n
fours_at zero s n h small = absurd (omega (arith, h))
fours_at (suc k) zero zero h small = refl
fours_at (suc k) zero (suc zero) h small = refl
fours_at (suc k) zero (suc (suc zero)) h small = refl
fours_at (suc k) zero (suc (suc (suc zero))) h small = refl
fours_at (suc k) zero (suc (suc (suc (suc n)))) h small = absurd (omega (arith, small))
fours_at (suc k) (suc s) n h small =
    let far : 4 * suc s + n ≡ suc (suc (suc (suc (4 * s + n)))) = omega arith in
    ap (λ i. get_or (fours (suc k)) i 0) far ∙ fours_at k s n (omega (arith, h)) small

-- one number more, put in order
pub put_all_more : (ns : List ℕ) (n : ℕ) (sorted : List ℕ) → put_all_in_order (ns ++ n ∷ []) sorted ≡ put_in_order n (put_all_in_order ns sorted)
put_all_more [] n sorted = refl
put_all_more (m ∷ ns) n sorted = put_all_more ns n (put_in_order m sorted)

-- one literal more was moved
pub moved_more : (types : ℕ) (to : List ℕ) (from into : List Atom) (literals others new : List ℕ) (i other : ℕ) → i < length literals → AreMovedTo types to from into (take i literals) others → IsMovedTo types to from into (get_or literals i 0) other → new ≡ put_in_order other others → AreMovedTo types to from into (take (i + 1) literals) new
moved_more types to from into literals others new i other below h here e = record {
  numbers = h.numbers ++ other ∷ [];
  as_many = let a = length-append h.numbers (other ∷ []) in let b = h.as_many in let c = length-take-le i literals (omega (arith, below)) in let d = length-take-le (i + 1) literals (omega (arith, below)) in omega (arith, a, b, c, d);
  each = λ k k_below. by_place k k_below (cases_lt k i);
  ordered = e ∙ (ap (put_in_order other) h.ordered ∙ sym (put_all_more h.numbers other []));
}
  where
    long : length h.numbers ≡ i
    long = let b = h.as_many in let c = length-take-le i literals (omega (arith, below)) in omega (arith, b, c)

    by_place : (k : ℕ) → k < length (take (i + 1) literals) → (k < i) ⊎ (i ≤ k) → IsMovedTo types to from into (slice_index (take (i + 1) literals) k) (slice_index (h.numbers ++ other ∷ []) k)
    by_place k k_below (inl before) =
        let first : slice_index (take (i + 1) literals) k ≡ slice_index (take i literals) k = get_or-take (i + 1) literals k 0 (omega (arith, before)) ∙ sym (get_or-take i literals k 0 before) in
        let second : slice_index (h.numbers ++ other ∷ []) k ≡ slice_index h.numbers k = get_or_append_left h.numbers (other ∷ []) 0 k (omega (arith, long, before)) in
        let short = length-take-le i literals (omega (arith, below)) in
        subst (λ x. IsMovedTo types to from into x (slice_index (h.numbers ++ other ∷ []) k)) (sym first) (subst (λ y. IsMovedTo types to from into (slice_index (take i literals) k) y) (sym second) (h.each k (omega (arith, short, before))))
    by_place k k_below (inr past) =
        let whole = length-take-le (i + 1) literals (omega (arith, below)) in
        let same : i ≡ k = omega (arith, k_below, past, whole) in
        let first : slice_index (take (i + 1) literals) k ≡ get_or literals i 0 = get_or-take (i + 1) literals k 0 (omega (arith, same)) ∙ ap (λ j. get_or literals j 0) (sym same) in
        let second : slice_index (h.numbers ++ other ∷ []) k ≡ other = get_or_push h.numbers other 0 k (omega (arith, long, same)) in
        subst (λ x. IsMovedTo types to from into x (slice_index (h.numbers ++ other ∷ []) k)) (sym first) (subst (λ y. IsMovedTo types to from into (get_or literals i 0) y) (sym second) here)

-- the atom that the loop reads
pub read_atom : (space : Space) (k : ℕ) (s : Shape) (a : Kept) (i l m : ℕ) → k < length space.shapes.items → s ≡ get_or space.shapes.items k s → a ≡ get_or s.atoms.items i a → i ≡ l / 2 → l ≡ m → m < 2 * length (atoms_at space k) → atom_of a ≡ get_or (atoms_at space k) (m / 2) no_atom
read_atom space k s a i l m inside is read half same below =
    let all = atoms_is space k s inside is in
    let long = ap length all in
    let as_long = length-map s.atoms.items atom_of in
    let rest : m % 2 < 2 = omega arith in
    let there : m / 2 < length s.atoms.items = omega (arith, below, long, as_long, rest) in
    let place : i ≡ m / 2 = half ∙ ap (λ n. n / 2) same in
    ap atom_of (read ∙ ap (λ n. get_or s.atoms.items n a) place)
    ∙ (sym (get_or-map atom_of s.atoms.items (m / 2) a no_atom there) ∙ ap (λ xs. get_or xs (m / 2) no_atom) all)

pub moved_here : (types : ℕ) (to : List ℕ) (from into : List Atom) (a : Atom) (image l m : ℕ) → l ≡ m → a ≡ get_or from (m / 2) no_atom → IsImageAt types to into a image → IsMovedTo types to from into m (2 * image + l % 2)
moved_here types to from into a image l m same atom is =
    let rest : l % 2 < 2 = omega arith in
    let half : image ≡ (2 * image + l % 2) / 2 = omega (arith, rest) in
    let sign : (2 * image + l % 2) % 2 ≡ l % 2 = omega (arith, rest) in
    record {
      image = subst (IsImageAt types to into (get_or from (m / 2) no_atom)) half (subst (λ x. IsImageAt types to into x image) atom is);
      sign = sign ∙ ap (λ n. n % 2) same;
    }

pub image_as : (types n : ℕ) (to : List ℕ) (atoms others : List Atom) (a b : Atom) (place : ℕ) → types ≡ n → atoms ≡ others → a ≡ b → IsImageAt types to atoms a place → IsImageAt n to others b place
image_as types n to atoms others a b place e f g h =
    subst (λ t. IsImageAt t to others b place) e (subst (λ xs. IsImageAt types to xs b place) f (subst (λ x. IsImageAt types to atoms x place) g h))

pub room_for : (types : ℕ) (to : List ℕ) (from into : List Atom) (literals others : List ℕ) (i : ℕ) → i < length literals → length literals ≤ 8 → AreMovedTo types to from into (take i literals) others → length others < 8
room_for types to from into literals others i below few h =
    let a = ap length h.ordered in
    let b = put_all_length h.numbers [] in
    let c = h.as_many in
    let d = length-take-le i literals (omega (arith, below)) in
    omega (arith, a, b, c, d, below, few)

-- what is found is not passed
pub not_past : {X Y : Type 0} (Q : ℕ → Type 0) (n found : ℕ) (xs : List X) (f : X → Y) → found < length (map f xs) → Q found → ((k : ℕ) → k < n → Q k → ⊥) → n < length xs
not_past Q n found xs f below here none = by_place (cases_lt found n)
  where
    by_place : (found < n) ⊎ (n ≤ found) → n < length xs
    by_place (inl before) = absurd (none found before here)
    by_place (inr past) = let long = length-map xs f in omega (arith, past, below, long)
