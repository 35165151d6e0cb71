-- A clause below another one has no more variables of any type and no more literals; where it has as many of both, it
-- is a renaming.
use Rattle.std.proofs.Common.{◌≡◌, ◌≢◌, ◌<◌, ◌≤◌, ℕ, Bool, true, false, length, Some, sym, ◌∙◌, ap, subst, refl, arith, inl, inr, ◌⊎◌}
use Rattle.std.specs.Prelude.{slice_get, slice_index, sum}
use Rattle.std.specs.List.{Contains}
use Rattle.std.proofs.lemmas.Bool.{cases_lt}
use Rattle.std.proofs.lemmas.List.{get_or-map, get_or_past, length-map}
use Rattle.dai_model.specs.Protocol.{Protocol, Sort}
use Rattle.dai_model.specs.Placement.{Apart, of_sort}
use Rattle.dai_model.specs.Clause.{Clause, Literal, literal_among, literals_of, atoms_of, atom_number, no_atom, value_at}
use Rattle.dai_model.specs.Template.{Bounds, IsTemplate}
use Rattle.dai_model.specs.Subsumption.{image_of, image_of_variable, Subsumes, IsRenaming}
use Rattle.dai_model.specs.Weakening.{rank_of}
use Rattle.dai_model.proofs.Below.{half_below, literal_inside, slice_get-some, count_within}
use Rattle.dai_model.proofs.Counting.{IsOneToOne, no_fewer, IsHit, hits_each, back, back_hits, back_again, sum_no_more, same_sum}
use Rattle.dai_model.proofs.ShapeAtoms.{same_place}
use Rattle.dai_model.proofs.MovedAtoms.{placed_one_to_one, same_literal, AreTwoInOne, literal_again, table, table-at, table_placed, Places}

abbrev pub literal_at : Protocol → Clause → ℕ → Literal
literal_at P c i = literal_among (atoms_of P c.counts) (slice_index c.literals i)

pub literal_there : (P : Protocol) (c : Clause) (i : ℕ) → i < length c.literals → Contains (literals_of P c) (literal_at P c i)
literal_there P c i below =
    let long = length-map c.literals (literal_among (atoms_of P c.counts)) in
    (i, omega (arith, long, below), get_or-map (literal_among (atoms_of P c.counts)) c.literals i 0 (literal_at P c i) below)

-- a literal is at a place of its clause
pub record IsAt (P : Protocol) (c : Clause) (l : Literal) (i : ℕ) : Type 0 where
  pub below : i < length c.literals
  pub is : literal_at P c i ≡ l

pub literal_place : (P : Protocol) (c : Clause) (l : Literal) (h : Contains (literals_of P c) l) → IsAt P c l h.0
literal_place P c l h =
    let long = length-map c.literals (literal_among (atoms_of P c.counts)) in
    let inside = h.1 in
    let below : h.0 < length c.literals = omega (arith, long, inside) in
    record { below = below; is = sym (get_or-map (literal_among (atoms_of P c.counts)) c.literals h.0 0 l below) ∙ h.2 }

-- no two literals of a template have one atom
pub same_atom_place : (P : Protocol) (B : Bounds) (c : Clause) (i j : ℕ) → IsTemplate P B c → i < length c.literals → j < length c.literals → (literal_at P c i).atom ≡ (literal_at P c j).atom → i ≡ j
same_atom_place P B c i j t a b e =
    let atoms = length (atoms_of P c.counts) in
    let first = half_below (slice_index c.literals i) atoms (t.of_the_shape i 0 a) in
    let second = half_below (slice_index c.literals j) atoms (t.of_the_shape j 0 b) in
    let same = same_place P c.counts (atom_number (slice_index c.literals i)) (atom_number (slice_index c.literals j)) no_atom first second e in
    by_case same (cases_lt i j) (cases_lt j i)
  where
    by_case : atom_number (slice_index c.literals i) ≡ atom_number (slice_index c.literals j) → (i < j) ⊎ (j ≤ i) → (j < i) ⊎ (i ≤ j) → i ≡ j
    by_case same (inl before) other = absurd (let k = t.each_atom_once i j before b in omega (arith, k, same))
    by_case same (inr p) (inl before) = absurd (let k = t.each_atom_once j i before a in omega (arith, k, same))
    by_case same (inr p) (inr q) = omega (arith, p, q)

-- the place of the image of a literal
module _ (P : Protocol) (B : Bounds) (c d : Clause) (t : IsTemplate P B c) (u : IsTemplate P B d) (sub : Subsumes P c d) where
  target_as : (i : ℕ) → (i < length c.literals) ⊎ (length c.literals ≤ i) → ℕ
  target_as i (inl below) = (sub.literals (literal_at P c i) (literal_there P c i below)).0
  target_as i (inr past) = 0

  pub target : ℕ → ℕ
  target i = target_as i (cases_lt i (length c.literals))

  target_is : (i : ℕ) (o : (i < length c.literals) ⊎ (length c.literals ≤ i)) → i < length c.literals → IsAt P d (image_of sub.injection (literal_at P c i)) (target_as i o)
  unfolding target_as
  target_is i (inl below) h = literal_place P d (image_of sub.injection (literal_at P c i)) (sub.literals (literal_at P c i) (literal_there P c i below))
  target_is i (inr past) h = absurd (let k : ⊥ = omega (arith, past, h) in k)

  pub targeted : (i : ℕ) → i < length c.literals → IsAt P d (image_of sub.injection (literal_at P c i)) (target i)
  unfolding target
  targeted i h = target_is i (cases_lt i (length c.literals)) h

  targets_apart : (i j : ℕ) → i < j → j < length c.literals → target i ≢ target j
  targets_apart i j before below e =
      let above : i < length c.literals = omega (arith, before, below) in
      let first = targeted i above in
      let second = targeted j below in
      let images : image_of sub.injection (literal_at P c i) ≡ image_of sub.injection (literal_at P c j) = sym first.is ∙ ap (literal_at P d) e ∙ second.is in
      let same = same_literal P c.counts d.counts sub.injection (literal_at P c i) (literal_at P c j) t.one_count_each sub.places (literal_inside P B c i t above) (literal_inside P B c j t below) images in
      let place = same_atom_place P B c i j t above below (ap (λ (l : Literal). l.atom) same) in
      omega (arith, place, before)

  pub targets : IsOneToOne (length c.literals) (length d.literals) target
  targets = record { inside = λ i below. (targeted i below).below; apart = targets_apart }

  pub literals_no_fewer : length c.literals ≤ length d.literals
  literals_no_fewer = no_fewer (length c.literals) (length d.literals) target targets

  count_no_less : (sort : ℕ) → (sort < length P.sorts) ⊎ (length P.sorts ≤ sort) → slice_index c.counts sort ≤ slice_index d.counts sort
  count_no_less sort (inl below) =
      let found = slice_get-some P.sorts sort below in
      no_fewer (slice_index c.counts sort) (slice_index d.counts sort) (slice_index (of_sort sub.injection sort)) (placed_one_to_one found.0.ordered (slice_index c.counts sort) (slice_index d.counts sort) (of_sort sub.injection sort) (sub.places.each sort found.0 found.1))
  count_no_less sort (inr past) =
      let long = t.one_count_each in
      let none = get_or_past c.counts sort 0 (omega (arith, long, past)) in
      omega (arith, none)

  pub counts_no_less : (sort : ℕ) → slice_index c.counts sort ≤ slice_index d.counts sort
  counts_no_less sort = count_no_less sort (cases_lt sort (length P.sorts))

  same_length : length c.counts ≡ length d.counts
  same_length = t.one_count_each ∙ sym u.one_count_each

  pub variables_no_fewer : sum c.counts ≤ sum d.counts
  variables_no_fewer = sum_no_more c.counts d.counts same_length counts_no_less

  pub rank_no_greater : rank_of c ≤ rank_of d
  rank_no_greater = let a = variables_no_fewer in let b = literals_no_fewer in omega (arith, a, b)

  -- where the rank is the same
  module _ (full : rank_of d ≤ rank_of c) where
    pub same_counts : c.counts ≡ d.counts
    same_counts = same_sum c.counts d.counts same_length counts_no_less (let b = literals_no_fewer in omega (arith, full, b))

    pub same_literals : length c.literals ≡ length d.literals
    same_literals = let a = variables_no_fewer in let b = literals_no_fewer in omega (arith, full, a, b)

    -- the way back
    moved : ℕ → ℕ → ℕ
    moved sort = slice_index (of_sort sub.injection sort)

    return : ℕ → ℕ → ℕ
    return sort = back (slice_index c.counts sort) (moved sort)

    type_one_to_one : (sort : ℕ) (T : Sort) → slice_get P.sorts sort ≡ Some T → IsOneToOne (slice_index c.counts sort) (slice_index d.counts sort) (moved sort)
    unfolding moved
    type_one_to_one sort T h = placed_one_to_one T.ordered (slice_index c.counts sort) (slice_index d.counts sort) (of_sort sub.injection sort) (sub.places.each sort T h)

    type_hit : (sort : ℕ) (T : Sort) → slice_get P.sorts sort ≡ Some T → (j : ℕ) → j < slice_index d.counts sort → IsHit (slice_index c.counts sort) (moved sort) j
    type_hit sort T h j below =
        let same : slice_index c.counts sort ≡ slice_index d.counts sort = ap (λ ns. slice_index ns sort) same_counts in
        hits_each (slice_index c.counts sort) (slice_index d.counts sort) (moved sort) (type_one_to_one sort T h) (omega (arith, same)) j below

    return_apart : (ordered : Bool) (sort : ℕ) (T : Sort) (j k : ℕ) → T.ordered ≡ ordered → slice_get P.sorts sort ≡ Some T → j < k → k < slice_index d.counts sort → Apart ordered (return sort j) (return sort k)
    unfolding moved return
    return_apart true sort T j k e h before below = before_by (cases_lt (return sort j) (return sort k)) (cases_lt (return sort k) (return sort j))
      where
        first : (return sort j < slice_index c.counts sort) × (moved sort (return sort j) ≡ j)
        first = back_hits (slice_index c.counts sort) (moved sort) j (type_hit sort T h j (omega (arith, before, below)))

        second : (return sort k < slice_index c.counts sort) × (moved sort (return sort k) ≡ k)
        second = back_hits (slice_index c.counts sort) (moved sort) k (type_hit sort T h k below)

        before_by : (return sort j < return sort k) ⊎ (return sort k ≤ return sort j) → (return sort k < return sort j) ⊎ (return sort j ≤ return sort k) → return sort j < return sort k
        before_by (inl p) other = p
        before_by (inr p) (inl q) =
            let rises : moved sort (return sort k) < moved sort (return sort j) = subst (λ b. Apart b (moved sort (return sort k)) (moved sort (return sort j))) e ((sub.places.each sort T h).apart (return sort k) (return sort j) q first.0) in
            let a = first.1 in
            let b = second.1 in
            absurd (omega (arith, rises, a, b, before))
        before_by (inr p) (inr q) =
            let same : return sort j ≡ return sort k = omega (arith, p, q) in
            let one : j ≡ k = sym first.1 ∙ ap (moved sort) same ∙ second.1 in
            absurd (omega (arith, one, before))
    return_apart false sort T j k e h before below = λ same.
        let first = back_hits (slice_index c.counts sort) (moved sort) j (type_hit sort T h j (omega (arith, before, below))) in
        let second = back_hits (slice_index c.counts sort) (moved sort) k (type_hit sort T h k below) in
        let one : j ≡ k = sym first.1 ∙ ap (moved sort) same ∙ second.1 in
        let none : ⊥ = omega (arith, one, before) in
        none

    return_places : (sort : ℕ) (T : Sort) → slice_get P.sorts sort ≡ Some T → Places T.ordered (slice_index d.counts sort) (slice_index c.counts sort) (return sort)
    unfolding return
    return_places sort T h = record {
      inside = λ j below. (back_hits (slice_index c.counts sort) (moved sort) j (type_hit sort T h j below)).0;
      apart = λ j k before below. return_apart T.ordered sort T j k refl h before below;
    }

    returns : AreTwoInOne c.counts sub.injection (table return d.counts (length P.sorts)) (λ v. v)
    unfolding moved return
    returns v inside =
        let long = t.one_count_each in
        let sort_below = count_within c.counts v.sort v.number inside (cases_lt v.sort (length c.counts)) in
        let found = slice_get-some P.sorts v.sort (omega (arith, long, sort_below)) in
        let one = type_one_to_one v.sort found.0 found.1 in
        let number : value_at (table return d.counts (length P.sorts)) (image_of_variable sub.injection v) ≡ v.number =
        table-at return d.counts (length P.sorts) v.sort (moved v.sort v.number) (omega (arith, long, sort_below)) (one.inside v.number inside)
        ∙ back_again (slice_index c.counts v.sort) (slice_index d.counts v.sort) (moved v.sort) v.number one inside in
        λ i. record { sort = v.sort; number = number i }

    literal_returns : (l : Literal) → Contains (literals_of P d) l → Contains (literals_of P c) (image_of (table return d.counts (length P.sorts)) l)
    literal_returns l h =
        let place = literal_place P d l h in
        let even = same_literals in
        let hit = hits_each (length c.literals) (length d.literals) target targets (omega (arith, even)) h.0 place.below in
        let there = targeted hit.0 hit.1 in
        let same : l ≡ image_of sub.injection (literal_at P c hit.0) = sym place.is ∙ ap (literal_at P d) (sym hit.2) ∙ there.is in
        let again : image_of (table return d.counts (length P.sorts)) l ≡ literal_at P c hit.0 =
        ap (image_of (table return d.counts (length P.sorts))) same ∙ literal_again c.counts sub.injection (table return d.counts (length P.sorts)) (literal_at P c hit.0) returns (literal_inside P B c hit.0 t hit.1) in
        subst (Contains (literals_of P c)) (sym again) (literal_there P c hit.0 hit.1)

    pub below_again : Subsumes P d c
    below_again = record {
      injection = table return d.counts (length P.sorts);
      places = table_placed P d.counts c.counts return return_places;
      literals = literal_returns;
    }

    pub is_renaming : IsRenaming P c d
    is_renaming = record { same_shape = same_counts; as_many_literals = same_literals; permuted = sub }
