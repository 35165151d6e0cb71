-- Between a clause and one with more variables lies the first clause's literals in the shape of the second without a
-- variable that is no image.
use Rattle.std.proofs.Common.{◌≡◌, ◌≢◌, ◌<◌, ◌≤◌, ◌+◌, ◌-◌, ◌*◌, ℕ, Bool, true, false, List, Some, get_or, set, length, sym, ◌∙◌, ap, subst, refl, arith, inl, inr, ◌⊎◌}
use Rattle.std.specs.Prelude.{slice_get, slice_index}
use Rattle.std.specs.List.{Contains}
use Rattle.std.proofs.lemmas.Bool.{cases_lt, cases_eq}
use Rattle.std.proofs.lemmas.List.{get_or-set_same, get_or-set_other, length-set}
use Rattle.std.proofs.lemmas.List.Elements.{All-from_get_or}
use Rattle.std.proofs.lemmas.List.Sums.{sum_by-set}
use Rattle.dai_model.specs.Protocol.{Protocol, Sort}
use Rattle.dai_model.specs.Placement.{Apart, of_sort, ArePlacements}
use Rattle.dai_model.specs.Clause.{Clause, Literal, literal_among, literals_of, atoms_of, no_atom, value_at}
use Rattle.dai_model.specs.Template.{Bounds, IsTemplate}
use Rattle.dai_model.specs.Subsumption.{image_of, image_of_atom, image_of_variable, Subsumes}
use Rattle.dai_model.specs.Weakening.{rank_of}
use Rattle.dai_model.proofs.Below.{IsAtomOf, Each-at, literal_inside, count_within, slice_get-some}
use Rattle.dai_model.proofs.Order.{Rising-at}
use Rattle.dai_model.proofs.Counting.{IsHit, left_out}
use Rattle.dai_model.proofs.ShapeAtoms.{IsNamed}
use Rattle.dai_model.proofs.MovedAtoms.{Places, table, table-at, table_placed, AreTwoInOne, literal_in_one, atom_moved, named_moved, same_atom}
use Rattle.dai_model.proofs.Ranks.{literal_at, literal_there, literal_place, same_atom_place}
use Rattle.dai_model.proofs.Insertion.{IsAtomBefore, IsApart, in_order, in_order_each, in_order_rising, in_order_length, in_order_among, from_order, each_from, rising_from, among_place, place_among}
use Rattle.dai_model.proofs.NumberedLiterals.{literal_named, AreNumbersOf, numbers_of}
use Rattle.dai_model.proofs.FewerLiterals.{IsNextBelow, widened, widened_cases, widened_rises}

-- the number of a variable when the one of this number is gone
abbrev lowered_by : {x v : ℕ} → (x < v) ⊎ (v ≤ x) → ℕ
lowered_by {x} (inl before) = x
lowered_by {x} (inr after) = x - 1

pub lowered : ℕ → ℕ → ℕ
lowered v x = lowered_by (cases_lt x v)

lowered_cases : (v x : ℕ) → ((x < v) × (lowered v x ≡ x)) ⊎ ((v ≤ x) × (lowered v x ≡ x - 1))
unfolding lowered
lowered_cases v x = by_case (cases_lt x v)
  where
    by_case : (o : (x < v) ⊎ (v ≤ x)) → ((x < v) × (lowered_by o ≡ x)) ⊎ ((v ≤ x) × (lowered_by o ≡ x - 1))
    by_case (inl before) = inl (before, refl)
    by_case (inr after) = inr (after, refl)

lowered_inside : (v x m : ℕ) → x ≢ v → x < m → v < m → lowered v x < m - 1
lowered_inside v x m other h below = by_case (lowered_cases v x)
  where
    by_case : ((x < v) × (lowered v x ≡ x)) ⊎ ((v ≤ x) × (lowered v x ≡ x - 1)) → lowered v x < m - 1
    by_case (inl (before, e)) = omega (arith, e, before, below)
    by_case (inr (after, e)) = omega (arith, e, after, other, h)

lowered_rises : (v x y : ℕ) → x ≢ v → y ≢ v → x < y → lowered v x < lowered v y
lowered_rises v x y p q before = by_case (lowered_cases v x) (lowered_cases v y)
  where
    by_case : ((x < v) × (lowered v x ≡ x)) ⊎ ((v ≤ x) × (lowered v x ≡ x - 1)) → ((y < v) × (lowered v y ≡ y)) ⊎ ((v ≤ y) × (lowered v y ≡ y - 1)) → lowered v x < lowered v y
    by_case (inl (a, e)) (inl (b, f)) = omega (arith, e, f, before)
    by_case (inl (a, e)) (inr (b, f)) = omega (arith, e, f, a, b, q)
    by_case (inr (a, e)) (inl (b, f)) = absurd (let none : ⊥ = omega (arith, a, b, before) in none)
    by_case (inr (a, e)) (inr (b, f)) = omega (arith, e, f, a, p, before)

pub widened_lowered : (v x : ℕ) → x ≢ v → widened v (lowered v x) ≡ x
widened_lowered v x other = by_case (lowered_cases v x) (widened_cases v (lowered v x))
  where
    by_case : ((x < v) × (lowered v x ≡ x)) ⊎ ((v ≤ x) × (lowered v x ≡ x - 1)) → ((lowered v x < v) × (widened v (lowered v x) ≡ lowered v x)) ⊎ ((v ≤ lowered v x) × (widened v (lowered v x) ≡ lowered v x + 1)) → widened v (lowered v x) ≡ x
    by_case (inl (a, e)) (inl (b, f)) = omega (arith, e, f)
    by_case (inl (a, e)) (inr (b, f)) = absurd (let none : ⊥ = omega (arith, a, e, b) in none)
    by_case (inr (a, e)) (inl (b, f)) = absurd (let none : ⊥ = omega (arith, a, e, b, other) in none)
    by_case (inr (a, e)) (inr (b, f)) = omega (arith, a, e, f, other)

lowered_apart : (ordered : Bool) (v x y : ℕ) → x ≢ v → y ≢ v → Apart ordered x y → Apart ordered (lowered v x) (lowered v y)
lowered_apart true v x y p q h = lowered_rises v x y p q h
lowered_apart false v x y p q h = λ e. h (sym (widened_lowered v x p) ∙ ap (widened v) e ∙ widened_lowered v y q)

pub lowered_places : (ordered : Bool) (n m v : ℕ) (g : ℕ → ℕ) → Places ordered n m g → v < m → (IsHit n g v → ⊥) → Places ordered n (m - 1) (λ i. lowered v (g i))
lowered_places ordered n m v g h below none = record {
  inside = λ i k. lowered_inside v (g i) m (λ e. none (i, k, e)) (h.inside i k) below;
  apart = λ i j before k. lowered_apart ordered v (g i) (g j) (λ e. none (i, omega (arith, before, k), e)) (λ e. none (j, k, e)) (h.apart i j before k);
}

pub apart_before : (ordered : Bool) (x y : ℕ) → x < y → Apart ordered x y
apart_before true x y h = h
apart_before false x y h = λ e. let none : ⊥ = omega (arith, h, e) in none

widened_below : (v k m : ℕ) → v < m → k < m - 1 → widened v k < m
widened_below v k m h below = by_case (widened_cases v k)
  where
    by_case : ((k < v) × (widened v k ≡ k)) ⊎ ((v ≤ k) × (widened v k ≡ k + 1)) → widened v k < m
    by_case (inl (a, e)) = omega (arith, e, below)
    by_case (inr (a, e)) = omega (arith, e, below)

pub widened_places : (ordered : Bool) (m v : ℕ) → v < m → Places ordered (m - 1) m (widened v)
widened_places ordered m v h = record {
  inside = λ k below. widened_below v k m h below;
  apart = λ i k before below. apart_before ordered (widened v i) (widened v k) (widened_rises v i k before);
}

pub same_places : (ordered : Bool) (m : ℕ) → Places ordered m m (λ k. k)
same_places ordered m = record { inside = λ k below. below; apart = λ i k before below. apart_before ordered i k before }

module _ (P : Protocol) (B : Bounds) (c d : Clause) (t : IsTemplate P B c) (u : IsTemplate P B d) (sub : Subsumes P c d) (even : length c.literals ≡ length d.literals) (s v : ℕ) (inside : v < slice_index d.counts s) (none : IsHit (slice_index c.counts s) (slice_index (of_sort sub.injection s)) v → ⊥) where
  abbrev moved : ℕ → ℕ → ℕ
  moved sort = slice_index (of_sort sub.injection sort)

  abbrev fewer : List ℕ
  fewer = set d.counts s (slice_index d.counts s - 1)

  s_below : s < length d.counts
  s_below = count_within d.counts s v inside (cases_lt s (length d.counts))

  fewer_here : (sort : ℕ) → sort ≡ s → slice_index fewer sort ≡ slice_index d.counts sort - 1
  fewer_here sort e =
      ap (slice_index fewer) e ∙ get_or-set_same d.counts s (slice_index d.counts s - 1) 0 s_below ∙ ap (λ k. slice_index d.counts k - 1) (sym e)

  fewer_there : (sort : ℕ) → sort ≢ s → slice_index fewer sort ≡ slice_index d.counts sort
  fewer_there sort ne = get_or-set_other d.counts s sort (slice_index d.counts s - 1) 0 ne

  fewer_long : length fewer ≡ length P.sorts
  fewer_long = length-set d.counts s (slice_index d.counts s - 1) ∙ u.one_count_each

  -- from the first clause to the one between, and from there to the second
  abbrev first_as : (sort : ℕ) → (sort ≡ s) ⊎ (sort ≢ s) → ℕ → ℕ
  first_as sort (inl e) i = lowered v (moved sort i)
  first_as sort (inr ne) i = moved sort i

  abbrev second_as : (sort : ℕ) → (sort ≡ s) ⊎ (sort ≢ s) → ℕ → ℕ
  second_as sort (inl e) k = widened v k
  second_as sort (inr ne) k = k

  abbrev first : ℕ → ℕ → ℕ
  first sort = first_as sort (cases_eq sort s)

  abbrev second : ℕ → ℕ → ℕ
  second sort = second_as sort (cases_eq sort s)

  moved_places : (sort : ℕ) (T : Sort) → slice_get P.sorts sort ≡ Some T → Places T.ordered (slice_index c.counts sort) (slice_index d.counts sort) (moved sort)
  moved_places sort T h = let p = sub.places.each sort T h in record { inside = p.inside; apart = p.apart }

  none_at : (sort : ℕ) → sort ≡ s → IsHit (slice_index c.counts sort) (moved sort) v → ⊥
  none_at sort e = subst (λ k. IsHit (slice_index c.counts k) (moved k) v → ⊥) (sym e) none

  inside_at : (sort : ℕ) → sort ≡ s → v < slice_index d.counts sort
  inside_at sort e = subst (λ k. v < slice_index d.counts k) (sym e) inside

  first_places_as : (sort : ℕ) (T : Sort) (o : (sort ≡ s) ⊎ (sort ≢ s)) → slice_get P.sorts sort ≡ Some T → Places T.ordered (slice_index c.counts sort) (slice_index fewer sort) (first_as sort o)
  first_places_as sort T (inl e) h =
      subst (λ m. Places T.ordered (slice_index c.counts sort) m (λ i. lowered v (moved sort i))) (sym (fewer_here sort e))
      (lowered_places T.ordered (slice_index c.counts sort) (slice_index d.counts sort) v (moved sort) (moved_places sort T h) (inside_at sort e) (none_at sort e))
  first_places_as sort T (inr ne) h = subst (λ m. Places T.ordered (slice_index c.counts sort) m (moved sort)) (sym (fewer_there sort ne)) (moved_places sort T h)

  second_places_as : (sort : ℕ) (T : Sort) (o : (sort ≡ s) ⊎ (sort ≢ s)) → slice_get P.sorts sort ≡ Some T → Places T.ordered (slice_index fewer sort) (slice_index d.counts sort) (second_as sort o)
  second_places_as sort T (inl e) h =
      subst (λ m. Places T.ordered m (slice_index d.counts sort) (widened v)) (sym (fewer_here sort e)) (widened_places T.ordered (slice_index d.counts sort) v (inside_at sort e))
  second_places_as sort T (inr ne) h = subst (λ m. Places T.ordered m (slice_index d.counts sort) (λ k. k)) (sym (fewer_there sort ne)) (same_places T.ordered (slice_index d.counts sort))

  abbrev to_between : List (List ℕ)
  to_between = table first c.counts (length P.sorts)

  abbrev from_between : List (List ℕ)
  from_between = table second fewer (length P.sorts)

  first_placed : ArePlacements P c.counts fewer to_between
  first_placed = table_placed P c.counts fewer first (λ sort T h. first_places_as sort T (cases_eq sort s) h)

  second_placed : ArePlacements P fewer d.counts from_between
  second_placed = table_placed P fewer d.counts second (λ sort T h. second_places_as sort T (cases_eq sort s) h)

  both_as : (sort number : ℕ) (o : (sort ≡ s) ⊎ (sort ≢ s)) → number < slice_index c.counts sort → second_as sort o (first_as sort o number) ≡ moved sort number
  both_as sort number (inl e) h = widened_lowered v (moved sort number) (λ same. none_at sort e (number, h, same))
  both_as sort number (inr ne) h = refl

  both : AreTwoInOne c.counts to_between from_between (image_of_variable sub.injection)
  both w h =
      let long = t.one_count_each in
      let below = count_within c.counts w.sort w.number h (cases_lt w.sort (length c.counts)) in
      let types : w.sort < length P.sorts = omega (arith, long, below) in
      let found = slice_get-some P.sorts w.sort types in
      let places = first_places_as w.sort found.0 (cases_eq w.sort s) found.1 in
      let own : value_at to_between w ≡ first w.sort w.number = table-at first c.counts (length P.sorts) w.sort w.number types h in
      let number : value_at from_between (image_of_variable to_between w) ≡ value_at sub.injection w =
      ap (λ n. slice_index (of_sort from_between w.sort) n) own
      ∙ table-at second fewer (length P.sorts) w.sort (first w.sort w.number) types (places.inside w.number h)
      ∙ both_as w.sort w.number (cases_eq w.sort s) h in
      λ i. record { sort = w.sort; number = number i }

  -- the literals
  abbrev image_at : ℕ → Literal
  image_at i = image_of to_between (literal_at P c i)

  fits : (i : ℕ) → i < length c.literals → IsNamed P (image_at i).atom × IsAtomOf fewer (image_at i).atom
  fits i below = (
    named_moved P to_between (literal_at P c i).atom (literal_named P B c i t below),
    atom_moved P c.counts fewer to_between (literal_at P c i).atom t.one_count_each first_placed (literal_inside P B c i t below),
  )

  module _ (numbers : List ℕ) (are : AreNumbersOf P fewer (length c.literals) image_at numbers) where
    abbrev smaller : Clause
    smaller = record { counts = fewer; literals = in_order numbers }

    numbers_apart : (i j : ℕ) → i < j → j < length numbers → IsApart (slice_index numbers i) (slice_index numbers j)
    numbers_apart i j before below e =
        let long = are.long in
        let high : j < length c.literals = omega (arith, long, below) in
        let low : i < length c.literals = omega (arith, before, high) in
        let one = are.each i low in
        let other = are.each j high in
        let read : (literal_among (atoms_of P fewer) (slice_index numbers i)).atom ≡ (literal_among (atoms_of P fewer) (slice_index numbers j)).atom = ap (λ k. get_or (atoms_of P fewer) k no_atom) e in
        let images : image_of_atom to_between (literal_at P c i).atom ≡ image_of_atom to_between (literal_at P c j).atom = ap (λ (l : Literal). l.atom) (sym one.is) ∙ read ∙ ap (λ (l : Literal). l.atom) other.is in
        let atoms = same_atom P c.counts fewer to_between (literal_at P c i).atom (literal_at P c j).atom t.one_count_each first_placed (literal_inside P B c i t low) (literal_inside P B c j t high) images in
        let place = same_atom_place P B c i j t low high atoms in
        omega (arith, place, before)

    all_below : (k : ℕ) → k < length (in_order numbers) → slice_index (in_order numbers) k < 2 * length (atoms_of P fewer)
    all_below k below =
        Each-at (λ n. n < 2 * length (atoms_of P fewer)) (in_order numbers) k 0 below
        (in_order_each (λ n. n < 2 * length (atoms_of P fewer)) numbers (each_from (λ n. n < 2 * length (atoms_of P fewer)) numbers (λ i h. let long = are.long in (are.each i (omega (arith, long, h))).below)))

    smaller_length : length (in_order numbers) ≡ length c.literals
    smaller_length = in_order_length numbers ∙ are.long

    few_at : (sort : ℕ) → (sort ≡ s) ⊎ (sort ≢ s) → slice_index fewer sort ≤ slice_index d.counts sort
    few_at sort (inl e) = let k = fewer_here sort e in omega (arith, k)
    few_at sort (inr ne) = let k = fewer_there sort ne in omega (arith, k)

    smaller_template : IsTemplate P B smaller
    smaller_template = record {
      one_count_each = fewer_long;
      few_variables = λ sort. let a = few_at sort (cases_eq sort s) in let b = u.few_variables sort in omega (arith, a, b);
      few_literals = let few = t.few_literals in let long = smaller_length in omega (arith, few, long);
      of_the_shape = All-from_get_or (λ l. l < 2 * length (atoms_of P fewer)) (in_order numbers) 0 all_below;
      each_atom_once = λ i j before below. Rising-at IsAtomBefore (in_order numbers) i j 0 before below (in_order_rising numbers (rising_from IsApart numbers numbers_apart));
    }

    smaller_above : Subsumes P c smaller
    smaller_above = record {
      injection = to_between;
      places = first_placed;
      literals = λ l h.
          let own = literal_place P c l h in
          let long = are.long in
          let below : h.0 < length numbers = let k = own.below in omega (arith, long, k) in
          let place = among_place (slice_index numbers h.0) (in_order numbers) (in_order_among (slice_index numbers h.0) numbers (place_among numbers h.0 below)) in
          let image : literal_at P smaller place.0 ≡ image_of to_between l = ap (literal_among (atoms_of P fewer)) place.2 ∙ (are.each h.0 own.below).is ∙ ap (image_of to_between) own.is in
          subst (Contains (literals_of P smaller)) image (literal_there P smaller place.0 place.1);
    }

    smaller_below : Subsumes P smaller d
    smaller_below = record {
      injection = from_between;
      places = second_placed;
      literals = λ l h.
          let own = literal_place P smaller l h in
          let number = slice_index (in_order numbers) h.0 in
          let place = among_place number numbers (from_order number numbers (place_among (in_order numbers) h.0 own.below)) in
          let long = are.long in
          let below : place.0 < length c.literals = let k = place.1 in omega (arith, long, k) in
          let same : l ≡ image_at place.0 = sym own.is ∙ ap (literal_among (atoms_of P fewer)) (sym place.2) ∙ (are.each place.0 below).is in
          let image : image_of from_between l ≡ image_of sub.injection (literal_at P c place.0) = ap (image_of from_between) same ∙ literal_in_one c.counts to_between from_between sub.injection (literal_at P c place.0) both (literal_inside P B c place.0 t below) in
          subst (Contains (literals_of P d)) (sym image) (sub.literals (literal_at P c place.0) (literal_there P c place.0 below));
    }

    smaller_rank : rank_of smaller + 1 ≡ rank_of d
    smaller_rank =
        let variables = sum_by-set (λ (n : ℕ). n) d.counts s (slice_index d.counts s - 1) 0 s_below in
        let literals = smaller_length in
        omega (arith, variables, literals, even, inside)

    is_smaller : IsNextBelow P B c d smaller
    is_smaller = record { template = smaller_template; above = smaller_above; below = smaller_below; one_less = smaller_rank }

  without_variable : (between : Clause) × IsNextBelow P B c d between
  without_variable =
      let w = numbers_of P fewer (length c.literals) image_at fits in
      (smaller w.0 w.1, is_smaller w.0 w.1)

pub fewer_variables : (P : Protocol) (B : Bounds) (c d : Clause) → IsTemplate P B c → IsTemplate P B d → Subsumes P c d → length c.literals ≡ length d.literals → (s : ℕ) → slice_index c.counts s < slice_index d.counts s → (between : Clause) × IsNextBelow P B c d between
fewer_variables P B c d t u sub even s room =
    let w = left_out (slice_index c.counts s) (slice_index d.counts s) (slice_index (of_sort sub.injection s)) room in
    without_variable P B c d t u sub even s w.0 w.1 w.2
