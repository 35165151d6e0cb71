-- Between a clause and one with more literals lies the latter without a literal that is no image.
use Rattle.std.proofs.Common.{◌≡◌, ◌≢◌, ◌<◌, ◌≤◌, ◌+◌, ◌-◌, ◌*◌, ℕ, List, length, sym, ◌∙◌, ap, subst, refl, arith, inl, inr, ◌⊎◌}
use Rattle.std.specs.Prelude.{slice_index, remove}
use Rattle.std.specs.List.{Contains}
use Rattle.std.proofs.lemmas.Bool.{cases_lt}
use Rattle.std.proofs.lemmas.List.Elements.{All-from_get_or}
use Rattle.std.proofs.lemmas.List.Edits.{length-remove, get_or-remove_below, get_or-remove_above}
use Rattle.dai_model.specs.Protocol.{Protocol}
use Rattle.dai_model.specs.Clause.{Clause, literal_among, literals_of, atoms_of, atom_number}
use Rattle.dai_model.specs.Template.{Bounds, IsTemplate}
use Rattle.dai_model.specs.Subsumption.{image_of, Subsumes}
use Rattle.dai_model.specs.Weakening.{rank_of}
use Rattle.dai_model.proofs.Below.{below-refl}
use Rattle.dai_model.proofs.Counting.{IsHit, left_out}
use Rattle.dai_model.proofs.Ranks.{literal_at, literal_there, literal_place, target, targeted}

-- a clause that lies between two, with one variable or literal less than the second
pub record IsNextBelow (P : Protocol) (B : Bounds) (c d between : Clause) : Type 0 where
  pub template : IsTemplate P B between
  pub above : Subsumes P c between
  pub below : Subsumes P between d
  pub one_less : rank_of between + 1 ≡ rank_of d

-- where what stands at a place of the shorter list stood before
abbrev widened_by : {k j : ℕ} → (k < j) ⊎ (j ≤ k) → ℕ
widened_by {k} (inl before) = k
widened_by {k} (inr after) = k + 1

pub widened : ℕ → ℕ → ℕ
widened j k = widened_by (cases_lt k j)

pub widened_cases : (j k : ℕ) → ((k < j) × (widened j k ≡ k)) ⊎ ((j ≤ k) × (widened j k ≡ k + 1))
unfolding widened
widened_cases j k = by_case (cases_lt k j)
  where
    by_case : (o : (k < j) ⊎ (j ≤ k)) → ((k < j) × (widened_by o ≡ k)) ⊎ ((j ≤ k) × (widened_by o ≡ k + 1))
    by_case (inl before) = inl (before, refl)
    by_case (inr after) = inr (after, refl)

removed_at : (xs : List ℕ) (j k : ℕ) → j < length xs → slice_index (remove xs j) k ≡ slice_index xs (widened j k)
removed_at xs j k inside = by_case (widened_cases j k)
  where
    by_case : ((k < j) × (widened j k ≡ k)) ⊎ ((j ≤ k) × (widened j k ≡ k + 1)) → slice_index (remove xs j) k ≡ slice_index xs (widened j k)
    by_case (inl (before, e)) = get_or-remove_below xs j 0 k before inside ∙ ap (slice_index xs) (sym e)
    by_case (inr (after, e)) = get_or-remove_above xs j 0 k after inside ∙ ap (slice_index xs) (sym e)

pub widened_inside : (n j k : ℕ) → j < n + 1 → k < n → widened j k < n + 1
widened_inside n j k h below = by_case (widened_cases j k)
  where
    by_case : ((k < j) × (widened j k ≡ k)) ⊎ ((j ≤ k) × (widened j k ≡ k + 1)) → widened j k < n + 1
    by_case (inl (before, e)) = omega (arith, e, below)
    by_case (inr (after, e)) = omega (arith, e, below)

pub widened_rises : (j i k : ℕ) → i < k → widened j i < widened j k
widened_rises j i k before = by_case (widened_cases j i) (widened_cases j k)
  where
    by_case : ((i < j) × (widened j i ≡ i)) ⊎ ((j ≤ i) × (widened j i ≡ i + 1)) → ((k < j) × (widened j k ≡ k)) ⊎ ((j ≤ k) × (widened j k ≡ k + 1)) → widened j i < widened j k
    by_case (inl (a, e)) (inl (b, f)) = omega (arith, e, f, before)
    by_case (inl (a, e)) (inr (b, f)) = omega (arith, e, f, before)
    by_case (inr (a, e)) (inl (b, f)) = absurd (omega (arith, a, b, before))
    by_case (inr (a, e)) (inr (b, f)) = omega (arith, e, f, before)

-- the place that another place has in the shorter list
narrowed : (n j i : ℕ) → i < n + 1 → i ≢ j → j < n + 1 → (k : ℕ) × (k < n) × (widened j k ≡ i)
narrowed n j i below other inside = by_case (cases_lt i j) (widened_cases j i) (widened_cases j (i - 1))
  where
    by_case : (i < j) ⊎ (j ≤ i) → ((i < j) × (widened j i ≡ i)) ⊎ ((j ≤ i) × (widened j i ≡ i + 1)) → ((i - 1 < j) × (widened j (i - 1) ≡ i - 1)) ⊎ ((j ≤ i - 1) × (widened j (i - 1) ≡ i - 1 + 1)) → (k : ℕ) × (k < n) × (widened j k ≡ i)
    by_case (inl before) (inl (a, e)) other_case = (i, omega (arith, before, inside), e)
    by_case (inl before) (inr (a, e)) other_case = absurd (omega (arith, before, a))
    by_case (inr after) own_case (inl (a, e)) = absurd (let none : ⊥ = omega (arith, after, a, other) in none)
    by_case (inr after) own_case (inr (a, e)) = (i - 1, omega (arith, after, other, below), omega (arith, e, after, other))

module _ (P : Protocol) (B : Bounds) (c d : Clause) (t : IsTemplate P B c) (u : IsTemplate P B d) (sub : Subsumes P c d) (j : ℕ) (inside : j < length d.literals) (none : IsHit (length c.literals) (target P B c d t u sub) j → ⊥) where
  unfoldable pub shorter : Clause
  shorter = record { counts = d.counts; literals = remove d.literals j }

  pub shorter_length : length (remove d.literals j) + 1 ≡ length d.literals
  shorter_length = length-remove d.literals j inside

  shorter_template : IsTemplate P B shorter
  unfolding shorter
  shorter_template =
      let long = shorter_length in
      record {
        one_count_each = u.one_count_each;
        few_variables = u.few_variables;
        few_literals = let few = u.few_literals in omega (arith, few, long);
        of_the_shape = All-from_get_or (λ l. l < 2 * length (atoms_of P d.counts)) (remove d.literals j) 0
            (λ k below.
            let there : widened j k < length d.literals = let w = widened_inside (length (remove d.literals j)) j k (omega (arith, inside, long)) below in omega (arith, w, long) in
            subst (λ n. n < 2 * length (atoms_of P d.counts)) (sym (removed_at d.literals j k inside)) (u.of_the_shape (widened j k) 0 there));
        each_atom_once = λ i k before below.
            let rises = widened_rises j i k before in
            let there : widened j k < length d.literals = let w = widened_inside (length (remove d.literals j)) j k (omega (arith, inside, long)) below in omega (arith, w, long) in
            let once = u.each_atom_once (widened j i) (widened j k) rises there in
            subst (λ n. atom_number n < atom_number (slice_index (remove d.literals j) k)) (sym (removed_at d.literals j i inside)) (subst (λ n. atom_number (slice_index d.literals (widened j i)) < atom_number n) (sym (removed_at d.literals j k inside)) once);
      }

  pub same_literals : (k : ℕ) → literal_at P shorter k ≡ literal_at P d (widened j k)
  unfolding shorter
  same_literals k = ap (literal_among (atoms_of P d.counts)) (removed_at d.literals j k inside)

  shorter_above : Subsumes P c shorter
  unfolding shorter
  shorter_above =
      record {
        injection = sub.injection;
        places = sub.places;
        literals = λ l h.
            let long = shorter_length in
            let own = literal_place P c l h in
            let there = targeted P B c d t u sub h.0 own.below in
            let below = there.below in
            let place = narrowed (length (remove d.literals j)) j (target P B c d t u sub h.0) (omega (arith, below, long)) (λ e. none (h.0, own.below, e)) (omega (arith, inside, long)) in
            let image : literal_at P shorter place.0 ≡ image_of sub.injection l = same_literals place.0 ∙ ap (literal_at P d) place.2 ∙ there.is ∙ ap (image_of sub.injection) own.is in
            subst (Contains (literals_of P shorter)) image (literal_there P shorter place.0 place.1);
      }

  shorter_below : Subsumes P shorter d
  unfolding shorter
  shorter_below =
      let itself = below-refl P B d u in
      record {
        injection = itself.injection;
        places = itself.places;
        literals = λ l h.
            let long = shorter_length in
            let own = literal_place P shorter l h in
            let below : h.0 < length (remove d.literals j) = own.below in
            let there : widened j h.0 < length d.literals = let w = widened_inside (length (remove d.literals j)) j h.0 (omega (arith, inside, long)) below in omega (arith, w, long) in
            itself.literals l (subst (Contains (literals_of P d)) (sym (same_literals h.0) ∙ own.is) (literal_there P d (widened j h.0) there));
      }

  pub is_shorter : IsNextBelow P B c d shorter
  unfolding shorter
  is_shorter = record {
    template = shorter_template;
    above = shorter_above;
    below = shorter_below;
    one_less = let long = shorter_length in omega (arith, long);
  }

pub fewer_literals : (P : Protocol) (B : Bounds) (c d : Clause) → IsTemplate P B c → IsTemplate P B d → Subsumes P c d → length c.literals < length d.literals → (between : Clause) × IsNextBelow P B c d between
fewer_literals P B c d t u sub room =
    let w = left_out (length c.literals) (length d.literals) (target P B c d t u sub) room in
    (shorter P B c d t u sub w.0 w.1 w.2, is_shorter P B c d t u sub w.0 w.1 w.2)
