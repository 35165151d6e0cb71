-- The clauses with one variable more are immediate weakenings, and the immediate weakenings with more variables of a
-- type are their renamings: the new variable comes in at the number that an injection leaves out.
use Rattle.std.proofs.Common.{◌≡◌, ◌≢◌, ◌<◌, ◌≤◌, ◌+◌, ◌-◌, ◌*◌, ◌/◌, ◌%◌, ℕ, zero, suc, true, false, List, [], ◌∷◌, length, get_or, Some, sym, ap, ◌∙◌, refl, subst, arith, inl, inr, ◌⊎◌}
use Rattle.std.specs.Prelude.{slice_get, slice_index, sum, nat_eq}
use Rattle.std.specs.List.{All, Contains}
use Rattle.std.proofs.lemmas.Bool.{cases_lt, cases_eq}
use Rattle.std.proofs.lemmas.List.{get_or-set_same, get_or-set_other, length-set, get_or_default}
use Rattle.std.proofs.lemmas.List.Sums.{sum_by-set}
use Rattle.dai_model.specs.Protocol.{Protocol, Sort}
use Rattle.dai_model.specs.Placement.{Apart, of_sort, ArePlacements}
use Rattle.dai_model.specs.Clause.{Clause, Variable, Atom, Literal, atoms_of, literals_of, literal_among, no_atom, value_at}
use Rattle.dai_model.specs.Template.{Bounds, IsTemplate}
use Rattle.dai_model.specs.Subsumption.{image_of, image_of_atom, image_of_variable, Subsumes, IsRenaming}
use Rattle.dai_model.specs.Weakening.{rank_of}
use Rattle.dai_model.proofs.Below.{Each, IsVariableOf, literal_inside, count_within, slice_get-some, below-trans}
use Rattle.dai_model.proofs.Counting.{IsHit, left_out, same_sum}
use Rattle.dai_model.proofs.ShapeAtoms.{atom_listed}
use Rattle.dai_model.proofs.MovedAtoms.{Places, table, table-at, table_placed, AreTwoInOne, literal_in_one, atom_moved, named_moved, same_atom}
use Rattle.dai_model.proofs.Ranks.{literal_at, literal_there, literal_place, same_atom_place, counts_no_less, literals_no_fewer, is_renaming}
use Rattle.dai_model.proofs.NumberedLiterals.{literal_named}
use Rattle.dai_model.proofs.OneCanonical.{same_rank}
use Rattle.dai_model.proofs.FewerLiterals.{widened, widened_cases}
use Rattle.dai_model.proofs.FewerVariables.{widened_places, same_places}
use Rattle.dai_template.specs.Meeting.{element_in}
use Rattle.dai_template.specs.Renamings.{put_all_in_order}
use Rattle.dai_template.proofs.Within.{Among, among_at, contained}
use Rattle.dai_template.proofs.Ways.{All-from_Each}
use Rattle.dai_template.proofs.InOrder.{IsAtomBefore, AreApart, put_all_each, put_all_length, put_all_among, put_all_rising, each_from, rising_from, rising_at}
use Rattle.dai_order.specs.Variables.{with_one_more, IsPlacedAmong, AreMovedTo}
use Rattle.dai_order.specs.Weakenings.{IsWeakerByVariable}
use Rattle.dai_order.proofs.Sides.{atom_agreed, atom_gone, AreNumbers}

-- the new number where one comes in at the place of a type
abbrev pub inserted_as : (s place sort i : ℕ) → (sort ≡ s) ⊎ (sort ≢ s) → ℕ
inserted_as s place sort i (inl e) = widened place i
inserted_as s place sort i (inr ne) = i

abbrev pub inserted : ℕ → ℕ → ℕ → ℕ → ℕ
inserted s place sort i = inserted_as s place sort i (cases_eq sort s)

abbrev pub inserting : Protocol → List ℕ → ℕ → ℕ → List (List ℕ)
inserting P counts s place = table (inserted s place) counts (length P.sorts)

-- the same in an array, four places for each type
pub record IsInsertion (s place : ℕ) (to : List ℕ) : Type 0 where
  pub long : length to ≡ 32
  pub later : (i : ℕ) → place ≤ i → i < 4 → slice_index to (4 * s + i) ≡ i + 1
  pub others : (t i : ℕ) → t < 8 → i < 4 → (t ≡ s → i < place) → slice_index to (4 * t + i) ≡ i

pub more_here : (counts : List ℕ) (s sort : ℕ) → s < length counts → sort ≡ s → slice_index (with_one_more counts s) sort ≡ slice_index counts sort + 1
more_here counts s sort known e = ap (slice_index (with_one_more counts s)) e ∙ (get_or-set_same counts s (slice_index counts s + 1) 0 known ∙ ap (λ k. slice_index counts k + 1) (sym e))

pub more_there : (counts : List ℕ) (s sort : ℕ) → sort ≢ s → slice_index (with_one_more counts s) sort ≡ slice_index counts sort
more_there counts s sort ne = get_or-set_other counts s sort (slice_index counts s + 1) 0 ne

pub more_sum : (counts : List ℕ) (s : ℕ) → s < length counts → sum (with_one_more counts s) ≡ sum counts + 1
more_sum counts s known = let e = sum_by-set (λ (n : ℕ). n) counts s (slice_index counts s + 1) 0 known in omega (arith, e)

-- the clause above the one with the variable
pub record IsAboveInserted (P : Protocol) (c : Clause) (s place : ℕ) (d : Clause) : Type 0 where
  pub injection : List (List ℕ)
  pub places : ArePlacements P (with_one_more c.counts s) d.counts injection
  pub literals : (l : Literal) → Contains (literals_of P c) l → Contains (literals_of P d) (image_of injection (image_of (inserting P c.counts s place) l))
  pub one_more : rank_of d ≡ rank_of c + 1

-- the literals over the larger shape are the images of those of the clause
pub record IsMovedClause (P : Protocol) (c e : Clause) (to : List (List ℕ)) : Type 0 where
  pub as_many : length e.literals ≡ length c.literals
  pub taken : (l : Literal) → Contains (literals_of P c) l → Contains (literals_of P e) (image_of to l)
  pub back : (m : Literal) → Contains (literals_of P e) m → (l : Literal) × Contains (literals_of P c) l × (image_of to l ≡ m)

module _ (P : Protocol) (B : Bounds) (c : Clause) (t : IsTemplate P B c) (s place : ℕ) (known : s < length c.counts) (inside : place ≤ slice_index c.counts s) where
  abbrev larger : List ℕ
  larger = with_one_more c.counts s

  abbrev new : List (List ℕ)
  new = inserting P c.counts s place

  places_as : (sort : ℕ) (T : Sort) (o : (sort ≡ s) ⊎ (sort ≢ s)) → Places T.ordered (slice_index c.counts sort) (slice_index larger sort) (λ i. inserted_as s place sort i o)
  places_as sort T (inl e) =
      let here = more_here c.counts s sort known e in
      let own : slice_index c.counts sort ≡ slice_index c.counts s = ap (slice_index c.counts) e in
      subst (λ n. Places T.ordered n (slice_index larger sort) (widened place)) (let less : slice_index larger sort - 1 ≡ slice_index c.counts sort = omega (arith, here) in less) (widened_places T.ordered (slice_index larger sort) place (omega (arith, here, own, inside)))
  places_as sort T (inr ne) = subst (λ m. Places T.ordered (slice_index c.counts sort) m (λ k. k)) (sym (more_there c.counts s sort ne)) (same_places T.ordered (slice_index c.counts sort))

  pub new_placed : ArePlacements P c.counts larger new
  new_placed = table_placed P c.counts larger (inserted s place) (λ sort T h. places_as sort T (cases_eq sort s))

  type_known : (v : Variable) → IsVariableOf c.counts v → v.sort < length P.sorts
  type_known v h = let below = count_within c.counts v.sort v.number h (cases_lt v.sort (length c.counts)) in let long = t.one_count_each in omega (arith, below, long)

  new_at : (v : Variable) → IsVariableOf c.counts v → value_at new v ≡ inserted s place v.sort v.number
  new_at v h = table-at (inserted s place) c.counts (length P.sorts) v.sort v.number (type_known v h) h

  module _ (to : List ℕ) (types : length c.counts ≤ 8) (few : (sort : ℕ) → slice_index c.counts sort ≤ 4) (is : IsInsertion s place to) where
    in_array : (v : Variable) → IsVariableOf c.counts v → (o : (v.sort ≡ s) ⊎ (v.sort ≢ s)) → inserted_as s place v.sort v.number o ≡ element_in to v
    in_array v h (inl e) = by_place (widened_cases place v.number)
      where
        small : v.number < 4
        small = let k = few v.sort in omega (arith, h, k)

        type : v.sort < 8
        type = let k = type_known v h in let long = t.one_count_each in omega (arith, k, long, types)

        by_place : ((v.number < place) × (widened place v.number ≡ v.number)) ⊎ ((place ≤ v.number) × (widened place v.number ≡ v.number + 1)) → widened place v.number ≡ element_in to v
        by_place (inl (before, f)) = f ∙ sym (is.others v.sort v.number type small (λ _. before))
        by_place (inr (after, f)) = f ∙ (sym (is.later v.number after small) ∙ ap (λ n. slice_index to (4 * n + v.number)) (sym e))
    in_array v h (inr ne) =
        let k = few v.sort in
        let m = type_known v h in
        let long = t.one_count_each in
        sym (is.others v.sort v.number (omega (arith, m, long, types)) (omega (arith, h, k)) (λ same. absurd (ne same)))

    pub in_numbers : AreNumbers c.counts new to
    in_numbers v h = new_at v h ∙ in_array v h (cases_eq v.sort s)

    abbrev atom_at : ℕ → Atom
    atom_at k = (literal_at P c k).atom

    -- each literal's atom has its image in the larger shape
    pub image_there : (k : ℕ) → k < length c.literals → IsPlacedAmong (length c.counts) to (atoms_of P larger) (atom_at k)
    image_there k below =
        let over = literal_inside P B c k t below in
        let listed = atom_listed P larger (image_of_atom new (atom_at k)) (named_moved P new (atom_at k) (literal_named P B c k t below)) (atom_moved P c.counts larger new (atom_at k) t.one_count_each new_placed over) in
        let there : image_of_atom new (atom_at k) ≡ get_or (atoms_of P larger) listed.0 no_atom = sym (get_or_default (atoms_of P larger) listed.0 no_atom (image_of_atom new (atom_at k)) listed.1 ∙ listed.2) in (
          listed.0,
          record {
            below = listed.1;
            is = atom_agreed c.counts (length c.counts) 0 new to (atom_at k) (get_or (atoms_of P larger) listed.0 no_atom) (λ sort i h _. in_numbers (record { sort = sort; number = i }) h) over there;
          },
        )

    module _ (others : List ℕ) (m : AreMovedTo (length c.counts) to (atoms_of P c.counts) (atoms_of P larger) c.literals others) where
      abbrev moved_clause : Clause
      moved_clause = record { counts = larger; literals = others }

      image_is : (k : ℕ) → k < length c.literals → literal_among (atoms_of P larger) (slice_index m.numbers k) ≡ image_of new (literal_at P c k)
      image_is k below =
          let here = m.each k below in
          let atom = atom_gone c.counts (length c.counts) 0 new to (atom_at k) (get_or (atoms_of P larger) (slice_index m.numbers k / 2) no_atom) refl in_numbers (literal_inside P B c k t below) here.image.is in
          let sign : nat_eq (slice_index m.numbers k % 2) 1 ≡ nat_eq (slice_index c.literals k % 2) 1 = ap (λ n. nat_eq n 1) here.sign in
          λ i. record { atom = sym atom i; negated = sign i }

      long : length others ≡ length c.literals
      long = let a = ap length m.ordered in let b = put_all_length m.numbers [] in let d = m.as_many in omega (arith, a, b, d)

      number_below : (k : ℕ) → k < length m.numbers → slice_index m.numbers k < 2 * length (atoms_of P larger)
      number_below k below =
          let many = m.as_many in
          let half = (m.each k (omega (arith, below, many))).image.below in
          let rest : slice_index m.numbers k % 2 < 2 = omega arith in
          omega (arith, half, rest)

      numbers_apart : (i j : ℕ) → i < j → j < length m.numbers → AreApart (slice_index m.numbers i) (slice_index m.numbers j)
      numbers_apart i j before below e =
          let many = m.as_many in
          let high : j < length c.literals = omega (arith, below, many) in
          let low : i < length c.literals = omega (arith, before, high) in
          let images : image_of_atom new (atom_at i) ≡ image_of_atom new (atom_at j) =
          sym (ap (λ (l : Literal). l.atom) (image_is i low)) ∙ (ap (λ n. get_or (atoms_of P larger) n no_atom) e ∙ ap (λ (l : Literal). l.atom) (image_is j high)) in
          let atoms = same_atom P c.counts larger new (atom_at i) (atom_at j) t.one_count_each new_placed (literal_inside P B c i t low) (literal_inside P B c j t high) images in
          let one = same_atom_place P B c i j t low high atoms in
          omega (arith, one, before)

      each_nothing : (ns : List ℕ) → Each (λ n. Each (AreApart n) []) ns
      each_nothing [] = tt
      each_nothing (n ∷ ns) = (tt, each_nothing ns)

      pub moved_template : ((sort : ℕ) → slice_index larger sort ≤ slice_index B.variables sort) → IsTemplate P B moved_clause
      moved_template within = record {
        one_count_each = length-set c.counts s (slice_index c.counts s + 1) ∙ t.one_count_each;
        few_variables = within;
        few_literals = let few_own = t.few_literals in let as_long = long in omega (arith, few_own, as_long);
        of_the_shape = subst (All (λ n. n < 2 * length (atoms_of P larger))) (sym m.ordered) (All-from_Each (λ n. n < 2 * length (atoms_of P larger)) (put_all_in_order m.numbers []) (put_all_each (λ n. n < 2 * length (atoms_of P larger)) m.numbers [] (each_from (λ n. n < 2 * length (atoms_of P larger)) m.numbers number_below) tt));
        each_atom_once = subst (λ (ns : List ℕ). (i j : ℕ) → i < j → j < length ns → slice_index ns i / 2 < slice_index ns j / 2) (sym m.ordered) (λ i j before below. rising_at IsAtomBefore (put_all_in_order m.numbers []) i j before below (put_all_rising m.numbers [] tt (rising_from AreApart m.numbers numbers_apart) (each_nothing m.numbers)));
      }

      number_of : (n : ℕ) → Among n others → (k : ℕ) × (k < length c.literals) × (slice_index m.numbers k ≡ n)
      number_of n h =
          let each : Each (λ x. (k : ℕ) × (k < length c.literals) × (slice_index m.numbers k ≡ x)) (put_all_in_order m.numbers []) =
          put_all_each (λ x. (k : ℕ) × (k < length c.literals) × (slice_index m.numbers k ≡ x)) m.numbers [] (each_from (λ x. (k : ℕ) × (k < length c.literals) × (slice_index m.numbers k ≡ x)) m.numbers (λ k below. (k, (let many = m.as_many in omega (arith, below, many)), refl))) tt in
          among_each (put_all_in_order m.numbers []) each (subst (Among n) m.ordered h)
        where
          among_each : (ns : List ℕ) → Each (λ x. (k : ℕ) × (k < length c.literals) × (slice_index m.numbers k ≡ x)) ns → Among n ns → (k : ℕ) × (k < length c.literals) × (slice_index m.numbers k ≡ n)
          among_each [] e a = absurd a
          among_each (x ∷ xs) e (inl same) = (e.0.0, e.0.1, e.0.2 ∙ same)
          among_each (x ∷ xs) e (inr a) = among_each xs e.1 a

      pub is_moved : IsMovedClause P c moved_clause new
      is_moved = record {
        as_many = long;
        taken = λ l h.
            let own = literal_place P c l h in
            let n = slice_index m.numbers h.0 in
            let many = m.as_many in
            let below : h.0 < length m.numbers = let k = own.below in omega (arith, k, many) in
            let among = subst (Among n) (sym m.ordered) (put_all_among n m.numbers [] (inl (among_at n m.numbers h.0 below (get_or_default m.numbers h.0 n 0 below)))) in
            let w = contained n others among in
            subst (Contains (literals_of P moved_clause)) (ap (literal_among (atoms_of P larger)) (sym (get_or_default others w.0 n 0 w.1) ∙ w.2) ∙ (image_is h.0 own.below ∙ ap (image_of new) own.is)) (literal_there P moved_clause w.0 w.1);
        back = λ x h.
            let own = literal_place P moved_clause x h in
            let n = slice_index others h.0 in
            let w = number_of n (among_at n others h.0 own.below (get_or_default others h.0 n 0 own.below)) in
            (literal_at P c w.0, literal_there P c w.0 w.1, sym (image_is w.0 w.1) ∙ (ap (literal_among (atoms_of P larger)) w.2 ∙ own.is));
      }

  -- what is above the moved clause, of its rank, is a renaming of it
  moved_rank : (e : Clause) → e.counts ≡ larger → IsMovedClause P c e new → rank_of e ≡ rank_of c + 1
  moved_rank e counts m = let a = ap (λ (ns : List ℕ). sum ns) counts in let b = more_sum c.counts s known in let d = m.as_many in omega (arith, a, b, d)

  pub above_from_renaming : (e d : Clause) → e.counts ≡ larger → IsMovedClause P c e new → IsRenaming P e d → IsAboveInserted P c s place d
  above_from_renaming e d counts m r = record {
    injection = r.permuted.injection;
    places = subst (λ ns. ArePlacements P ns d.counts r.permuted.injection) counts r.permuted.places;
    literals = λ l h. r.permuted.literals (image_of new l) (m.taken l h);
    one_more = sym (same_rank P e d r) ∙ moved_rank e counts m;
  }

  pub renaming_from_above : (e d : Clause) → IsTemplate P B e → IsTemplate P B d → e.counts ≡ larger → IsMovedClause P c e new → IsAboveInserted P c s place d → IsRenaming P e d
  renaming_from_above e d v u counts m a =
      let rank = moved_rank e counts m in
      let one = a.one_more in
      is_renaming P B e d v u
      (record {
        injection = a.injection;
        places = subst (λ ns. ArePlacements P ns d.counts a.injection) (sym counts) a.places;
        literals = λ x h. let w = m.back x h in subst (λ y. Contains (literals_of P d) (image_of a.injection y)) w.2 (a.literals w.0 w.1);
      })
      (omega (arith, rank, one))

  pub weaker_from_renaming : (e d : Clause) → IsTemplate P B e → IsTemplate P B d → e.counts ≡ larger → IsMovedClause P c e new → IsRenaming P e d → IsWeakerByVariable P B c s d
  weaker_from_renaming e d v u counts m r =
      let first : Subsumes P c e = record { injection = new; places = subst (λ ns. ArePlacements P c.counts ns new) (sym counts) new_placed; literals = m.taken } in
      record {
        weakening = record {
          template = u;
          below = below-trans P B c e d t first r.permuted;
          one_more = sym (same_rank P e d r) ∙ moved_rank e counts m;
        };
        more = let here = more_here c.counts s s known refl in let e1 = ap (λ (ns : List ℕ). slice_index ns s) (sym counts ∙ r.same_shape) in omega (arith, here, e1);
      }

-- rising numbers with room for one more: each number but the one left out stands for the next that is free
rise : (n : ℕ) (g : ℕ → ℕ) → ((i j : ℕ) → i < j → j < n → g i < g j) → (i j : ℕ) → i ≤ j → j < n → g i + j ≤ g j + i
rise n g up i zero order below = let same : i ≡ 0 = omega (arith, order) in let e : g i ≡ g 0 = ap g same in omega (arith, same, e)
rise n g up i (suc j) order below = by_place (cases_lt i (suc j)) (λ before. rise n g up i j (omega (arith, before)) (omega (arith, below)))
  where
    by_place : (i < suc j) ⊎ (suc j ≤ i) → (i < suc j → g i + j ≤ g j + i) → g i + suc j ≤ g (suc j) + i
    by_place (inl before) rest = let here = rest before in let step = up j (suc j) (omega arith) below in omega (arith, here, step)
    by_place (inr last) rest = let same : i ≡ suc j = omega (arith, order, last) in let e : g i ≡ g (suc j) = ap g same in omega (arith, same, e)

gap : (n p : ℕ) (g : ℕ → ℕ) → ((i : ℕ) → i < n → g i < n + 1) → ((i j : ℕ) → i < j → j < n → g i < g j) → p < n + 1 → (IsHit n g p → ⊥) → (i : ℕ) → i < n → widened p i ≡ g i
gap n p g under up room none i below = by_case (widened_cases p i)
  where
    low : (k : ℕ) → k < n → k ≤ g k
    low k h = let r = rise n g up 0 k (omega arith) h in omega (arith, r)

    high : (k : ℕ) → k < n → g k ≤ k + 1
    high k h = let r = rise n g up k (n - 1) (omega (arith, h)) (omega (arith, h)) in let top = under (n - 1) (omega (arith, h)) in omega (arith, r, top, h)

    early : i < p → (i < g i) ⊎ (g i ≤ i) → i ≡ g i
    early before (inr few) = let l = low i below in omega (arith, l, few)
    early before (inl more) =
        let last : p - 1 < n = omega (arith, room, before) in
        let r = rise n g up i (p - 1) (omega (arith, before)) last in
        let top = high (p - 1) last in
        absurd (none (p - 1, last, (let e : g (p - 1) ≡ p = omega (arith, r, top, more, before) in e)))

    late : p ≤ i → (g i < i + 1) ⊎ (i + 1 ≤ g i) → i + 1 ≡ g i
    late after (inr many) = let h = high i below in omega (arith, h, many)
    late after (inl few) =
        let inside : p < n = omega (arith, after, below) in
        let r = rise n g up p i after below in
        let l = low p inside in
        absurd (none (p, inside, (let e : g p ≡ p = omega (arith, r, l, few) in e)))

    by_case : ((i < p) × (widened p i ≡ i)) ⊎ ((p ≤ i) × (widened p i ≡ i + 1)) → widened p i ≡ g i
    by_case (inl (before, e)) = e ∙ early before (cases_lt i (g i))
    by_case (inr (after, e)) = e ∙ late after (cases_lt (g i) (i + 1))

-- an immediate weakening with a variable more is above the clause with the variable at the number that is left out
module _ (P : Protocol) (B : Bounds) (c d : Clause) (s : ℕ) (t : IsTemplate P B c) (known : s < length c.counts) (w : IsWeakerByVariable P B c s d) where
  u : IsTemplate P B d
  u = w.weakening.template

  abbrev sub : Subsumes P c d
  sub = w.weakening.below

  abbrev moved : ℕ → ℕ → ℕ
  moved sort = slice_index (of_sort sub.injection sort)

  count_within_larger : (sort : ℕ) → (sort ≡ s) ⊎ (sort ≢ s) → slice_index (with_one_more c.counts s) sort ≤ slice_index d.counts sort
  unfolding u
  count_within_larger sort (inl e) =
      let here = more_here c.counts s sort known e in
      let own = ap (slice_index c.counts) e in
      let other = ap (slice_index d.counts) e in
      let more = w.more in
      omega (arith, here, own, other, more)
  count_within_larger sort (inr ne) = let there = more_there c.counts s sort ne in let least = counts_no_less P B c d t u sub sort in omega (arith, there, least)

  pub counts_are : with_one_more c.counts s ≡ d.counts
  unfolding u
  counts_are =
      same_sum (with_one_more c.counts s) d.counts (length-set c.counts s (slice_index c.counts s + 1) ∙ (t.one_count_each ∙ sym w.weakening.template.one_count_each)) (λ sort. count_within_larger sort (cases_eq sort s))
      (let a = more_sum c.counts s known in let b = literals_no_fewer P B c d t u sub in let e = w.weakening.one_more in omega (arith, a, b, e))

  moved_places : (sort : ℕ) (T : Sort) → slice_get P.sorts sort ≡ Some T → Places T.ordered (slice_index c.counts sort) (slice_index d.counts sort) (moved sort)
  moved_places sort T h = let p = sub.places.each sort T h in record { inside = p.inside; apart = p.apart }

  module _ (place : ℕ) (fin : ℕ → ℕ → ℕ) (inside : place ≤ slice_index c.counts s) (placed : (sort : ℕ) (T : Sort) → slice_get P.sorts sort ≡ Some T → Places T.ordered (slice_index (with_one_more c.counts s) sort) (slice_index d.counts sort) (fin sort)) (both : (sort i : ℕ) → i < slice_index c.counts sort → fin sort (inserted s place sort i) ≡ moved sort i) where
    abbrev through : List (List ℕ)
    through = table fin (with_one_more c.counts s) (length P.sorts)

    abbrev new_numbers : List (List ℕ)
    new_numbers = inserting P c.counts s place

    two : AreTwoInOne c.counts new_numbers through (image_of_variable sub.injection)
    two v h =
        let type = type_known P B c t s place known inside v h in
        let found = slice_get-some P.sorts v.sort type in
        let there = (places_as P B c t s place known inside v.sort found.0 (cases_eq v.sort s)).inside v.number h in
        let number : value_at through (image_of_variable new_numbers v) ≡ value_at sub.injection v =
        ap (λ n. slice_index (of_sort through v.sort) n) (new_at P B c t s place known inside v h)
        ∙ (table-at fin (with_one_more c.counts s) (length P.sorts) v.sort (inserted s place v.sort v.number) type there ∙ both v.sort v.number h) in
        λ i. record { sort = v.sort; number = number i }

    above_by : IsAboveInserted P c s place d
    above_by = record {
      injection = through;
      places = table_placed P (with_one_more c.counts s) d.counts fin placed;
      literals = λ l h.
          let own = literal_place P c l h in
          let x = literal_at P c h.0 in
          let one = literal_in_one c.counts new_numbers through sub.injection x two (literal_inside P B c h.0 t own.below) in
          subst (λ y. Contains (literals_of P d) (image_of through (image_of new_numbers y))) own.is (subst (Contains (literals_of P d)) (sym one) (sub.literals x (subst (Contains (literals_of P c)) (sym own.is) h)));
      one_more = w.weakening.one_more;
    }

  -- the number that is left out
  out : (j : ℕ) × (j < slice_index d.counts s) × (IsHit (slice_index c.counts s) (moved s) j → ⊥)
  out = left_out (slice_index c.counts s) (slice_index d.counts s) (moved s) w.more

  one_larger : slice_index d.counts s ≡ slice_index c.counts s + 1
  one_larger = ap (λ (ns : List ℕ). slice_index ns s) (sym counts_are) ∙ more_here c.counts s s known refl

  same_elsewhere : (sort : ℕ) → sort ≢ s → slice_index (with_one_more c.counts s) sort ≡ slice_index c.counts sort
  same_elsewhere sort ne = more_there c.counts s sort ne

  larger_is : (sort : ℕ) → slice_index (with_one_more c.counts s) sort ≡ slice_index d.counts sort
  larger_is sort = ap (λ (ns : List ℕ). slice_index ns sort) counts_are

  abbrev ordered_as : (sort i : ℕ) → (sort ≡ s) ⊎ (sort ≢ s) → ℕ
  ordered_as sort i (inl e) = i
  ordered_as sort i (inr ne) = moved sort i

  pub above_ordered : (T : Sort) → slice_get P.sorts s ≡ Some T → T.ordered ≡ true → (place : ℕ) × (place ≤ slice_index c.counts s) × IsAboveInserted P c s place d
  above_ordered T found order = (out.0, place_inside, above_by out.0 (λ sort i. ordered_as sort i (cases_eq sort s)) place_inside (λ sort S h. placed sort S h (cases_eq sort s)) (λ sort i below. both sort i below (cases_eq sort s)))
    where
      place_inside : out.0 ≤ slice_index c.counts s
      place_inside = let a = out.1 in let b = one_larger in omega (arith, a, b)

      placed : (sort : ℕ) (S : Sort) → slice_get P.sorts sort ≡ Some S → (o : (sort ≡ s) ⊎ (sort ≢ s)) → Places S.ordered (slice_index (with_one_more c.counts s) sort) (slice_index d.counts sort) (λ i. ordered_as sort i o)
      placed sort S h (inl e) = subst (λ m. Places S.ordered (slice_index (with_one_more c.counts s) sort) m (λ k. k)) (larger_is sort) (same_places S.ordered (slice_index (with_one_more c.counts s) sort))
      placed sort S h (inr ne) = subst (λ n. Places S.ordered n (slice_index d.counts sort) (moved sort)) (sym (same_elsewhere sort ne)) (moved_places sort S h)

      both : (sort i : ℕ) → i < slice_index c.counts sort → (o : (sort ≡ s) ⊎ (sort ≢ s)) → ordered_as sort (inserted_as s out.0 sort i o) o ≡ moved sort i
      both sort i below (inr ne) = refl
      both sort i below (inl e) =
          let here : i < slice_index c.counts s = subst (λ k. i < slice_index c.counts k) e below in
          gap (slice_index c.counts s) out.0 (moved s)
          (λ k h. let p = (moved_places s T found).inside k h in let b = one_larger in omega (arith, p, b))
          (λ j k before h. subst (λ b. Apart b (moved s j) (moved s k)) order ((moved_places s T found).apart j k before h))
          (let a = out.1 in let b = one_larger in omega (arith, a, b)) out.2 i here
          ∙ ap (λ k. moved k i) (sym e)

  abbrev last_as : (i : ℕ) → (i < slice_index c.counts s) ⊎ (slice_index c.counts s ≤ i) → ℕ
  last_as i (inl before) = moved s i
  last_as i (inr last) = out.0

  abbrev free_as : (sort i : ℕ) → (sort ≡ s) ⊎ (sort ≢ s) → ℕ
  free_as sort i (inl e) = last_as i (cases_lt i (slice_index c.counts s))
  free_as sort i (inr ne) = moved sort i

  pub above_free : (T : Sort) → slice_get P.sorts s ≡ Some T → T.ordered ≡ false → IsAboveInserted P c s (slice_index c.counts s) d
  above_free T found order = above_by (slice_index c.counts s) (λ sort i. free_as sort i (cases_eq sort s)) (omega arith) (λ sort S h. placed sort S h (cases_eq sort s)) (λ sort i below. both sort i below (cases_eq sort s))
    where
      last_inside : (i : ℕ) (o : (i < slice_index c.counts s) ⊎ (slice_index c.counts s ≤ i)) → last_as i o < slice_index d.counts s
      last_inside i (inl before) = (moved_places s T found).inside i before
      last_inside i (inr last) = out.1

      last_apart : (i j : ℕ) (o : (i < slice_index c.counts s) ⊎ (slice_index c.counts s ≤ i)) (p : (j < slice_index c.counts s) ⊎ (slice_index c.counts s ≤ j)) → i < j → j < slice_index c.counts s + 1 → last_as i o ≢ last_as j p
      last_apart i j (inl a) (inl b) before below = subst (λ b. Apart b (moved s i) (moved s j)) order ((moved_places s T found).apart i j before b)
      last_apart i j (inl a) (inr b) before below = λ e. out.2 (i, a, e)
      last_apart i j (inr a) p before below = absurd (omega (arith, a, before, below))

      same_type : (sort : ℕ) (S : Sort) → sort ≡ s → slice_get P.sorts sort ≡ Some S → S.ordered ≡ false
      same_type sort S e h =
          let one : Some S ≡ Some T = sym h ∙ (ap (slice_get P.sorts) e ∙ found) in
          let type : S ≡ T = cc in
          ap (λ (x : Sort). x.ordered) type ∙ order

      placed : (sort : ℕ) (S : Sort) → slice_get P.sorts sort ≡ Some S → (o : (sort ≡ s) ⊎ (sort ≢ s)) → Places S.ordered (slice_index (with_one_more c.counts s) sort) (slice_index d.counts sort) (λ i. free_as sort i o)
      placed sort S h (inr ne) = subst (λ n. Places S.ordered n (slice_index d.counts sort) (moved sort)) (sym (same_elsewhere sort ne)) (moved_places sort S h)
      placed sort S h (inl e) =
          let here = more_here c.counts s sort known e in
          let own : slice_index c.counts sort ≡ slice_index c.counts s = ap (slice_index c.counts) e in
          subst (λ b. Places b (slice_index (with_one_more c.counts s) sort) (slice_index d.counts sort) (λ i. free_as sort i (inl e))) (sym (same_type sort S e h)) (record {
            inside = λ i below. subst (λ k. last_as i (cases_lt i (slice_index c.counts s)) < slice_index d.counts k) (sym e) (last_inside i (cases_lt i (slice_index c.counts s)));
            apart = λ i j before below. last_apart i j (cases_lt i (slice_index c.counts s)) (cases_lt j (slice_index c.counts s)) before (omega (arith, below, here, own));
          })

      last_before : (i : ℕ) → i < slice_index c.counts s → (o : (i < slice_index c.counts s) ⊎ (slice_index c.counts s ≤ i)) → last_as i o ≡ moved s i
      last_before i below (inl before) = refl
      last_before i below (inr last) = absurd (omega (arith, below, last))

      stays : (i : ℕ) → i < slice_index c.counts s → widened (slice_index c.counts s) i ≡ i
      stays i below = by_case (widened_cases (slice_index c.counts s) i)
        where
          by_case : ((i < slice_index c.counts s) × (widened (slice_index c.counts s) i ≡ i)) ⊎ ((slice_index c.counts s ≤ i) × (widened (slice_index c.counts s) i ≡ i + 1)) → widened (slice_index c.counts s) i ≡ i
          by_case (inl (before, e)) = e
          by_case (inr (after, e)) = absurd (omega (arith, after, below))

      both : (sort i : ℕ) → i < slice_index c.counts sort → (o : (sort ≡ s) ⊎ (sort ≢ s)) → free_as sort (inserted_as s (slice_index c.counts s) sort i o) o ≡ moved sort i
      both sort i below (inr ne) = refl
      both sort i below (inl e) =
          let here : i < slice_index c.counts s = subst (λ k. i < slice_index c.counts k) e below in
          ap (λ k. last_as k (cases_lt k (slice_index c.counts s))) (stays i here) ∙ (last_before i here (cases_lt i (slice_index c.counts s)) ∙ ap (λ k. moved k i) (sym e))
