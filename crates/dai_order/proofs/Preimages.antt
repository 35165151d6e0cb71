-- A clause without a variable that is in none of its literals.
use Rattle.std.proofs.Common.{◌≡◌, ◌≢◌, ◌<◌, ◌≤◌, ◌-◌, ◌*◌, ◌/◌, ◌%◌, ℕ, List, [], ◌∷◌, length, get_or, Some, sym, ap, ◌∙◌, refl, subst, arith, inl, inr, ◌⊎◌}
use Rattle.std.specs.Prelude.{slice_get, slice_index, nat_eq}
use Rattle.std.specs.List.{All, Contains}
use Rattle.std.proofs.lemmas.Bool.{cases_lt, cases_eq}
use Rattle.std.proofs.lemmas.List.{get_or_default}
use Rattle.dai_model.specs.Protocol.{Protocol, Sort}
use Rattle.dai_model.specs.Placement.{of_sort, ArePlacements}
use Rattle.dai_model.specs.Clause.{Clause, Literal, atoms_of, literals_of, literal_among, no_atom, value_at}
use Rattle.dai_model.specs.Template.{Bounds, IsTemplate}
use Rattle.dai_model.specs.Subsumption.{image_of, image_of_atom, image_of_variable, Subsumes}
use Rattle.dai_model.proofs.Below.{Each, Each-at, IsAtomOf, atoms_inside, literal_inside, count_within, slice_get-some}
use Rattle.dai_model.proofs.Counting.{IsHit, hits_each}
use Rattle.dai_model.proofs.ShapeAtoms.{atom_listed}
use Rattle.dai_model.proofs.MovedAtoms.{Places, table, table-at, table_placed, AreTwoInOne, literal_in_one, atom_moved, named_moved, same_literal}
use Rattle.dai_model.proofs.Ranks.{literal_at, literal_there, literal_place, same_atom_place, target, targeted, targets}
use Rattle.dai_model.proofs.NumberedLiterals.{literal_named}
use Rattle.dai_model.proofs.FewerVariables.{lowered, lowered_places, widened_lowered}
use Rattle.dai_template.specs.Renamings.{put_all_in_order}
use Rattle.dai_template.proofs.Within.{Among, among_at, contained}
use Rattle.dai_template.proofs.Ways.{All-from_Each}
use Rattle.dai_template.proofs.InOrder.{IsAtomBefore, AreApart, put_all_each, put_all_length, put_all_among, put_all_rising, each_from, rising_from, rising_at}
use Rattle.dai_order.specs.Variables.{with_one_more}
use Rattle.dai_order.specs.Parts.{IsLeftOut, ArePreimages, HasNoPreimage}
use Rattle.dai_order.proofs.Sides.{atom_agreed, atom_gone}
use Rattle.dai_order.proofs.MoreVariables.{inserted_as, inserted, inserting, IsInsertion, new_placed, in_numbers, more_here, more_there}

abbrev bare : List ℕ → Clause
bare counts = record { counts = counts; literals = [] }

pub bare_template : (P : Protocol) (B : Bounds) (counts : List ℕ) → length counts ≡ length P.sorts → ((sort : ℕ) → slice_index counts sort ≤ slice_index B.variables sort) → IsTemplate P B (bare counts)
bare_template P B counts long within = record {
  one_count_each = long;
  few_variables = within;
  few_literals = omega arith;
  of_the_shape = λ k d below. absurd (omega (arith, below));
  each_atom_once = λ i j before below. absurd (omega (arith, below));
}

module _ (P : Protocol) (B : Bounds) (c : Clause) (t : IsTemplate P B c) (fewer : List ℕ) (s v : ℕ) (long : length fewer ≡ length P.sorts) (within : (sort : ℕ) → slice_index fewer sort ≤ slice_index B.variables sort) (known : s < length fewer) (inside : v ≤ slice_index fewer s) (larger : c.counts ≡ with_one_more fewer s) where
  t0 : IsTemplate P B (bare fewer)
  t0 = bare_template P B fewer long within

  abbrev ins : List (List ℕ)
  ins = inserting P fewer s v

  ins_placed : ArePlacements P fewer c.counts ins
  ins_placed = subst (λ ns. ArePlacements P fewer ns ins) (sym larger) (new_placed P B (bare fewer) t0 s v known inside)

  count_is : (sort : ℕ) → slice_index c.counts sort ≡ slice_index (with_one_more fewer s) sort
  count_is sort = ap (λ (ns : List ℕ). slice_index ns sort) larger

  -- from a clause below, without the variable
  module _ (m : Clause) (sub : Subsumes P m c) (u : IsTemplate P B m) (out : IsLeftOut P m c sub s v) where
    abbrev moved : ℕ → ℕ → ℕ
    moved sort = slice_index (of_sort sub.injection sort)

    abbrev first_as : (sort i : ℕ) → (sort ≡ s) ⊎ (sort ≢ s) → ℕ
    first_as sort i (inl e) = lowered v (moved sort i)
    first_as sort i (inr ne) = moved sort i

    abbrev first : List (List ℕ)
    first = table (λ sort i. first_as sort i (cases_eq sort s)) m.counts (length P.sorts)

    moved_places : (sort : ℕ) (T : Sort) → slice_get P.sorts sort ≡ Some T → Places T.ordered (slice_index m.counts sort) (slice_index c.counts sort) (moved sort)
    moved_places sort T h = let p = sub.places.each sort T h in record { inside = p.inside; apart = p.apart }

    none_at : (sort : ℕ) → sort ≡ s → IsHit (slice_index m.counts sort) (moved sort) v → ⊥
    none_at sort e = subst (λ k. IsHit (slice_index m.counts k) (moved k) v → ⊥) (sym e) out.none

    first_places : (sort : ℕ) (T : Sort) (o : (sort ≡ s) ⊎ (sort ≢ s)) → slice_get P.sorts sort ≡ Some T → Places T.ordered (slice_index m.counts sort) (slice_index fewer sort) (λ i. first_as sort i o)
    first_places sort T (inl e) h =
        let here = more_here fewer s sort known e in
        let same = count_is sort in
        subst (λ n. Places T.ordered (slice_index m.counts sort) n (λ i. lowered v (moved sort i))) (let less : slice_index c.counts sort - 1 ≡ slice_index fewer sort = omega (arith, here, same) in less)
        (lowered_places T.ordered (slice_index m.counts sort) (slice_index c.counts sort) v (moved sort) (moved_places sort T h) (subst (λ k. v < slice_index c.counts k) (sym e) out.inside) (none_at sort e))
    first_places sort T (inr ne) h = subst (λ n. Places T.ordered (slice_index m.counts sort) n (moved sort)) (count_is sort ∙ more_there fewer s sort ne) (moved_places sort T h)

    first_placed : ArePlacements P m.counts fewer first
    first_placed = table_placed P m.counts fewer (λ sort i. first_as sort i (cases_eq sort s)) (λ sort T h. first_places sort T (cases_eq sort s) h)

    both_as : (sort i : ℕ) (o : (sort ≡ s) ⊎ (sort ≢ s)) → i < slice_index m.counts sort → inserted_as s v sort (first_as sort i o) o ≡ moved sort i
    both_as sort i (inl e) below = widened_lowered v (moved sort i) (λ same. none_at sort e (i, below, same))
    both_as sort i (inr ne) below = refl

    two : AreTwoInOne m.counts first ins (image_of_variable sub.injection)
    two w h =
        let below = count_within m.counts w.sort w.number h (cases_lt w.sort (length m.counts)) in
        let each = u.one_count_each in
        let type : w.sort < length P.sorts = omega (arith, below, each) in
        let found = slice_get-some P.sorts w.sort type in
        let there = (first_places w.sort found.0 (cases_eq w.sort s) found.1).inside w.number h in
        let own : value_at first w ≡ first_as w.sort w.number (cases_eq w.sort s) = table-at (λ sort i. first_as sort i (cases_eq sort s)) m.counts (length P.sorts) w.sort w.number type h in
        let number : value_at ins (image_of_variable first w) ≡ value_at sub.injection w =
        ap (λ n. slice_index (of_sort ins w.sort) n) own
        ∙ (table-at (inserted s v) fewer (length P.sorts) w.sort (first_as w.sort w.number (cases_eq w.sort s)) type there ∙ both_as w.sort w.number (cases_eq w.sort s) h) in
        λ i. record { sort = w.sort; number = number i }

    in_one : (i : ℕ) → i < length m.literals → image_of ins (image_of first (literal_at P m i)) ≡ image_of sub.injection (literal_at P m i)
    in_one i below = literal_in_one m.counts first ins sub.injection (literal_at P m i) two (literal_inside P B m i u below)

    first_inside : (i : ℕ) → i < length m.literals → IsAtomOf fewer (image_of_atom first (literal_at P m i).atom)
    first_inside i below = atom_moved P m.counts fewer first (literal_at P m i).atom u.one_count_each first_placed (literal_inside P B m i u below)

    -- no literal lacks a preimage
    pub has_preimages : (types : ℕ) (to : List ℕ) → types ≡ length fewer → length fewer ≤ 8 → ((sort : ℕ) → slice_index fewer sort ≤ 4) → IsInsertion s v to → length m.literals ≡ length c.literals → HasNoPreimage types to (atoms_of P fewer) (atoms_of P c.counts) c.literals → ⊥
    has_preimages types to all few_types few is even none =
        let hit = hits_each (length m.literals) (length c.literals) (target P B m c u t sub) (targets P B m c u t sub) (omega (arith, even)) none.place none.below in
        let own = targeted P B m c u t sub hit.0 hit.1 in
        let a = image_of_atom first (literal_at P m hit.0).atom in
        let listed = atom_listed P fewer a (named_moved P first (literal_at P m hit.0).atom (literal_named P B m hit.0 u hit.1)) (first_inside hit.0 hit.1) in
        let there : get_or (atoms_of P fewer) listed.0 no_atom ≡ a = get_or_default (atoms_of P fewer) listed.0 no_atom a listed.1 ∙ listed.2 in
        let image : image_of_atom ins (get_or (atoms_of P fewer) listed.0 no_atom) ≡ (literal_at P c none.place).atom =
        ap (image_of_atom ins) there ∙ (ap (λ (x : Literal). x.atom) (in_one hit.0 hit.1) ∙ (sym (ap (λ (x : Literal). x.atom) own.is) ∙ ap (λ k. (literal_at P c k).atom) hit.2)) in
        none.none listed.0 listed.1
        (atom_agreed fewer types 0 ins to (get_or (atoms_of P fewer) listed.0 no_atom) (literal_at P c none.place).atom (λ sort i h _. in_numbers P B (bare fewer) t0 s v known inside to few_types few is (record { sort = sort; number = i }) h)
        (Each-at (IsAtomOf fewer) (atoms_of P fewer) listed.0 no_atom listed.1 (atoms_inside P fewer)) image)

    module _ (others numbers : List ℕ) (as_many : length numbers ≡ length c.literals) (image_is : (k : ℕ) → k < length c.literals → image_of ins (literal_among (atoms_of P fewer) (slice_index numbers k)) ≡ literal_at P c k) (number_inside : (k : ℕ) → k < length c.literals → IsAtomOf fewer (literal_among (atoms_of P fewer) (slice_index numbers k)).atom) (ordered : others ≡ put_all_in_order numbers []) where
      pub above_part : Subsumes P m (record { counts = fewer; literals = others })
      above_part = record {
        injection = first;
        places = first_placed;
        literals = λ l h.
            let own = literal_place P m l h in
            let there = sub.literals l h in
            let at = literal_place P c (image_of sub.injection l) there in
            let j = there.0 in
            let x = literal_at P m h.0 in
            let same : image_of ins (image_of first x) ≡ image_of ins (literal_among (atoms_of P fewer) (slice_index numbers j)) =
            in_one h.0 own.below ∙ (ap (image_of sub.injection) own.is ∙ (sym at.is ∙ sym (image_is j at.below))) in
            let one = same_literal P fewer c.counts ins (image_of first x) (literal_among (atoms_of P fewer) (slice_index numbers j)) long ins_placed (first_inside h.0 own.below) (number_inside j at.below) same in
            let n = slice_index numbers j in
            let below : j < length numbers = let k = at.below in omega (arith, k, as_many) in
            let among = subst (Among n) (sym ordered) (put_all_among n numbers [] (inl (among_at n numbers j below (get_or_default numbers j n 0 below)))) in
            let w = contained n others among in
            subst (Contains (literals_of P (record { counts = fewer; literals = others })))
            (ap (literal_among (atoms_of P fewer)) (sym (get_or_default others w.0 n 0 w.1) ∙ w.2) ∙ (sym one ∙ ap (image_of first) own.is))
            (literal_there P (record { counts = fewer; literals = others }) w.0 w.1);
      }

  -- the clause over the smaller shape
  module _ (types : ℕ) (to others : List ℕ) (all : types ≡ length fewer) (few_types : length fewer ≤ 8) (few : (sort : ℕ) → slice_index fewer sort ≤ 4) (is : IsInsertion s v to) (p : ArePreimages types to (atoms_of P fewer) (atoms_of P c.counts) c.literals others) where
    abbrev part : Clause
    part = record { counts = fewer; literals = others }

    number_in : (k : ℕ) → k < length c.literals → IsAtomOf fewer (get_or (atoms_of P fewer) (slice_index p.numbers k / 2) no_atom)
    number_in k below = Each-at (IsAtomOf fewer) (atoms_of P fewer) (slice_index p.numbers k / 2) no_atom (p.each k below).below (atoms_inside P fewer)

    image_of_number : (k : ℕ) → k < length c.literals → image_of ins (literal_among (atoms_of P fewer) (slice_index p.numbers k)) ≡ literal_at P c k
    image_of_number k below =
        let here = p.each k below in
        let atom = atom_gone fewer types 0 ins to (get_or (atoms_of P fewer) (slice_index p.numbers k / 2) no_atom) (literal_at P c k).atom all (in_numbers P B (bare fewer) t0 s v known inside to few_types few is) (number_in k below) here.image in
        let sign : nat_eq (slice_index p.numbers k % 2) 1 ≡ nat_eq (slice_index c.literals k % 2) 1 = ap (λ n. nat_eq n 1) here.sign in
        λ i. record { atom = atom i; negated = sign i }

    apart : (i j : ℕ) → i < j → j < length p.numbers → AreApart (slice_index p.numbers i) (slice_index p.numbers j)
    apart i j before below e =
        let many = p.as_many in
        let high : j < length c.literals = omega (arith, below, many) in
        let low : i < length c.literals = omega (arith, before, high) in
        let atoms : (literal_at P c i).atom ≡ (literal_at P c j).atom =
        sym (ap (λ (l : Literal). l.atom) (image_of_number i low)) ∙ (ap (λ n. image_of_atom ins (get_or (atoms_of P fewer) n no_atom)) e ∙ ap (λ (l : Literal). l.atom) (image_of_number j high)) in
        let one = same_atom_place P B c i j t low high atoms in
        omega (arith, one, before)

    long_part : length others ≡ length c.literals
    long_part = let a = ap length p.ordered in let b = put_all_length p.numbers [] in let d = p.as_many in omega (arith, a, b, d)

    nothing : (ns : List ℕ) → Each (λ n. Each (AreApart n) []) ns
    nothing [] = tt
    nothing (n ∷ ns) = (tt, nothing ns)

    number_below : (k : ℕ) → k < length p.numbers → slice_index p.numbers k < 2 * length (atoms_of P fewer)
    number_below k below =
        let many = p.as_many in
        let half = (p.each k (omega (arith, below, many))).below in
        let rest : slice_index p.numbers k % 2 < 2 = omega arith in
        omega (arith, half, rest)

    pub part_template : IsTemplate P B part
    part_template = record {
      one_count_each = long;
      few_variables = within;
      few_literals = let own = t.few_literals in let same = long_part in omega (arith, own, same);
      of_the_shape = subst (All (λ n. n < 2 * length (atoms_of P fewer))) (sym p.ordered) (All-from_Each (λ n. n < 2 * length (atoms_of P fewer)) (put_all_in_order p.numbers []) (put_all_each (λ n. n < 2 * length (atoms_of P fewer)) p.numbers [] (each_from (λ n. n < 2 * length (atoms_of P fewer)) p.numbers number_below) tt));
      each_atom_once = subst (λ (ns : List ℕ). (i j : ℕ) → i < j → j < length ns → slice_index ns i / 2 < slice_index ns j / 2) (sym p.ordered) (λ i j before below. rising_at IsAtomBefore (put_all_in_order p.numbers []) i j before below (put_all_rising p.numbers [] tt (rising_from AreApart p.numbers apart) (nothing p.numbers)));
    }

    number_of : (n : ℕ) → Among n others → (k : ℕ) × (k < length c.literals) × (slice_index p.numbers k ≡ n)
    number_of n h =
        let each : Each (λ x. (k : ℕ) × (k < length c.literals) × (slice_index p.numbers k ≡ x)) (put_all_in_order p.numbers []) =
        put_all_each (λ x. (k : ℕ) × (k < length c.literals) × (slice_index p.numbers k ≡ x)) p.numbers [] (each_from (λ x. (k : ℕ) × (k < length c.literals) × (slice_index p.numbers k ≡ x)) p.numbers (λ k below. (k, (let many = p.as_many in omega (arith, below, many)), refl))) tt in
        among_each (put_all_in_order p.numbers []) each (subst (Among n) p.ordered h)
      where
        among_each : (ns : List ℕ) → Each (λ x. (k : ℕ) × (k < length c.literals) × (slice_index p.numbers k ≡ x)) ns → Among n ns → (k : ℕ) × (k < length c.literals) × (slice_index p.numbers k ≡ n)
        among_each [] e a = absurd a
        among_each (x ∷ xs) e (inl same) = (e.0.0, e.0.1, e.0.2 ∙ same)
        among_each (x ∷ xs) e (inr a) = among_each xs e.1 a

    pub part_below : Subsumes P part c
    part_below = record {
      injection = ins;
      places = ins_placed;
      literals = λ l h.
          let own = literal_place P part l h in
          let n = slice_index others h.0 in
          let w = number_of n (among_at n others h.0 own.below (get_or_default others h.0 n 0 own.below)) in
          let image : image_of ins l ≡ literal_at P c w.0 = ap (image_of ins) (sym own.is ∙ ap (literal_among (atoms_of P fewer)) (sym w.2)) ∙ image_of_number w.0 w.1 in
          subst (Contains (literals_of P c)) (sym image) (literal_there P c w.0 w.1);
    }

    pub part_above : (m : Clause) (sub : Subsumes P m c) → IsTemplate P B m → IsLeftOut P m c sub s v → Subsumes P m part
    part_above m sub u out = above_part m sub u out others p.numbers p.as_many image_of_number number_in p.ordered

    pub part_long : length others ≡ length c.literals
    part_long = long_part
