-- A member below a clause is below one of its parts.
use Rattle.std.proofs.Common.{◌≡◌, ◌≢◌, ◌<◌, ◌≤◌, ◌+◌, ◌-◌, ◌*◌, ◌/◌, ◌%◌, ℕ, zero, suc, List, length, get_or, sym, ap, ◌∙◌, subst, arith, inl, inr, ◌⊎◌}
use Rattle.std.specs.Prelude.{slice_index}
use Rattle.std.specs.List.{Contains, remove}
use Rattle.std.specs.declared.cmp.Ordering.TheVariants.{Less, Equal}
use Rattle.std.proofs.lemmas.Bool.{cases_lt, cases_eq}
use Rattle.std.proofs.lemmas.List.{length-map, get_or-map, get_or_default}
use Rattle.std.proofs.lemmas.List.Elements.{All-from_get_or}
use Rattle.std.proofs.lemmas.List.Edits.{length-remove, get_or-remove_below, get_or-remove_above}
use Rattle.std.proofs.lemmas.Cmp.{tied_itself}
use Rattle.dai_model.specs.Protocol.{Protocol}
use Rattle.dai_model.specs.Placement.{of_sort}
use Rattle.dai_model.specs.Clause as Model
use Rattle.dai_model.specs.Clause.{Literal, literals_of, literal_among, atoms_of}
use Rattle.dai_model.specs.Template.{Bounds, IsTemplate}
use Rattle.dai_model.specs.Subsumption.{image_of, Subsumes, IsRenaming, IsCanonical, print_order}
use Rattle.dai_model.specs.Weakening.{rank_of}
use Rattle.dai_model.proofs.Below.{below-refl, below-trans, count_within}
use Rattle.dai_model.proofs.Counting.{IsHit, hit_or_not, no_fewer, back, back_one_to_one, left_out, less_somewhere}
use Rattle.dai_model.proofs.Order.{Rising-at}
use Rattle.dai_model.proofs.Ranks.{literal_at, literal_there, literal_place, same_atom_place, target, targeted, literals_no_fewer, is_renaming}
use Rattle.dai_model.proofs.OneCanonical.{one_canonical, renamed_back}
use Rattle.dai_model.proofs.FewerLiterals.{widened, widened_cases, widened_inside, widened_rises}
use Rattle.dai_template.specs.declared.clause.Clause.{Clause}
use Rattle.dai_template.specs.declared.space.Space.{Space}
use Rattle.dai_template.specs.Spaces.{IsClauseOf, clause_of}
use Rattle.dai_template.specs.Lists.{clauses_of, Comes}
use Rattle.dai_template.specs.Renamings.{IsCanonicalForm}
use Rattle.dai_order.specs.Forms.{IsForm, AreForms, IsPlaceOf, StandsAt}
use Rattle.dai_order.specs.Antichains.{StandsFor}
use Rattle.dai_order.specs.Parts.{IsBelowEvenly, IsImageOfOne, IsBelowFrom, IsBelowBut, IsBelowWithout, IsWithoutVariable, LeavesOutNone}
use Rattle.dai_order.proofs.Entering.{print_total, renaming_trans}
use Rattle.dai_order.proofs.Unrelated.{each_place}
use Rattle.dai_order.proofs.Gaining.{member_form, member_template}

-- a canonical form that does not stand at its place is no member
pub not_listed : (P : Protocol) (B : Bounds) (space : Space) (clause form : Clause) (members : List Clause) (place : ℕ) → IsClauseOf P B space clause → AreForms P B space members → IsCanonicalForm P B space clause form → IsPlaceOf space members form place → (StandsAt space members form place → ⊥) → (m : Model.Clause) → Contains (clauses_of space members) m → IsRenaming P (clause_of space clause) m → ⊥
not_listed P B space clause form members place h forms f is other m listed r = by_place (cases_lt listed.0 place) (cases_lt place listed.0)
  where
    t : IsTemplate P B m
    t = member_template P B space members m forms listed

    same : m ≡ clause_of space form
    same =
        let back = renamed_back P B (clause_of space clause) m h.template t r in
        let w2 = member_form P B space members m forms listed in
        one_canonical P B m (clause_of space form) t f.of_the_space.template (renaming_trans P B m (clause_of space clause) (clause_of space form) t back f.renaming) (subst (IsCanonical P B) w2.2 w2.1.canonical) f.least

    below : listed.0 < length members
    below = let long = length-map members (clause_of space) in let k = listed.1 in omega (arith, long, k)

    here : clause_of space (get_or members listed.0 form) ≡ clause_of space form
    here = sym (get_or-map (clause_of space) members listed.0 form m below) ∙ (listed.2 ∙ same)

    own : print_order (clause_of space form) (clause_of space form) ≡ Equal
    own = tied_itself print_total (clause_of space form)

    by_place : (listed.0 < place) ⊎ (place ≤ listed.0) → (place < listed.0) ⊎ (listed.0 ≤ place) → ⊥
    by_place (inl early) order = let less = subst (λ c. print_order c (clause_of space form) ≡ Less) here (is.before listed.0 form early) in let e = own in let none : ⊥ = cc in none
    by_place (inr late) (inl later) = is.after place form (omega arith) (omega (arith, later, below)) (subst (λ c. print_order (clause_of space (get_or members place form)) c ≡ Less) here (Rising-at (Comes space) members place listed.0 form later below forms.rising))
    by_place (inr late) (inr last) = let one : listed.0 ≡ place = omega (arith, late, last) in other (subst (λ k. k < length members) one below, ap (λ k. clause_of space (get_or members k form)) (sym one) ∙ here)

pub stands_there : (P : Protocol) (B : Bounds) (space : Space) (clause form : Clause) (members : List Clause) (place : ℕ) → IsClauseOf P B space clause → IsCanonicalForm P B space clause form → StandsAt space members form place → StandsFor P (clauses_of space members) (clause_of space clause)
stands_there P B space clause form members place h f there =
    let long = length-map members (clause_of space) in
    let below = there.0 in
    record {
      member = clause_of space form;
      listed = (place, omega (arith, long, below), get_or-map (clause_of space) members place form (clause_of space form) below ∙ there.1);
      below = (renamed_back P B (clause_of space clause) (clause_of space form) h.template f.of_the_space.template f.renaming).permuted;
    }

pub stands_above : (P : Protocol) (B : Bounds) (space : Space) (members : List Clause) (c d : Model.Clause) → AreForms P B space members → StandsFor P (clauses_of space members) c → Subsumes P c d → StandsFor P (clauses_of space members) d
stands_above P B space members c d forms s sub = record { member = s.member; listed = s.listed; below = below-trans P B s.member c d (member_template P B space members s.member forms s.listed) s.below sub }

-- a member that is below the clause evenly is a renaming of it, or leaves a variable out
pub evenly_below : (P : Protocol) (B : Bounds) (space : Space) (members : List Clause) (c : Model.Clause) (past : ℕ) → IsTemplate P B c → AreForms P B space members → ((sort : ℕ) → slice_index c.counts sort ≤ 4) → length c.counts ≤ 8 → 32 ≤ past → ((m : Model.Clause) → Contains (clauses_of space members) m → IsRenaming P c m → ⊥) → ((k : ℕ) → k < past → IsBelowWithout P (clauses_of space members) c (k / 4) (k % 4) → ⊥) → IsBelowEvenly P (clauses_of space members) c → ⊥
evenly_below P B space members c past t forms few types all no_renaming none e = by_rank (cases_lt (rank_of e.member) (rank_of c))
  where
    u : IsTemplate P B e.member
    u = member_template P B space members e.member forms e.listed

    by_rank : (rank_of e.member < rank_of c) ⊎ (rank_of c ≤ rank_of e.member) → ⊥
    by_rank (inr full) = no_renaming e.member e.listed (renamed_back P B e.member c u t (is_renaming P B e.member c u t e.below full))
    by_rank (inl less) =
        let even = e.even in
        let s = less_somewhere e.member.counts c.counts (u.one_count_each ∙ sym t.one_count_each) (omega (arith, less, even)) in
        let out = left_out (slice_index e.member.counts s.0) (slice_index c.counts s.0) (slice_index (of_sort e.below.injection s.0)) s.1 in
        let small = few s.0 in
        let inside = out.1 in
        let number : out.0 < 4 = omega (arith, inside, small) in
        let type = count_within c.counts s.0 out.0 inside (cases_lt s.0 (length c.counts)) in
        let place : 4 * s.0 + out.0 < past = omega (arith, type, number, types, all) in
        let sort : (4 * s.0 + out.0) / 4 ≡ s.0 = omega (arith, number) in
        let rest : (4 * s.0 + out.0) % 4 ≡ out.0 = omega (arith, number) in
        none (4 * s.0 + out.0) place (subst (λ n. IsBelowWithout P (clauses_of space members) c n ((4 * s.0 + out.0) % 4)) (sym sort) (subst (λ n. IsBelowWithout P (clauses_of space members) c s.0 n) (sym rest) (record { evenly = e; out = record { inside = inside; none = out.2 } })))

pub none_without : (P : Protocol) (B : Bounds) (space : Space) (members : List Clause) (c : Model.Clause) (sort number : ℕ) → AreForms P B space members → LeavesOutNone P B c sort number → IsBelowWithout P (clauses_of space members) c sort number → ⊥
none_without P B space members c sort number forms none w = none w.evenly.member w.evenly.below (member_template P B space members w.evenly.member forms w.evenly.listed) w.evenly.even w.out

pub part_without : (P : Protocol) (B : Bounds) (space : Space) (members : List Clause) (clause part : Clause) (sort number : ℕ) → AreForms P B space members → IsWithoutVariable P B space clause part sort number → (IsBelowEvenly P (clauses_of space members) (clause_of space part) → ⊥) → IsBelowWithout P (clauses_of space members) (clause_of space clause) sort number → ⊥
part_without P B space members clause part sort number forms p none w =
    let e = w.evenly in
    none (record {
      member = e.member;
      listed = e.listed;
      below = p.above e.member e.below (member_template P B space members e.member forms e.listed) e.even w.out;
      even = e.even ∙ sym p.as_many;
    })

pub next_place : (Q : ℕ → Type 0) (n k : ℕ) → k < n + 1 → (k < n → Q k → ⊥) → (Q n → ⊥) → Q k → ⊥
next_place Q n k below earlier last here = by_place (cases_lt k n)
  where
    by_place : (k < n) ⊎ (n ≤ k) → ⊥
    by_place (inl before) = earlier before here
    by_place (inr past) = last (subst Q (let same : k ≡ n = omega (arith, below, past) in same) here)

-- literals
module _ (P : Protocol) (B : Bounds) (m c : Model.Clause) (t : IsTemplate P B m) (u : IsTemplate P B c) (sub : Subsumes P m c) where
  image_from_hit : (i : ℕ) → IsHit (length m.literals) (target P B m c t u sub) i → IsImageOfOne P m c sub i
  image_from_hit i h = let own = targeted P B m c t u sub h.0 h.1 in record { place = h.0; below = h.1; is = sym own.is ∙ ap (literal_at P c) h.2 }

  hit_from_image : (i : ℕ) → i < length c.literals → IsImageOfOne P m c sub i → IsHit (length m.literals) (target P B m c t u sub) i
  hit_from_image i inside h =
      let own = targeted P B m c t u sub h.place h.below in
      (h.place, h.below, same_atom_place P B c (target P B m c t u sub h.place) i u own.below inside (ap (λ (l : Literal). l.atom) (own.is ∙ h.is)))

  image_or_not : (i : ℕ) → i < length c.literals → IsImageOfOne P m c sub i ⊎ (IsImageOfOne P m c sub i → ⊥)
  image_or_not i inside = either (hit_or_not (length m.literals) (target P B m c t u sub) i)
    where
      either : IsHit (length m.literals) (target P B m c t u sub) i ⊎ (IsHit (length m.literals) (target P B m c t u sub) i → ⊥) → IsImageOfOne P m c sub i ⊎ (IsImageOfOne P m c sub i → ⊥)
      either (inl h) = inl (image_from_hit i h)
      either (inr none) = inr (λ h. none (hit_from_image i inside h))

  even_where_all : ((i : ℕ) → i < length c.literals → IsImageOfOne P m c sub i) → length m.literals ≡ length c.literals
  even_where_all all =
      let few = literals_no_fewer P B m c t u sub in
      let many = no_fewer (length c.literals) (length m.literals) (back (length m.literals) (target P B m c t u sub)) (back_one_to_one (length m.literals) (length c.literals) (target P B m c t u sub) (λ j below. hit_from_image j below (all j below))) in
      omega (arith, few, many)

  -- all are images, or there is a first that is none
  first_missed : (from left : ℕ) → from + left ≡ length c.literals → ((i : ℕ) → i < from → i < length c.literals → IsImageOfOne P m c sub i) → ((i : ℕ) → i < length c.literals → IsImageOfOne P m c sub i) ⊎ ((q : ℕ) × (from ≤ q) × (q < length c.literals) × ((i : ℕ) → i < q → i < length c.literals → IsImageOfOne P m c sub i) × (IsImageOfOne P m c sub q → ⊥))
  first_missed from zero all before = inl (λ i inside. before i (omega (arith, all, inside)) inside)
  first_missed from (suc left) all before = by_image (image_or_not from (omega (arith, all))) (λ further. first_missed (from + 1) left (omega (arith, all)) further)
    where
      by_image : IsImageOfOne P m c sub from ⊎ (IsImageOfOne P m c sub from → ⊥) → (((i : ℕ) → i < from + 1 → i < length c.literals → IsImageOfOne P m c sub i) → ((i : ℕ) → i < length c.literals → IsImageOfOne P m c sub i) ⊎ ((q : ℕ) × (from + 1 ≤ q) × (q < length c.literals) × ((i : ℕ) → i < q → i < length c.literals → IsImageOfOne P m c sub i) × (IsImageOfOne P m c sub q → ⊥))) → ((i : ℕ) → i < length c.literals → IsImageOfOne P m c sub i) ⊎ ((q : ℕ) × (from ≤ q) × (q < length c.literals) × ((i : ℕ) → i < q → i < length c.literals → IsImageOfOne P m c sub i) × (IsImageOfOne P m c sub q → ⊥))
      by_image (inr none) rest = inr (from, omega arith, omega (arith, all), before, none)
      by_image (inl here) rest = widen (rest (λ i below inside. at_place i below inside (cases_lt i from)))
        where
          at_place : (i : ℕ) → i < from + 1 → i < length c.literals → (i < from) ⊎ (from ≤ i) → IsImageOfOne P m c sub i
          at_place i below inside (inl earlier) = before i earlier inside
          at_place i below inside (inr last) = subst (IsImageOfOne P m c sub) (let same : from ≡ i = omega (arith, below, last) in same) here

          widen : ((i : ℕ) → i < length c.literals → IsImageOfOne P m c sub i) ⊎ ((q : ℕ) × (from + 1 ≤ q) × (q < length c.literals) × ((i : ℕ) → i < q → i < length c.literals → IsImageOfOne P m c sub i) × (IsImageOfOne P m c sub q → ⊥)) → ((i : ℕ) → i < length c.literals → IsImageOfOne P m c sub i) ⊎ ((q : ℕ) × (from ≤ q) × (q < length c.literals) × ((i : ℕ) → i < q → i < length c.literals → IsImageOfOne P m c sub i) × (IsImageOfOne P m c sub q → ⊥))
          widen (inl every) = inl every
          widen (inr w) = inr (w.0, (let a = w.1 in omega (arith, a)), w.2, w.3, w.4)

-- what is below the clause is so evenly, or misses a place
pub below_from : (P : Protocol) (B : Bounds) (space : Space) (members : List Clause) (c : Model.Clause) (from past : ℕ) → IsTemplate P B c → AreForms P B space members → (from ≤ length c.literals) ⊎ (length c.literals ≤ from) → length c.literals ≤ past → (IsBelowEvenly P (clauses_of space members) c → ⊥) → ((k : ℕ) → from ≤ k → k < past → IsBelowBut P (clauses_of space members) c k → ⊥) → IsBelowFrom P (clauses_of space members) c from → ⊥
below_from P B space members c from past t forms order all evenly none b = by_order order
  where
    u : IsTemplate P B b.member
    u = member_template P B space members b.member forms b.listed

    from_all : ((i : ℕ) → i < length c.literals → IsImageOfOne P b.member c b.below i) → ⊥
    from_all every = evenly (record { member = b.member; listed = b.listed; below = b.below; even = even_where_all P B b.member c u t b.below every })

    by_miss : ((i : ℕ) → i < length c.literals → IsImageOfOne P b.member c b.below i) ⊎ ((q : ℕ) × (from ≤ q) × (q < length c.literals) × ((i : ℕ) → i < q → i < length c.literals → IsImageOfOne P b.member c b.below i) × (IsImageOfOne P b.member c b.below q → ⊥)) → ⊥
    by_miss (inl every) = from_all every
    by_miss (inr w) = none w.0 w.1 (let a = w.2 in omega (arith, a, all)) (record { from = record { member = b.member; listed = b.listed; below = b.below; images = w.3 }; inside = w.2; none = w.4 })

    by_order : (from ≤ length c.literals) ⊎ (length c.literals ≤ from) → ⊥
    by_order (inr past_all) = from_all (λ i inside. b.images i (omega (arith, past_all, inside)) inside)
    by_order (inl early) = by_miss (first_missed P B b.member c u t b.below from (length c.literals - from) (omega (arith, early)) b.images)

-- a clause without a literal
shorter_at : (xs : List ℕ) (j k : ℕ) → j < length xs → slice_index (remove xs j) k ≡ slice_index xs (widened j k)
shorter_at xs j k inside = by_case (widened_cases j k)
  where
    by_case : ((k < j) × (widened j k ≡ k)) ⊎ ((j ≤ k) × (widened j k ≡ k + 1)) → slice_index (remove xs j) k ≡ slice_index xs (widened j k)
    by_case (inl (before, e)) = get_or-remove_below xs j 0 k before inside ∙ ap (slice_index xs) (sym e)
    by_case (inr (after, e)) = get_or-remove_above xs j 0 k after inside ∙ ap (slice_index xs) (sym e)

module _ (P : Protocol) (B : Bounds) (c : Model.Clause) (j : ℕ) (t : IsTemplate P B c) (inside : j < length c.literals) where
  abbrev shorter : Model.Clause
  shorter = record { counts = c.counts; literals = remove c.literals j }

  long : length (remove c.literals j) + 1 ≡ length c.literals
  long = length-remove c.literals j inside

  wide : (k : ℕ) → k < length (remove c.literals j) → widened j k < length c.literals
  wide k below = let few = long in let w = widened_inside (length (remove c.literals j)) j k (omega (arith, inside, few)) below in omega (arith, w, few)

  at : (k : ℕ) → slice_index (remove c.literals j) k ≡ slice_index c.literals (widened j k)
  at k = shorter_at c.literals j k inside

  pub shorter_template : IsTemplate P B shorter
  shorter_template = record {
    one_count_each = t.one_count_each;
    few_variables = t.few_variables;
    few_literals = let few = long in let most = t.few_literals in omega (arith, few, most);
    of_the_shape = All-from_get_or (λ n. n < 2 * length (atoms_of P c.counts)) (remove c.literals j) 0 (λ k below. subst (λ n. n < 2 * length (atoms_of P c.counts)) (sym (at k)) (t.of_the_shape (widened j k) 0 (wide k below)));
    each_atom_once = λ i k before below. subst (λ n. n / 2 < slice_index (remove c.literals j) k / 2) (sym (at i)) (subst (λ n. slice_index c.literals (widened j i) / 2 < n / 2) (sym (at k)) (t.each_atom_once (widened j i) (widened j k) (widened_rises j i k before) (wide k below)));
  }

  literal_of : (k : ℕ) → literal_at P shorter k ≡ literal_at P c (widened j k)
  literal_of k = ap (literal_among (atoms_of P c.counts)) (at k)

  pub shorter_below : Subsumes P shorter c
  shorter_below =
      let r = below-refl P B c t in
      record {
        injection = r.injection;
        places = r.places;
        literals = λ l h. let own = literal_place P shorter l h in r.literals l (subst (Contains (literals_of P c)) (sym (literal_of h.0) ∙ own.is) (literal_there P c (widened j h.0) (wide h.0 own.below)));
      }

  -- what misses the literal is below the clause without it
  module _ (members : List Model.Clause) (b : IsBelowBut P members c j) where
    abbrev m : Model.Clause
    m = b.from.member

    abbrev sub : Subsumes P m c
    sub = b.from.below

    there : (l : Literal) (i : ℕ) → i < length c.literals → literal_at P c i ≡ image_of sub.injection l → (i ≡ j) ⊎ (i ≢ j) → (i ≡ j → ⊥) → (i < j) ⊎ (j ≤ i) → Contains (literals_of P shorter) (image_of sub.injection l)
    there l i below is (inl e) other order = absurd (other e)
    there l i below is (inr ne) other (inl before) = early (widened_cases j i)
      where
        early : ((i < j) × (widened j i ≡ i)) ⊎ ((j ≤ i) × (widened j i ≡ i + 1)) → Contains (literals_of P shorter) (image_of sub.injection l)
        early (inl (a, e)) = let few = long in subst (Contains (literals_of P shorter)) (literal_of i ∙ (ap (literal_at P c) e ∙ is)) (literal_there P shorter i (omega (arith, before, inside, few)))
        early (inr (a, e)) = absurd (let none : ⊥ = omega (arith, before, a) in none)
    there l i below is (inr ne) other (inr after) = late (widened_cases j (i - 1))
      where
        past : j < i
        past = let differ : i ≢ j = ne in omega (arith, after, differ)

        late : ((i - 1 < j) × (widened j (i - 1) ≡ i - 1)) ⊎ ((j ≤ i - 1) × (widened j (i - 1) ≡ i - 1 + 1)) → Contains (literals_of P shorter) (image_of sub.injection l)
        late (inl (a, e)) = absurd (let p = past in let none : ⊥ = omega (arith, a, p) in none)
        late (inr (a, e)) = let few = long in let p = past in subst (Contains (literals_of P shorter)) (literal_of (i - 1) ∙ (ap (literal_at P c) (e ∙ (let same : i - 1 + 1 ≡ i = omega (arith, p) in same)) ∙ is)) (literal_there P shorter (i - 1) (omega (arith, p, below, few)))

    below_shorter : Subsumes P m shorter
    below_shorter = record {
      injection = sub.injection;
      places = sub.places;
      literals = λ l h.
          let own = literal_place P m l h in
          let found = sub.literals l h in
          let place = literal_place P c (image_of sub.injection l) found in
          there l found.0 place.below place.is (cases_eq found.0 j) (λ e. b.none (record { place = h.0; below = own.below; is = ap (image_of sub.injection) own.is ∙ (sym place.is ∙ ap (literal_at P c) e) })) (cases_lt found.0 j);
    }

    same_before : (i : ℕ) → i < j → literal_at P shorter i ≡ literal_at P c i
    same_before i before = early (widened_cases j i)
      where
        early : ((i < j) × (widened j i ≡ i)) ⊎ ((j ≤ i) × (widened j i ≡ i + 1)) → literal_at P shorter i ≡ literal_at P c i
        early (inl (a, e)) = literal_of i ∙ ap (literal_at P c) e
        early (inr (a, e)) = absurd (let none : ⊥ = omega (arith, before, a) in none)

    pub from_shorter : IsBelowFrom P members shorter j
    unfolding below_shorter
    from_shorter = record {
      member = m;
      listed = b.from.listed;
      below = below_shorter;
      images = λ i before below. let w = b.from.images i before (omega (arith, before, inside)) in record { place = w.place; below = w.below; is = w.is ∙ sym (same_before i before) };
    }

pub shorter_is : (space : Space) (clause part : Clause) (j : ℕ) → part.shape ≡ clause.shape → part.lits.items ≡ remove clause.lits.items j → (let e : Model.Clause = record { counts = (clause_of space clause).counts; literals = remove clause.lits.items j } in e) ≡ clause_of space part
shorter_is space clause part j shape literals = λ i. record { counts = (clause_of space (record clause { shape = sym shape i })).counts; literals = sym literals i }

pub shorter_clause : (P : Protocol) (B : Bounds) (space : Space) (clause part : Clause) (j : ℕ) → IsClauseOf P B space clause → j < length clause.lits.items → part.shape ≡ clause.shape → part.lits.items ≡ remove clause.lits.items j → IsClauseOf P B space part
shorter_clause P B space clause part j h inside shape literals = record {
  space_of = h.space_of;
  shape = let k = h.shape in omega (arith, k, shape);
  template = subst (IsTemplate P B) (shorter_is space clause part j shape literals) (shorter_template P B (clause_of space clause) j h.template inside);
}

pub part_stands : (P : Protocol) (B : Bounds) (space : Space) (members : List Clause) (clause part : Clause) (j : ℕ) → IsClauseOf P B space clause → AreForms P B space members → j < length clause.lits.items → part.shape ≡ clause.shape → part.lits.items ≡ remove clause.lits.items j → StandsFor P (clauses_of space members) (clause_of space part) → StandsFor P (clauses_of space members) (clause_of space clause)
part_stands P B space members clause part j h forms inside shape literals s =
    stands_above P B space members (clause_of space part) (clause_of space clause) forms s (subst (λ e. Subsumes P e (clause_of space clause)) (shorter_is space clause part j shape literals) (shorter_below P B (clause_of space clause) j h.template inside))

pub none_missed : (P : Protocol) (B : Bounds) (space : Space) (members : List Clause) (clause part : Clause) (j : ℕ) → IsClauseOf P B space clause → j < length clause.lits.items → part.shape ≡ clause.shape → part.lits.items ≡ remove clause.lits.items j → (IsBelowFrom P (clauses_of space members) (clause_of space part) j → ⊥) → IsBelowBut P (clauses_of space members) (clause_of space clause) j → ⊥
none_missed P B space members clause part j h inside shape literals none b =
    none (subst (λ e. IsBelowFrom P (clauses_of space members) e j) (shorter_is space clause part j shape literals) (from_shorter P B (clause_of space clause) j h.template inside (clauses_of space members) b))

pub from_start : (P : Protocol) (members : List Model.Clause) (c : Model.Clause) → StandsFor P members c → IsBelowFrom P members c 0
from_start P members c s = record { member = s.member; listed = s.listed; below = s.below; images = λ i before below. absurd (omega (arith, before)) }

pub either_way : (a b : ℕ) → (a ≤ b) ⊎ (b ≤ a)
either_way a b = by_order (cases_lt a b)
  where
    by_order : (a < b) ⊎ (b ≤ a) → (a ≤ b) ⊎ (b ≤ a)
    by_order (inl below) = inl (omega (arith, below))
    by_order (inr above) = inr above

-- none of the first so many members is below the clause
abbrev AreNoneBelow : Protocol → Space → List Clause → Clause → ℕ → Type 0
AreNoneBelow P space members clause n = (k : ℕ) (d : Clause) → k < n → Subsumes P (clause_of space (get_or members k d)) (clause_of space clause) → ⊥

pub none_below_more : (P : Protocol) (B : Bounds) (space : Space) (members : List Clause) (clause : Clause) (n : ℕ) (item : Clause) → AreForms P B space members → n < length members → item ≡ get_or members n item → AreNoneBelow P space members clause n → (IsClauseOf P B space item → Subsumes P (clause_of space item) (clause_of space clause) → ⊥) → AreNoneBelow P space members clause (n + 1)
none_below_more P B space members clause n item forms inside is before none k d below sub = by_place (cases_lt k n)
  where
    form : IsClauseOf P B space item
    form = (each_place (IsForm P B space) members n item forms.each inside is).of_the_space

    by_place : (k < n) ⊎ (n ≤ k) → ⊥
    by_place (inl early) = before k d early sub
    by_place (inr late) =
        let last : k ≡ n = omega (arith, late, below) in
        none form (subst (λ x. Subsumes P (clause_of space x) (clause_of space clause)) (ap (λ j. get_or members j d) last ∙ (get_or_default members n d item inside ∙ sym is)) sub)

pub none_stands : (P : Protocol) (space : Space) (members : List Clause) (clause : Clause) → AreNoneBelow P space members clause (length members) → StandsFor P (clauses_of space members) (clause_of space clause) → ⊥
none_stands P space members clause none s =
    let below : s.listed.0 < length members = let long = length-map members (clause_of space) in let k = s.listed.1 in omega (arith, long, k) in
    none s.listed.0 clause below (subst (λ m. Subsumes P m (clause_of space clause)) (sym (sym (get_or-map (clause_of space) members s.listed.0 clause s.member below) ∙ s.listed.2)) s.below)
