-- Struck members go, one after the other.
use Rattle.std.proofs.Common.{inl, inr, ◌≡◌, ℕ, zero, suc, ◌<◌, ◌≤◌, ◌+◌, Bool, true, false, List, [], ◌∷◌, length, get_or, map, subst, sym, ◌∙◌, ap, refl, arith, ⊎_elim}
use Rattle.std.specs.Prelude.{◌⊎◌, ◌==◌, slice_index_or, sum}
use Rattle.std.specs.List.{Contains}
use Rattle.std.specs.Ordering.{nat_cmp, ordering_then, ordering_index, MatchOrdering}
use Rattle.std.specs.Cmp.{IsTotalOrder}
use Rattle.std.specs.Cmp.Lexicographic.{slice_cmp}
use Rattle.std.specs.declared.cmp.Ordering.{Ordering}
use Rattle.std.specs.declared.cmp.Ordering.TheVariants.{Less, Equal, Greater}
use Rattle.std.proofs.lemmas.Bool.{cases_lt, false≢true}
use Rattle.std.proofs.lemmas.Cmp.{ranked, then_total, on_total, nat_cmp_total, nat_list_cmp_total, tied_itself}
use Rattle.std.proofs.lemmas.List.{get_or-map, length-map}
use Rattle.std.proofs.lemmas.List.Elements.{Contains-get_or}
use Rattle.dai_model.specs.Protocol.{Protocol}
use Rattle.dai_model.specs.Clause as Model
use Rattle.dai_model.specs.Template.{Bounds, IsTemplate}
use Rattle.dai_model.specs.Subsumption.{Subsumes, IsRenaming, IsCanonical, print_order}
use Rattle.dai_model.proofs.Below.{Each, below-refl, below-trans}
use Rattle.dai_model.proofs.Order.{Rising}
use Rattle.dai_model.proofs.Ranks.{rank_no_greater, is_renaming}
use Rattle.dai_model.proofs.OneCanonical.{one_canonical}
use Rattle.dai_template.specs.declared.clause.Clause.{Clause}
use Rattle.dai_template.specs.declared.space.Space.{Space}
use Rattle.dai_template.specs.Spaces.{clause_of}
use Rattle.dai_template.specs.Lists.{clauses_of, Comes}
use Rattle.dai_order.specs.Forms.{IsForm}
use Rattle.dai_order.specs.Antichains.{StandsFor, IsAntichain, member_at, no_clause}
use Rattle.dai_weaken.specs.Weakening.{IsNoneStruck, IsWithoutStruck, IsWithout}

pub bool_cases : (b : Bool) → (b ≡ true) ⊎ (b ≡ false)
bool_cases true = inl refl
bool_cases false = inr refl

-- below the next number: below this one, or it
pub next_cases : (k n : ℕ) → k < n + 1 → (k < n) ⊎ (k ≡ n)
next_cases k n h = by (cases_lt k n)
  where
    by : (k < n) ⊎ (n ≤ k) → (k < n) ⊎ (k ≡ n)
    by (inl less) = inl less
    by (inr most) = inr (omega (arith, h, most))

-- the print order tells clauses apart
pub print_order_total : IsTotalOrder print_order
print_order_total =
    then_total (on_total (λ (c : Model.Clause). sum c.counts) nat_cmp_total)
    (then_total (on_total (λ (c : Model.Clause). c.counts) nat_list_cmp_total)
    (then_total (on_total (λ (c : Model.Clause). length c.literals) nat_cmp_total)
    (on_total (λ (c : Model.Clause). c.literals) nat_list_cmp_total)))

pub never_less : (c d : Model.Clause) → c ≡ d → print_order c d ≡ Less → ⊥
never_less c d e less = let tied = tied_itself print_order_total d in let own = subst (λ (b : Model.Clause). print_order b d ≡ Less) e less in cc

first_tied : (o p : Ordering) → ordering_then o p ≡ Equal → (o ≡ Equal) × (p ≡ Equal)
first_tied Less p e = absurd (let none : ⊥ = cc in none)
first_tied Equal p e = (refl, e)
first_tied Greater p e = absurd (let none : ⊥ = cc in none)

same_number : (m n : ℕ) (o : Ordering) → MatchOrdering o (m < n) (m ≡ n) (n < m) → o ≡ Equal → m ≡ n
same_number m n Less h e = absurd (let none : ⊥ = cc in none)
same_number m n Equal h e = h
same_number m n Greater h e = absurd (let none : ⊥ = cc in none)

same_numbers : (xs ys : List ℕ) → slice_cmp nat_cmp xs ys ≡ Equal → xs ≡ ys
same_numbers [] [] e = refl
same_numbers [] (y ∷ ys) e = absurd (let none : ⊥ = cc in none)
same_numbers (x ∷ xs) [] e = absurd (let none : ⊥ = cc in none)
same_numbers (x ∷ xs) (y ∷ ys) e =
    let both = first_tied (nat_cmp x y) (slice_cmp nat_cmp xs ys) e in
    let head = same_number x y (nat_cmp x y) (ranked x y (nat_cmp x y) refl) both.0 in
    let tail = same_numbers xs ys both.1 in
    λ i. head i ∷ tail i

pub equal_clauses : (c d : Model.Clause) → print_order c d ≡ Equal → c ≡ d
equal_clauses c d e =
    let numbers = slice_cmp nat_cmp c.counts d.counts in
    let literals = slice_cmp nat_cmp c.literals d.literals in
    let many = nat_cmp (length c.literals) (length d.literals) in
    let one = first_tied (nat_cmp (sum c.counts) (sum d.counts)) (ordering_then numbers (ordering_then many literals)) e in
    let two = first_tied numbers (ordering_then many literals) one.1 in
    let three = first_tied many literals two.1 in
    let counts = same_numbers c.counts d.counts two.0 in
    let same = same_numbers c.literals d.literals three.1 in
    λ i. record { counts = counts i; literals = same i }

pub itself_equal : (c d : Model.Clause) → c ≡ d → print_order c d ≡ Equal
itself_equal c d e = subst (λ (b : Model.Clause). print_order c b ≡ Equal) e (tied_itself print_order_total c)

pub equal_by : (o : Ordering) → true ≡ (ordering_index o == 1) → o ≡ Equal
equal_by Less e = absurd (false≢true (sym e))
equal_by Equal e = refl
equal_by Greater e = absurd (false≢true (sym e))

-- members
each_member : {X : Type 0} (Q : X → Type 0) (xs : List X) → Each Q xs → (x : X) → Contains xs x → Q x
each_member Q [] h x there = absurd (let less = there.1 in omega (arith, less))
each_member Q (y ∷ ys) h x (zero, below, is) = subst Q is h.0
each_member Q (y ∷ ys) h x (suc k, below, is) = each_member Q ys h.1 x (k, omega (arith, below), is)

from_map : {X Y : Type 0} (f : X → Y) (xs : List X) (y : Y) → Contains (map f xs) y → (x : X) × Contains xs x × (f x ≡ y)
from_map f [] y there = absurd (let less = there.1 in omega (arith, less))
from_map f (x ∷ xs) y (zero, below, is) = (x, (0, omega arith, refl), is)
from_map f (x ∷ xs) y (suc k, below, is) =
    let w = from_map f xs y (k, omega (arith, below), is) in
    let inside = w.1.1 in
    (w.0, (suc w.1.0, omega (arith, inside), w.1.2), w.2)

rising_apart : {X : Type 0} (R : X → X → Type 0) (xs : List X) (i j : ℕ) (d : X) → i < j → j < length xs → Rising R xs → R (get_or xs i d) (get_or xs j d)
rising_apart R [] i j d before below h = absurd (omega (arith, below))
rising_apart R (x ∷ xs) zero zero d before below h = absurd (omega (arith, before))
rising_apart R (x ∷ xs) zero (suc j) d before below h = each_member (R x) xs h.0 (get_or xs j d) (Contains-get_or xs j d (omega (arith, below)))
rising_apart R (x ∷ xs) (suc i) zero d before below h = absurd (omega (arith, before))
rising_apart R (x ∷ xs) (suc i) (suc j) d before below h = rising_apart R xs i j d (omega (arith, before)) (omega (arith, below)) h.1

module _ (P : Protocol) (B : Bounds) (space : Space) (clauses : List Clause) (antichain : IsAntichain P B space clauses) where
  pub member_form : (c : Clause) → Contains clauses c → IsForm P B space c
  member_form c there = each_member (IsForm P B space) clauses antichain.forms.each c there

  pub member_template : (m : Model.Clause) → Contains (clauses_of space clauses) m → IsTemplate P B m
  member_template m there = let own = from_map (clause_of space) clauses m there in subst (IsTemplate P B) own.2 (member_form own.0 own.1).of_the_space.template

  pub member_canonical : (m : Model.Clause) → Contains (clauses_of space clauses) m → IsCanonical P B m
  member_canonical m there = let own = from_map (clause_of space) clauses m there in subst (IsCanonical P B) own.2 (member_form own.0 own.1).canonical

  pub in_order : (i j : ℕ) (d : Model.Clause) → i < j → j < length (clauses_of space clauses) → print_order (get_or (clauses_of space clauses) i d) (get_or (clauses_of space clauses) j d) ≡ Less
  in_order i j d before below = by clauses antichain.forms.rising (let e = length-map clauses (clause_of space) in omega (arith, e, below))
    where
      by : (cs : List Clause) → Rising (Comes space) cs → j < length cs → print_order (get_or (clauses_of space cs) i d) (get_or (clauses_of space cs) j d) ≡ Less
      by [] rising inside = absurd (omega (arith, inside))
      by (c ∷ cs) rising inside =
          let first = get_or-map (clause_of space) (c ∷ cs) i c d (omega (arith, before, inside)) in
          let second = get_or-map (clause_of space) (c ∷ cs) j c d inside in
          subst (λ (m : Model.Clause). print_order m (get_or (clauses_of space (c ∷ cs)) j d) ≡ Less) (sym first) (subst (λ (m : Model.Clause). print_order (clause_of space (get_or (c ∷ cs) i c)) m ≡ Less) (sym second) (rising_apart (Comes space) (c ∷ cs) i j c before inside rising))

  pub each_once : (i j : ℕ) → i < length clauses → j < length clauses → member_at space clauses i ≡ member_at space clauses j → i ≡ j
  each_once i j below inside same = by_place (cases_lt i j) (cases_lt j i)
    where
      long : length (clauses_of space clauses) ≡ length clauses
      long = length-map clauses (clause_of space)

      apart : (k l : ℕ) → k < l → l < length clauses → member_at space clauses k ≡ member_at space clauses l → ⊥
      apart k l before within e = let known = long in never_less (member_at space clauses k) (member_at space clauses l) e (in_order k l no_clause before (omega (arith, known, within)))

      by_place : (i < j) ⊎ (j ≤ i) → (j < i) ⊎ (i ≤ j) → i ≡ j
      by_place (inl less) other = absurd (apart i j less inside same)
      by_place (inr most) (inl more) = absurd (apart j i more below (sym same))
      by_place (inr most) (inr no_more) = omega (arith, most, no_more)

  pub listed_member : (k : ℕ) → k < length clauses → Contains (clauses_of space clauses) (member_at space clauses k)
  listed_member k below = let e = length-map clauses (clause_of space) in Contains-get_or (clauses_of space clauses) k no_clause (omega (arith, e, below))

  -- a member stands for itself
  pub member_stands : (m : Model.Clause) → Contains (clauses_of space clauses) m → StandsFor P (clauses_of space clauses) m
  member_stands m there = record { member = m; listed = there; below = below-refl P B m (member_template m there) }

  pub one_member : (c d : Model.Clause) → Contains (clauses_of space clauses) c → Contains (clauses_of space clauses) d → IsRenaming P d c → d ≡ c
  one_member c d there other r = one_canonical P B d c (member_template d other) (member_template c there) r (member_canonical d other) (member_canonical c there)

module _ (P : Protocol) (B : Bounds) (space : Space) (old : List Clause) (flags : List Bool) (first : IsAntichain P B space old) where
  pub without_none : IsWithoutStruck P B space old flags 0 old
  without_none = record {
    antichain = first;
    stands = λ c t. (λ h. (h, λ k from below is renaming. absurd (omega (arith, from))), λ h. h.0);
  }

  none_more : (n : ℕ) (c : Model.Clause) → IsNoneStruck P space old flags n c → (slice_index_or flags n false ≡ true → IsRenaming P (member_at space old n) c → ⊥) → IsNoneStruck P space old flags (n + 1) c
  none_more n c rest here k from below is renaming =
      ⊎_elim (λ less. rest k less below is renaming) (λ same. here (ap (λ i. slice_index_or flags i false) (sym same) ∙ is) (subst (λ i. IsRenaming P (member_at space old i) c) same renaming)) (next_cases k n from)

  none_fewer : (n : ℕ) (c : Model.Clause) → IsNoneStruck P space old flags (n + 1) c → IsNoneStruck P space old flags n c
  none_fewer n c h k from below is renaming = h k (omega (arith, from)) below is renaming

  pub without_this : (n : ℕ) (kept new : List Clause) → n < length old → slice_index_or flags n false ≡ true → IsWithoutStruck P B space old flags n kept → IsWithout P B space kept (member_at space old n) new → IsWithoutStruck P B space old flags (n + 1) new
  without_this n kept new inside is h w = record {
    antichain = w.antichain;
    stands = λ c t. (
      λ there.
          let known = (h.stands c t).0 (w.others.from_old c t there) in
          (known.0, none_more n c known.1 (λ struck renaming. w.others.not_gone c t there renaming)),
      λ there.
          w.others.all_others c t ((h.stands c t).1 (there.0, none_fewer n c there.1)) (λ renaming. there.1 n (omega arith) inside is renaming),
    );
  }

  pub without_other : (n : ℕ) (kept new : List Clause) → slice_index_or flags n false ≡ false → new ≡ kept → IsWithoutStruck P B space old flags n kept → IsWithoutStruck P B space old flags (n + 1) new
  without_other n kept new not e h = subst (λ (xs : List Clause). IsWithoutStruck P B space old flags (n + 1) xs) (sym e) (record {
    antichain = h.antichain;
    stands = λ c t. (
      λ there.
          let known = (h.stands c t).0 there in
          (known.0, none_more n c known.1 (λ struck renaming. false≢true (sym not ∙ struck))),
      λ there.
          (h.stands c t).1 (there.0, none_fewer n c there.1),
    );
  })

  -- a member that hasn't gone is a member still
  pub member_still : (n : ℕ) (kept : List Clause) → n < length old → IsWithoutStruck P B space old flags n kept → Contains (clauses_of space kept) (member_at space old n)
  member_still n kept inside h =
      let c = member_at space old n in
      let there = listed_member P B space old first n inside in
      let t = member_template P B space old first c there in
      let none : IsNoneStruck P space old flags n c = λ k from below is renaming.
      let same = one_member P B space old first c (member_at space old k) there (listed_member P B space old first k below) renaming in
      let place = each_once P B space old first k n below inside same in
      omega (arith, from, place) in
      let stands = (h.stands c t).1 (member_stands P B space old first c there, none) in
      let b = stands.member in
      let own = member_template P B space kept h.antichain b stands.listed in
      let before = (h.stands b own).0 (member_stands P B space kept h.antichain b stands.listed) in
      let a = before.0.member in
      let same : a ≡ c = first.apart a c before.0.listed there (below-trans P B a b c (member_template P B space old first a before.0.listed) before.0.below stands.below) in
      let back : Subsumes P c b = subst (λ (m : Model.Clause). Subsumes P m b) same before.0.below in
      let renaming = is_renaming P B b c own t stands.below (rank_no_greater P B c b t own back) in
      subst (Contains (clauses_of space kept)) (one_canonical P B b c own t renaming (member_canonical P B space kept h.antichain b stands.listed) (member_canonical P B space old first c there)) stands.listed

-- the place of a clause
pub member_is : (space : Space) (members : List Clause) (n : ℕ) (c : Clause) → n < length members → c ≡ get_or members n c → member_at space members n ≡ clause_of space c
member_is space members n c below is = get_or-map (clause_of space) members n c no_clause below ∙ ap (clause_of space) (sym is)

pub nowhere : (space : Space) (clauses : List Clause) (c : Clause) → ((k : ℕ) (d : Clause) → k < length clauses → print_order (clause_of space (get_or clauses k d)) (clause_of space c) ≡ Equal → ⊥) → Contains (clauses_of space clauses) (clause_of space c) → ⊥
nowhere space clauses c none there =
    let own = from_map (clause_of space) clauses (clause_of space c) there in
    none own.1.0 own.0 own.1.1 (itself_equal (clause_of space (get_or clauses own.1.0 own.0)) (clause_of space c) (ap (clause_of space) own.1.2 ∙ own.2))
