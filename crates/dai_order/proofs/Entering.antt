-- A clause more in a list in print order.
use Rattle.std.proofs.Common.{◌≡◌, ◌≢◌, ◌<◌, ◌≤◌, ◌+◌, ℕ, zero, suc, true, false, List, [], ◌∷◌, length, get_or, map, sum, sym, ap, ◌∙◌, refl, subst, arith, inl, inr, ◌⊎◌}
use Rattle.std.specs.List.{Contains, insert}
use Rattle.std.specs.Ordering.{nat_cmp, ordering_then, ordering_reverse, is_lt, is_eq, MatchOrdering}
use Rattle.std.specs.Cmp.{IsTotalOrder}
use Rattle.std.specs.Cmp.Lexicographic.{slice_cmp}
use Rattle.std.specs.declared.cmp.Ordering.{Ordering}
use Rattle.std.specs.declared.cmp.Ordering.TheVariants.{Less, Equal, Greater}
use Rattle.std.proofs.lemmas.Bool.{cases_lt}
use Rattle.std.proofs.lemmas.List.{length-map, get_or-map, get_or_default}
use Rattle.std.proofs.lemmas.Cmp.{ranked, nat_cmp_total, nat_list_cmp_total, tied_itself, then_total, on_total}
use Rattle.dai_model.specs.Protocol.{Protocol}
use Rattle.dai_model.specs.Clause as Model
use Rattle.dai_model.specs.Template.{Bounds, IsTemplate}
use Rattle.dai_model.specs.Subsumption.{IsRenaming, print_order}
use Rattle.dai_model.proofs.Below.{Each, below-trans}
use Rattle.dai_model.proofs.Order.{Rising, Rising-at}
use Rattle.dai_model.proofs.OneCanonical.{renamed_back}
use Rattle.dai_template.specs.declared.clause.Clause.{Clause}
use Rattle.dai_template.specs.declared.space.Space.{Space}
use Rattle.dai_template.specs.Spaces.{IsClauseOf, clause_of}
use Rattle.dai_template.specs.Lists.{clauses_of, Comes}
use Rattle.dai_template.specs.Renamings.{IsCanonicalForm}
use Rattle.dai_template.proofs.Within.{Among, among_at, contained}
use Rattle.dai_order.specs.Forms.{IsForm, AreForms, HasGained, IsPlaceOf, StandsAt}

-- print order is total, and tells two clauses apart
pub print_total : IsTotalOrder print_order
print_total =
    then_total (on_total (λ (c : Model.Clause). sum c.counts) nat_cmp_total)
    (then_total (on_total (λ (c : Model.Clause). c.counts) nat_list_cmp_total)
    (then_total (on_total (λ (c : Model.Clause). length c.literals) nat_cmp_total)
    (on_total (λ (c : Model.Clause). c.literals) nat_list_cmp_total)))

tied_numbers : (m n : ℕ) (o : Ordering) → MatchOrdering o (m < n) (m ≡ n) (n < m) → o ≡ Equal → m ≡ n
tied_numbers m n Less h e = absurd (let none : ⊥ = cc in none)
tied_numbers m n Equal h e = h
tied_numbers m n Greater h e = absurd (let none : ⊥ = cc in none)

tied_both : (o p : Ordering) → ordering_then o p ≡ Equal → (o ≡ Equal) × (p ≡ Equal)
tied_both Less p e = absurd (let none : ⊥ = cc in none)
tied_both Equal p e = (refl, e)
tied_both Greater p e = absurd (let none : ⊥ = cc in none)

tied_lists : (xs ys : List ℕ) → slice_cmp nat_cmp xs ys ≡ Equal → xs ≡ ys
tied_lists [] [] e = refl
tied_lists [] (y ∷ ys) e = absurd (let none : ⊥ = cc in none)
tied_lists (x ∷ xs) [] e = absurd (let none : ⊥ = cc in none)
tied_lists (x ∷ xs) (y ∷ ys) e =
    let both = tied_both (nat_cmp x y) (slice_cmp nat_cmp xs ys) e in
    let head = tied_numbers x y (nat_cmp x y) (ranked x y (nat_cmp x y) refl) both.0 in
    let tail = tied_lists xs ys both.1 in
    λ i. head i ∷ tail i

pub tied : (c d : Model.Clause) → print_order c d ≡ Equal → c ≡ d
tied c d e =
    let first = tied_both (nat_cmp (sum c.counts) (sum d.counts)) _ e in
    let second = tied_both (slice_cmp nat_cmp c.counts d.counts) _ first.1 in
    let third = tied_both (nat_cmp (length c.literals) (length d.literals)) _ second.1 in
    let counts = tied_lists c.counts d.counts second.0 in
    let literals = tied_lists c.literals d.literals third.1 in
    λ i. record { counts = counts i; literals = literals i }

pub less_is : (o : Ordering) → is_lt o ≡ true → o ≡ Less
less_is Less e = refl
less_is Equal e = absurd (let none : ⊥ = cc in none)
less_is Greater e = absurd (let none : ⊥ = cc in none)

pub less_not : (o : Ordering) → is_lt o ≡ false → o ≢ Less
less_not Less e f = absurd (let none : ⊥ = cc in none)
less_not Equal e f = let none : ⊥ = cc in none
less_not Greater e f = let none : ⊥ = cc in none

other_way : (o p : Ordering) → o ≡ ordering_reverse p → p ≢ Less → p ≢ Equal → o ≡ Less
other_way o Less e f g = absurd (f refl)
other_way o Equal e f g = absurd (g refl)
other_way o Greater e f g = e

-- insertion
each_inserted : {X : Type 0} (P : X → Type 0) (xs : List X) (i : ℕ) (x : X) → P x → Each P xs → Each P (insert xs i x)
each_inserted P [] zero x h k = (h, tt)
each_inserted P [] (suc i) x h k = (h, tt)
each_inserted P (y ∷ ys) zero x h k = (h, k)
each_inserted P (y ∷ ys) (suc i) x h k = (k.0, each_inserted P ys i x h k.1)

each_by_place : {X : Type 0} (P : X → Type 0) (xs : List X) → ((k : ℕ) (d : X) → k < length xs → P (get_or xs k d)) → Each P xs
each_by_place P [] h = tt
each_by_place P (x ∷ xs) h = (h 0 x (omega arith), each_by_place P xs (λ k d below. h (suc k) d (omega (arith, below))))

rising_inserted : {X : Type 0} (R : X → X → Type 0) (xs : List X) (i : ℕ) (x : X) → Rising R xs → ((k : ℕ) (d : X) → k < i → k < length xs → R (get_or xs k d) x) → ((k : ℕ) (d : X) → i ≤ k → k < length xs → R x (get_or xs k d)) → Rising R (insert xs i x)
rising_inserted R [] zero x h before after = (tt, tt)
rising_inserted R [] (suc i) x h before after = (tt, tt)
rising_inserted R (y ∷ ys) zero x h before after = (each_by_place (R x) (y ∷ ys) (λ k d below. after k d (omega arith) below), h)
rising_inserted R (y ∷ ys) (suc i) x h before after = (
  each_inserted (R y) ys i x (before 0 y (omega arith) (omega arith)) h.0,
  rising_inserted R ys i x h.1 (λ k d l below. before (suc k) d (omega (arith, l)) (omega (arith, below))) (λ k d l below. after (suc k) d (omega (arith, l)) (omega (arith, below))),
)

among_new : {X Y : Type 0} (f : X → Y) (xs : List X) (i : ℕ) (x : X) → Among (f x) (map f (insert xs i x))
among_new f [] zero x = inl refl
among_new f [] (suc i) x = inl refl
among_new f (y ∷ ys) zero x = inl refl
among_new f (y ∷ ys) (suc i) x = inr (among_new f ys i x)

among_old : {X Y : Type 0} (f : X → Y) (xs : List X) (i : ℕ) (x : X) (z : Y) → Among z (map f xs) → Among z (map f (insert xs i x))
among_old f [] i x z h = absurd h
among_old f (y ∷ ys) zero x z h = inr h
among_old f (y ∷ ys) (suc i) x z (inl e) = inl e
among_old f (y ∷ ys) (suc i) x z (inr h) = inr (among_old f ys i x z h)

among_either : {X Y : Type 0} (f : X → Y) (xs : List X) (i : ℕ) (x : X) (z : Y) → Among z (map f (insert xs i x)) → Among z (map f xs) ⊎ (f x ≡ z)
among_either f [] zero x z (inl e) = inr e
among_either f [] zero x z (inr h) = absurd h
among_either f [] (suc i) x z (inl e) = inr e
among_either f [] (suc i) x z (inr h) = absurd h
among_either f (y ∷ ys) zero x z (inl e) = inr e
among_either f (y ∷ ys) zero x z (inr h) = inl h
among_either f (y ∷ ys) (suc i) x z (inl e) = inl (inl e)
among_either f (y ∷ ys) (suc i) x z (inr h) = later (among_either f ys i x z h)
  where
    later : Among z (map f ys) ⊎ (f x ≡ z) → Among z (map f (y ∷ ys)) ⊎ (f x ≡ z)
    later (inl k) = inl (inr k)
    later (inr e) = inr e

pub listed : {X : Type 0} (xs : List X) (x : X) → Contains xs x → Among x xs
listed xs x h = among_at x xs h.0 h.1 h.2

pub renaming_trans : (P : Protocol) (B : Bounds) (a b c : Model.Clause) → IsTemplate P B a → IsRenaming P a b → IsRenaming P b c → IsRenaming P a c
renaming_trans P B a b c t first second = record {
  same_shape = first.same_shape ∙ second.same_shape;
  as_many_literals = first.as_many_literals ∙ second.as_many_literals;
  permuted = below-trans P B a b c t first.permuted second.permuted;
}

-- a renaming of a clause has its canonical form
form_renames : (P : Protocol) (B : Bounds) (space : Space) (clause form : Clause) (d : Model.Clause) → IsClauseOf P B space clause → IsCanonicalForm P B space clause form → IsTemplate P B d → IsRenaming P (clause_of space clause) d → IsRenaming P d (clause_of space form)
form_renames P B space clause form d h f t r = renaming_trans P B d (clause_of space clause) (clause_of space form) t (renamed_back P B (clause_of space clause) d h.template t r) f.renaming

pub is_form : (P : Protocol) (B : Bounds) (space : Space) (clause form : Clause) → IsCanonicalForm P B space clause form → IsForm P B space form
is_form P B space clause form f = record { of_the_space = f.of_the_space; canonical = f.least }

-- what isn't below the clause comes after it, where it isn't the clause
comes_after : (space : Space) (clauses : List Clause) (form : Clause) (place : ℕ) → Rising (Comes space) clauses → IsPlaceOf space clauses form place → (place < length clauses → (d : Clause) → print_order (clause_of space (get_or clauses place d)) (clause_of space form) ≢ Equal) → (k : ℕ) (d : Clause) → place ≤ k → k < length clauses → Comes space form (get_or clauses k d)
comes_after space clauses form place rising is other k d from below = by_place (cases_lt place k)
  where
    here : place < length clauses → Comes space form (get_or clauses place d)
    here inside = other_way _ _ (print_total.antisymm (clause_of space form) (clause_of space (get_or clauses place d))) (is.after place d (omega arith) inside) (other inside d)

    by_place : (place < k) ⊎ (k ≤ place) → Comes space form (get_or clauses k d)
    by_place (inr last) =
        let same : place ≡ k = omega (arith, from, last) in
        subst (λ j. Comes space form (get_or clauses j d)) same (here (omega (arith, same, below)))
    by_place (inl earlier) = print_total.trans (clause_of space form) (clause_of space (get_or clauses place d)) (clause_of space (get_or clauses k d)) (here (omega (arith, earlier, below))) (Rising-at (Comes space) clauses place k d earlier below rising)

pub form_inserted : (P : Protocol) (B : Bounds) (space : Space) (clause form : Clause) (old new : List Clause) (place : ℕ) → IsClauseOf P B space clause → AreForms P B space old → IsCanonicalForm P B space clause form → IsPlaceOf space old form place → (StandsAt space old form place → ⊥) → new ≡ insert old place form → HasGained P B space (IsRenaming P (clause_of space clause)) old new
form_inserted P B space clause form old new place h forms f is other e = subst (HasGained P B space (IsRenaming P (clause_of space clause)) old) (sym e) (record {
  forms = record {
    each = each_inserted (IsForm P B space) old place form (is_form P B space clause form f) forms.each;
    rising = rising_inserted (Comes space) old place form forms.rising (λ k d l below. is.before k d l) (comes_after space old form place forms.rising is (λ below d equal. other (below, ap (clause_of space) (get_or_default old place form d below) ∙ tied (clause_of space (get_or old place d)) (clause_of space form) equal)));
  };
  only = λ d k. from_either d (among_either (clause_of space) old place form d (listed _ d k));
  keeps = λ d k. contained d _ (among_old (clause_of space) old place form d (listed _ d k));
  gains = λ d t r. record { form = clause_of space form; listed = contained _ _ (among_new (clause_of space) old place form); renaming = form_renames P B space clause form d h f t r };
})
  where
    from_either : (d : Model.Clause) → Among d (clauses_of space old) ⊎ (clause_of space form ≡ d) → Contains (clauses_of space old) d ⊎ IsRenaming P (clause_of space clause) d
    from_either d (inl k) = inl (contained d _ k)
    from_either d (inr same) = inr (subst (IsRenaming P (clause_of space clause)) same f.renaming)

pub form_there : (P : Protocol) (B : Bounds) (space : Space) (clause form : Clause) (old : List Clause) (place : ℕ) → IsClauseOf P B space clause → AreForms P B space old → IsCanonicalForm P B space clause form → StandsAt space old form place → HasGained P B space (IsRenaming P (clause_of space clause)) old old
form_there P B space clause form old place h forms f there = record {
  forms = forms;
  only = λ d k. inl k;
  keeps = λ d k. k;
  gains = λ d t r.
      let long = length-map old (clause_of space) in
      let below = there.0 in
      record {
        form = clause_of space form;
        listed = (place, omega (arith, long, below), get_or-map (clause_of space) old place form (clause_of space form) below ∙ there.1);
        renaming = form_renames P B space clause form d h f t r;
      };
}

-- halving
pub below_middle : (space : Space) (clauses : List Clause) (c x d : Clause) (middle k : ℕ) → Rising (Comes space) clauses → middle < length clauses → x ≡ get_or clauses middle x → Comes space x c → k < middle + 1 → Comes space (get_or clauses k d) c
below_middle space clauses c x d middle k rising inside is before below = by_place (cases_lt k middle)
  where
    there : Comes space (get_or clauses middle d) c
    there = subst (λ y. Comes space y c) (is ∙ get_or_default clauses middle x d inside) before

    by_place : (k < middle) ⊎ (middle ≤ k) → Comes space (get_or clauses k d) c
    by_place (inl earlier) = print_total.trans (clause_of space (get_or clauses k d)) (clause_of space (get_or clauses middle d)) (clause_of space c) (Rising-at (Comes space) clauses k middle d earlier inside rising) there
    by_place (inr last) = subst (λ j. Comes space (get_or clauses j d) c) (let same : middle ≡ k = omega (arith, below, last) in same) there

pub above_middle : (space : Space) (clauses : List Clause) (c x d : Clause) (middle k : ℕ) → Rising (Comes space) clauses → middle < length clauses → x ≡ get_or clauses middle x → print_order (clause_of space x) (clause_of space c) ≢ Less → middle ≤ k → k < length clauses → print_order (clause_of space (get_or clauses k d)) (clause_of space c) ≢ Less
above_middle space clauses c x d middle k rising inside is other from below less = by_place (cases_lt middle k)
  where
    same : x ≡ get_or clauses middle d
    same = is ∙ get_or_default clauses middle x d inside

    by_place : (middle < k) ⊎ (k ≤ middle) → ⊥
    by_place (inl later) = other (subst (λ y. Comes space y c) (sym same) (print_total.trans (clause_of space (get_or clauses middle d)) (clause_of space (get_or clauses k d)) (clause_of space c) (Rising-at (Comes space) clauses middle k d later below rising) less))
    by_place (inr last) = other (subst (λ y. Comes space y c) (sym same) (subst (λ j. Comes space (get_or clauses j d) c) (let one : k ≡ middle = omega (arith, from, last) in one) less))

pub equal_is : (o : Ordering) → is_eq o ≡ true → o ≡ Equal
equal_is Less e = absurd (let none : ⊥ = cc in none)
equal_is Equal e = refl
equal_is Greater e = absurd (let none : ⊥ = cc in none)

equal_not : (o : Ordering) → is_eq o ≡ false → o ≢ Equal
equal_not Less e f = let none : ⊥ = cc in none
equal_not Equal e f = let none : ⊥ = cc in none
equal_not Greater e f = let none : ⊥ = cc in none

pub stands : (space : Space) (clauses : List Clause) (c x : Clause) (place : ℕ) (o : Ordering) → place < length clauses → x ≡ get_or clauses place x → o ≡ print_order (clause_of space x) (clause_of space c) → is_eq o ≡ true → StandsAt space clauses c place
stands space clauses c x place o below is compared e =
    (below, ap (clause_of space) (sym (is ∙ get_or_default clauses place x c below)) ∙ tied (clause_of space x) (clause_of space c) (sym compared ∙ equal_is o e))

pub stands_not : (space : Space) (clauses : List Clause) (c x : Clause) (place : ℕ) (o : Ordering) → place < length clauses → x ≡ get_or clauses place x → o ≡ print_order (clause_of space x) (clause_of space c) → is_eq o ≡ false → StandsAt space clauses c place → ⊥
stands_not space clauses c x place o below is compared e h =
    let same : clause_of space x ≡ clause_of space c = ap (clause_of space) (is ∙ get_or_default clauses place x c below) ∙ h.1 in
    equal_not o e (compared ∙ (ap (λ y. print_order y (clause_of space c)) same ∙ tied_itself print_total (clause_of space c)))
