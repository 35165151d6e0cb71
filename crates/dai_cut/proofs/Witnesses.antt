-- A formula that is true has few witnesses, and code that leaves a structure too: at most so many of each type as it
-- has variables that are existential in force.
use Rattle.std.proofs.Common.{◌≡◌, ◌<◌, ◌≤◌, ◌+◌, ℕ, zero, suc, ◌&&◌, ◌||◌, Bool, true, false, not, cond, List, [], ◌∷◌, ◌++◌, Option, Some, None, sym, ◌∙◌, ap, refl, arith}
use Rattle.std.specs.Prelude.{nat_eq, if◌then◌else◌}
use Rattle.std.specs.Option.{option_and_then, IfSome}
use Rattle.std.proofs.lemmas.List.Sums.{sum_by-append, sum_by-cons}
use Rattle.dai_model.specs.Formula.{Formula, truth, relates, same, less, less_or_same, negation, conjunction, disjunction, implication, equivalence, universal, existential, Formulas, no_formulas, with_formula, Statement, requirement, update_relation, update_individual, conditional, Statements, no_statements, with_statement}
use Rattle.dai_model.specs.Protocol.{Protocol}
use Rattle.dai_model.specs.Structure.{Structure, size_of}
use Rattle.dai_model.specs.Value.{Environment, bind, every, implies, value_of, all_hold, some_holds}
use Rattle.dai_model.specs.Execution.{after_statement, after_statements}
use Rattle.dai_model.specs.Profile.{some_have_quantifier, is_exists_forall, are_exists_forall, witnesses, witnesses_of_each, witnesses_in, requirements_of, requirements_in, IsDirect, AreDirect}
use Rattle.dai_model.specs.Sizes.{count_of}
use Rattle.dai_model.proofs.Frame.{chosen}
use Rattle.dai_model.proofs.Quantifiers.{every_is_for_all, some_is_for_some}
use Rattle.dai_model.proofs.Typed.{and_left, and_right}
use Rattle.dai_cut.specs.Among.{value_among, all_hold_among, some_holds_among, witnessed, HasWitnesses, HaveWitnesses, IfElse}
use Rattle.dai_cut.specs.Cut.{Element, count_in, HoldsEach}
use Rattle.dai_cut.proofs.Embedded.{both}
use Rattle.dai_cut.proofs.Ranging.{from_not, free_same_each, universal_same}

pub count_of-append : (sort : ℕ) (xs ys : List ℕ) → count_of sort (xs ++ ys) ≡ count_of sort xs + count_of sort ys
count_of-append sort xs ys = sum_by-append (λ t. cond (nat_eq t sort) 1 0) xs ys

pub count_of-cons : (sort x : ℕ) (xs : List ℕ) → count_of sort (x ∷ xs) ≡ cond (nat_eq x sort) 1 0 + count_of sort xs
count_of-cons sort x xs = sum_by-cons (λ t. cond (nat_eq t sort) 1 0) x xs

pub count_in-append : (sort : ℕ) (ms ns : List Element) → count_in sort (ms ++ ns) ≡ count_in sort ms + count_in sort ns
count_in-append sort ms ns = sum_by-append (λ (m : Element). cond (nat_eq m.sort sort) 1 0) ms ns

pub count_in-cons : (sort : ℕ) (m : Element) (ms : List Element) → count_in sort (m ∷ ms) ≡ cond (nat_eq m.sort sort) 1 0 + count_in sort ms
count_in-cons sort m ms = sum_by-cons (λ (n : Element). cond (nat_eq n.sort sort) 1 0) m ms

pub count_in-none : (sort : ℕ) → count_in sort [] ≡ 0
count_in-none sort = refl

pub holds_left : (chosen_ones : ℕ → ℕ → Bool) (ms ns : List Element) → HoldsEach chosen_ones (ms ++ ns) → HoldsEach chosen_ones ms
holds_left chosen_ones [] ns h = tt
holds_left chosen_ones (m ∷ ms) ns h = (h.0, holds_left chosen_ones ms ns h.1)

pub holds_right : (chosen_ones : ℕ → ℕ → Bool) (ms ns : List Element) → HoldsEach chosen_ones (ms ++ ns) → HoldsEach chosen_ones ns
holds_right chosen_ones [] ns h = h
holds_right chosen_ones (m ∷ ms) ns h = holds_right chosen_ones ms ns h.1

-- elements, at most so many of each type, that make the goal true of every set that holds them
pub record Found (goal : (ℕ → ℕ → Bool) → Type 0) (sorts : List ℕ) : Type 0 where
  pub marks : List Element
  pub few : (sort : ℕ) → count_in sort marks ≤ count_of sort sorts
  pub enough : (chosen_ones : ℕ → ℕ → Bool) → HoldsEach chosen_ones marks → goal chosen_ones

found_none : (goal : (ℕ → ℕ → Bool) → Type 0) (sorts : List ℕ) → ((chosen_ones : ℕ → ℕ → Bool) → goal chosen_ones) → Found goal sorts
found_none goal sorts h = record { marks = []; few = λ sort. (let e = count_in-none sort in omega (arith, e)); enough = λ chosen_ones k. h chosen_ones }

found_by : (goal other : (ℕ → ℕ → Bool) → Type 0) (sorts : List ℕ) → ((chosen_ones : ℕ → ℕ → Bool) → goal chosen_ones → other chosen_ones) → Found goal sorts → Found other sorts
found_by goal other sorts step r = record { marks = r.marks; few = r.few; enough = λ chosen_ones k. step chosen_ones (r.enough chosen_ones k) }

found_first : (goal : (ℕ → ℕ → Bool) → Type 0) (A B : List ℕ) → Found goal A → Found goal (A ++ B)
found_first goal A B r = record { marks = r.marks; few = λ sort. (let e = count_of-append sort A B in let k = r.few sort in omega (arith, e, k)); enough = r.enough }

found_second : (goal : (ℕ → ℕ → Bool) → Type 0) (A B : List ℕ) → Found goal B → Found goal (A ++ B)
found_second goal A B r = record { marks = r.marks; few = λ sort. (let e = count_of-append sort A B in let k = r.few sort in omega (arith, e, k)); enough = r.enough }

found_both : (goal other both_goals : (ℕ → ℕ → Bool) → Type 0) (A B : List ℕ) → ((chosen_ones : ℕ → ℕ → Bool) → goal chosen_ones → other chosen_ones → both_goals chosen_ones) → Found goal A → Found other B → Found both_goals (A ++ B)
found_both goal other both_goals A B join r q = record {
  marks = r.marks ++ q.marks;
  few = λ sort. (let e = count_of-append sort A B in let f = count_in-append sort r.marks q.marks in let k = r.few sort in let l = q.few sort in omega (arith, e, f, k, l));
  enough = λ chosen_ones k. join chosen_ones (r.enough chosen_ones (holds_left chosen_ones r.marks q.marks k)) (q.enough chosen_ones (holds_right chosen_ones r.marks q.marks k));
}

found_one : (goal other : (ℕ → ℕ → Bool) → Type 0) (sort e : ℕ) (sorts : List ℕ) → ((chosen_ones : ℕ → ℕ → Bool) → chosen_ones sort e ≡ true → goal chosen_ones → other chosen_ones) → Found goal sorts → Found other (sort ∷ sorts)
found_one goal other sort e sorts step r =
    let here : Element = record { sort = sort; number = e } in
    record {
      marks = here ∷ r.marks;
      few = λ t. (let a = count_in-cons t here r.marks in let b = count_of-cons t sort sorts in let k = r.few t in omega (arith, a, b, k));
      enough = λ chosen_ones k. step chosen_ones k.0 (r.enough chosen_ones k.1);
    }

-- values and parities
turned_value : (b even : Bool) → not b ≡ even → b ≡ not even
turned_value true even h = ap not h
turned_value false even h = ap not h

turned_back : (b even : Bool) → b ≡ not even → not b ≡ even
turned_back true true h = sym h
turned_back true false h = refl
turned_back false true h = refl
turned_back false false h = sym h

first_fails : (a b : Bool) → a ≡ false → (a && b) ≡ false
first_fails true b h = absurd (let k : ⊥ = cc in k)
first_fails false b h = refl

second_fails : (a b : Bool) → b ≡ false → (a && b) ≡ false
second_fails true b h = h
second_fails false b h = refl

first_holds : (a b : Bool) → a ≡ true → (a || b) ≡ true
first_holds true b h = refl
first_holds false b h = absurd (let k : ⊥ = cc in k)

second_holds : (a b : Bool) → b ≡ true → (a || b) ≡ true
second_holds true b h = refl
second_holds false b h = h

both_fail : (a b : Bool) → a ≡ false → b ≡ false → (a || b) ≡ false
both_fail true b h k = h
both_fail false b h k = k

left_false : (a b : Bool) → a ≡ false → implies a b ≡ true
left_false true b h = absurd (let k : ⊥ = cc in k)
left_false false b h = refl

right_true : (a b : Bool) → b ≡ true → implies a b ≡ true
right_true true b h = h
right_true false b h = refl

not_implied : (a b : Bool) → a ≡ true → b ≡ false → implies a b ≡ false
not_implied true b h k = k
not_implied false b h k = absurd (let n : ⊥ = cc in n)

found_and : (even a b : Bool) (g h : (ℕ → ℕ → Bool) → Bool) (A B : List ℕ) → (a && b) ≡ even → (a ≡ even → Found (λ c. g c ≡ even) A) → (b ≡ even → Found (λ c. h c ≡ even) B) → Found (λ c. (g c && h c) ≡ even) (A ++ B)
found_and true true b g h A B e first second = found_both (λ c. g c ≡ true) (λ c. h c ≡ true) (λ c. (g c && h c) ≡ true) A B (λ c i k. both (g c) (h c) i k) (first refl) (second e)
found_and true false b g h A B e first second = absurd (let k : ⊥ = cc in k)
found_and false true b g h A B e first second = found_second (λ c. (g c && h c) ≡ false) A B (found_by (λ c. h c ≡ false) (λ c. (g c && h c) ≡ false) B (λ c k. second_fails (g c) (h c) k) (second e))
found_and false false b g h A B e first second = found_first (λ c. (g c && h c) ≡ false) A B (found_by (λ c. g c ≡ false) (λ c. (g c && h c) ≡ false) A (λ c k. first_fails (g c) (h c) k) (first refl))

found_or : (even a b : Bool) (g h : (ℕ → ℕ → Bool) → Bool) (A B : List ℕ) → (a || b) ≡ even → (a ≡ even → Found (λ c. g c ≡ even) A) → (b ≡ even → Found (λ c. h c ≡ even) B) → Found (λ c. (g c || h c) ≡ even) (A ++ B)
found_or true true b g h A B e first second = found_first (λ c. (g c || h c) ≡ true) A B (found_by (λ c. g c ≡ true) (λ c. (g c || h c) ≡ true) A (λ c k. first_holds (g c) (h c) k) (first refl))
found_or true false b g h A B e first second = found_second (λ c. (g c || h c) ≡ true) A B (found_by (λ c. h c ≡ true) (λ c. (g c || h c) ≡ true) B (λ c k. second_holds (g c) (h c) k) (second e))
found_or false true b g h A B e first second = absurd (let k : ⊥ = cc in k)
found_or false false b g h A B e first second = found_both (λ c. g c ≡ false) (λ c. h c ≡ false) (λ c. (g c || h c) ≡ false) A B (λ c i k. both_fail (g c) (h c) i k) (first refl) (second e)

found_implies : (even a b : Bool) (g h : (ℕ → ℕ → Bool) → Bool) (A B : List ℕ) → implies a b ≡ even → (a ≡ not even → Found (λ c. g c ≡ not even) A) → (b ≡ even → Found (λ c. h c ≡ even) B) → Found (λ c. implies (g c) (h c) ≡ even) (A ++ B)
found_implies true true b g h A B e first second = found_second (λ c. implies (g c) (h c) ≡ true) A B (found_by (λ c. h c ≡ true) (λ c. implies (g c) (h c) ≡ true) B (λ c k. right_true (g c) (h c) k) (second e))
found_implies true false b g h A B e first second = found_first (λ c. implies (g c) (h c) ≡ true) A B (found_by (λ c. g c ≡ false) (λ c. implies (g c) (h c) ≡ true) A (λ c k. left_false (g c) (h c) k) (first refl))
found_implies false true b g h A B e first second = found_both (λ c. g c ≡ true) (λ c. h c ≡ false) (λ c. implies (g c) (h c) ≡ false) A B (λ c i k. not_implied (g c) (h c) i k) (first refl) (second e)
found_implies false false b g h A B e first second = absurd (let k : ⊥ = cc in k)

-- an element that fails, where not every one passes
failing : (n : ℕ) (test : ℕ → Bool) (a b : Bool) → a ≡ every n test → b ≡ test n → (a && b) ≡ false → (every n test ≡ false → (e : ℕ) × (e < n) × (test e ≡ false)) → (e : ℕ) × (e < suc n) × (test e ≡ false)
failing n test true b here last h rec = (n, omega arith, sym last ∙ h)
failing n test false b here last h rec = let found = rec (sym here) in let below = found.1 in (found.0, omega (arith, below), found.2)

pub one_fails : (n : ℕ) (test : ℕ → Bool) → every n test ≡ false → (e : ℕ) × (e < n) × (test e ≡ false)
one_fails zero test h = absurd (let k : ⊥ = cc in k)
one_fails (suc n) test h = failing n test (every n test) (test n) refl refl h (λ k. one_fails n test k)

fails_at : (n : ℕ) (test : ℕ → Bool) (e : ℕ) → e < n → test e ≡ false → every n test ≡ false
fails_at n test e below h = by_value (every n test) refl
  where
    by_value : (b : Bool) → every n test ≡ b → every n test ≡ false
    by_value true k = let passes = (every_is_for_all n test).0 k e below in absurd (let m : ⊥ = cc in m)
    by_value false k = k

mutual
  pub find : (s : Structure) (even : Bool) (env : Environment) (f : Formula) → is_exists_forall even f ≡ true → value_of s env f ≡ even → Found (λ c. value_among s (witnessed c) even env f ≡ even) (witnesses even f)
  find s even env (truth b) h v = found_none _ _ (λ c. v)
  find s even env (relates r ts) h v = found_none _ _ (λ c. v)
  find s even env (same a b) h v = found_none _ _ (λ c. v)
  find s even env (less a b) h v = found_none _ _ (λ c. v)
  find s even env (less_or_same a b) h v = found_none _ _ (λ c. v)
  find s even env (negation f) h v =
      found_by (λ c. value_among s (witnessed c) (not even) env f ≡ not even) (λ c. not (value_among s (witnessed c) (not even) env f) ≡ even) (witnesses (not even) f)
      (λ c k. turned_back (value_among s (witnessed c) (not even) env f) even k)
      (find s (not even) env f h (turned_value (value_of s env f) even v))
  find s even env (conjunction fs) h v = find_all s even env fs h v
  find s even env (disjunction fs) h v = find_some s even env fs h v
  find s even env (implication f g) h v =
      found_implies even (value_of s env f) (value_of s env g) (λ c. value_among s (witnessed c) (not even) env f) (λ c. value_among s (witnessed c) even env g) (witnesses (not even) f) (witnesses even g) v
      (λ e. find s (not even) env f (and_left (is_exists_forall (not even) f) (is_exists_forall even g) h) e)
      (λ e. find s even env g (and_right (is_exists_forall (not even) f) (is_exists_forall even g) h) e)
  find s even env (equivalence fs) h v = found_none _ _ (λ c. (free_same_each s (witnessed c) even env fs (from_not (some_have_quantifier fs) h)).2 ∙ v)
  find s true env (universal v sort f) h value = found_none _ _ (λ c. universal_same s (witnessed c) true env (universal v sort f) (λ t e. refl) h ∙ value)
  find s false env (universal v sort f) h value =
      let found = one_fails (size_of s sort) (λ e. value_of s (bind env v e) f) value in
      found_one (λ c. value_among s (witnessed c) false (bind env v found.0) f ≡ false) (λ c. value_among s (witnessed c) false env (universal v sort f) ≡ false) sort found.0 (witnesses false f)
      (λ c here k. fails_at (size_of s sort) (λ e. implies (c sort e) (value_among s (witnessed c) false (bind env v e) f)) found.0 found.1 (not_implied (c sort found.0) (value_among s (witnessed c) false (bind env v found.0) f) here k))
      (find s false (bind env v found.0) f h found.2)
  find s true env (existential v sort f) h value =
      let found = (some_is_for_some (size_of s sort) (λ e. value_of s (bind env v e) f)).0 value in
      found_one (λ c. value_among s (witnessed c) true (bind env v found.0) f ≡ true) (λ c. value_among s (witnessed c) true env (existential v sort f) ≡ true) sort found.0 (witnesses true f)
      (λ c here k. (some_is_for_some (size_of s sort) (λ e. c sort e && value_among s (witnessed c) true (bind env v e) f)).1 (found.0, found.1, both (c sort found.0) (value_among s (witnessed c) true (bind env v found.0) f) here k))
      (find s true (bind env v found.0) f h found.2)
  find s false env (existential v sort f) h value = found_none _ _ (λ c. universal_same s (witnessed c) false env (existential v sort f) (λ t e. refl) h ∙ value)

  pub find_all : (s : Structure) (even : Bool) (env : Environment) (fs : Formulas) → are_exists_forall even fs ≡ true → all_hold s env fs ≡ even → Found (λ c. all_hold_among s (witnessed c) even env fs ≡ even) (witnesses_of_each even fs)
  find_all s even env no_formulas h v = found_none _ _ (λ c. v)
  find_all s even env (with_formula f fs) h v =
      found_and even (value_of s env f) (all_hold s env fs) (λ c. value_among s (witnessed c) even env f) (λ c. all_hold_among s (witnessed c) even env fs) (witnesses even f) (witnesses_of_each even fs) v
      (λ e. find s even env f (and_left (is_exists_forall even f) (are_exists_forall even fs) h) e)
      (λ e. find_all s even env fs (and_right (is_exists_forall even f) (are_exists_forall even fs) h) e)

  pub find_some : (s : Structure) (even : Bool) (env : Environment) (fs : Formulas) → are_exists_forall even fs ≡ true → some_holds s env fs ≡ even → Found (λ c. some_holds_among s (witnessed c) even env fs ≡ even) (witnesses_of_each even fs)
  find_some s even env no_formulas h v = found_none _ _ (λ c. v)
  find_some s even env (with_formula f fs) h v =
      found_or even (value_of s env f) (some_holds s env fs) (λ c. value_among s (witnessed c) even env f) (λ c. some_holds_among s (witnessed c) even env fs) (witnesses even f) (witnesses_of_each even fs) v
      (λ e. find s even env f (and_left (is_exists_forall even f) (are_exists_forall even fs) h) e)
      (λ e. find_some s even env fs (and_right (is_exists_forall even f) (are_exists_forall even fs) h) e)

-- requirements of the parts of code
witnesses_in-append : (sort : ℕ) (fs gs : List Formula) → count_of sort (witnesses_in (fs ++ gs)) ≡ count_of sort (witnesses_in fs) + count_of sort (witnesses_in gs)
witnesses_in-append sort [] gs = let e : count_of sort [] ≡ 0 = refl in omega (arith, e)
witnesses_in-append sort (f ∷ fs) gs =
    let a = count_of-append sort (witnesses true f) (witnesses_in (fs ++ gs)) in
    let b = witnesses_in-append sort fs gs in
    let c = count_of-append sort (witnesses true f) (witnesses_in fs) in
    omega (arith, a, b, c)

found_parts : (goal : (ℕ → ℕ → Bool) → Type 0) (fs gs : List Formula) → Found goal (witnesses_in fs ++ witnesses_in gs) → Found goal (witnesses_in (fs ++ gs))
found_parts goal fs gs r = record {
  marks = r.marks;
  few = λ sort. (let a = r.few sort in let b = count_of-append sort (witnesses_in fs) (witnesses_in gs) in let c = witnesses_in-append sort fs gs in omega (arith, a, b, c));
  enough = r.enough;
}

found_choice : (b : Bool) (A B : (ℕ → ℕ → Bool) → Type 0) (fs gs : List Formula) (o p : Option Structure) (t : Structure) → (if b then o else p) ≡ Some t → (o ≡ Some t → Found A (witnesses_in fs)) → (p ≡ Some t → Found B (witnesses_in gs)) → Found (λ c. IfElse b (A c) (B c)) (witnesses_in (fs ++ gs))
found_choice true A B fs gs o p t h first second = found_parts A fs gs (found_first A (witnesses_in fs) (witnesses_in gs) (first h))
found_choice false A B fs gs o p t h first second = found_parts B fs gs (found_second B (witnesses_in fs) (witnesses_in gs) (second h))

found_then : (A : (ℕ → ℕ → Bool) → Type 0) (B : (ℕ → ℕ → Bool) → Structure → Type 0) (fs gs : List Formula) (o : Option Structure) (next : Structure → Option Structure) (t : Structure) → option_and_then next o ≡ Some t → ((u : Structure) → o ≡ Some u → Found A (witnesses_in fs)) → ((u : Structure) → next u ≡ Some t → Found (λ c. B c u) (witnesses_in gs)) → Found (λ c. A c × IfSome o (B c)) (witnesses_in (fs ++ gs))
found_then A B fs gs None next t h first second = absurd (let k : ⊥ = cc in k)
found_then A B fs gs (Some u) next t h first second =
    found_parts (λ c. A c × B c u) fs gs
    (found_both A (λ c. B c u) (λ c. A c × B c u) (witnesses_in fs) (witnesses_in gs) (λ c a b. (a, b)) (first u refl) (second u h))

mutual
  pub find_statement : (P : Protocol) (env : Environment) (c : Statement) (s t : Structure) → IsDirect c → after_statement P env c s ≡ Some t → Found (λ chosen_ones. HasWitnesses P chosen_ones env c s) (witnesses_in (requirements_of c))
  find_statement P env (requirement f) s t direct h =
      found_first (λ c. value_among s (witnessed c) true env f ≡ true) (witnesses true f) [] (find s true env f direct.force (chosen (value_of s env f) (Some s) t h).0)
  find_statement P env (update_relation r target f) s t direct h = found_none _ _ (λ c. tt)
  find_statement P env (update_individual i term) s t direct h = found_none _ _ (λ c. tt)
  find_statement P env (conditional f first second) s t direct h =
      found_choice (value_of s env f) (λ c. HaveWitnesses P c env first s) (λ c. HaveWitnesses P c env second s) (requirements_in first) (requirements_in second) (after_statements P env first s) (after_statements P env second s) t h
      (λ k. find_code P env first s t direct.1 k)
      (λ k. find_code P env second s t direct.2 k)

  pub find_code : (P : Protocol) (env : Environment) (cs : Statements) (s t : Structure) → AreDirect cs → after_statements P env cs s ≡ Some t → Found (λ chosen_ones. HaveWitnesses P chosen_ones env cs s) (witnesses_in (requirements_in cs))
  find_code P env no_statements s t direct h = found_none _ _ (λ c. tt)
  find_code P env (with_statement c cs) s t direct h =
      found_then (λ chosen_ones. HasWitnesses P chosen_ones env c s) (λ chosen_ones u. HaveWitnesses P chosen_ones env cs u) (requirements_of c) (requirements_in cs) (after_statement P env c s) (after_statements P env cs) t h
      (λ u k. find_statement P env c s u direct.0 k)
      (λ u k. find_code P env cs u t direct.1 k)
