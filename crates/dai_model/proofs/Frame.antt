-- What a block leaves as it was: sizes, and every symbol that it does not assign. And a formula's value
-- depends on the sizes and the symbols that it names alone.
use Rattle.std.proofs.Common.{◌≡◌, get_or, ℕ, zero, suc, ◌||◌, Bool, true, false, not, List, [], ◌∷◌, map, Option, Some, None, ◌∙◌, ap, subst, refl, arith}
use Rattle.std.specs.Prelude.{nat_eq, if◌then◌else◌}
use Rattle.std.specs.Option.{option_and_then}
use Rattle.std.specs.List.{list_any}
use Rattle.dai_model.specs.Formula.{Term, variable, individual, parameter, choice, Formula, truth, relates, same, less, less_or_same, negation, conjunction, disjunction, implication, equivalence, universal, existential, Formulas, no_formulas, with_formula, Statement, requirement, update_relation, update_individual, conditional, Statements, no_statements, with_statement}
use Rattle.dai_model.specs.Protocol.{Protocol}
use Rattle.dai_model.specs.Structure.{Structure, size_of}
use Rattle.dai_model.specs.Value.{Environment, bind, every, some, value_of_term, value_of, all_hold, some_holds, all_agree}
use Rattle.dai_model.specs.Execution.{after_statement, after_statements, after_relation, after_individual}
use Rattle.dai_model.specs.WellSorted.{Symbol, a_relation, an_individual, is_relation, is_the_individual, term_names, names, some_names, assigns, some_assigns}

-- the symbol means the same in both structures
abbrev pub SameAt : Structure → Structure → Symbol → Type 0
SameAt s t (a_relation r) = (es : List ℕ) → t.holds r es ≡ s.holds r es
SameAt s t (an_individual i) = t.element i ≡ s.element i

pub record Frame (assigned : Symbol → Bool) (s t : Structure) : Type 0 where
  pub sizes : t.sizes ≡ s.sizes
  pub others : (x : Symbol) → assigned x ≡ false → SameAt s t x

pub or_left : (a b : Bool) → a ≡ true → (a || b) ≡ true
or_left true b h = refl
or_left false b h = elim (true_is_not_false h) [ ]
  where
    true_is_not_false : false ≡ true → ⊥
    true_is_not_false h = cc

pub or_right : (a b : Bool) → b ≡ true → (a || b) ≡ true
or_right true b h = refl
or_right false b h = h

pub or_false_left : (a b : Bool) → (a || b) ≡ false → a ≡ false
or_false_left true b h = h
or_false_left false b h = refl

pub or_false_right : (a b : Bool) → (a || b) ≡ false → b ≡ false
or_false_right true b h = absurd (let e : ⊥ = cc in e)
or_false_right false b h = h

pub SameAt-trans : (s t u : Structure) (x : Symbol) → SameAt s t x → SameAt t u x → SameAt s u x
SameAt-trans s t u (a_relation r) h k = λ es. k es ∙ h es
SameAt-trans s t u (an_individual i) h k = k ∙ h

pub SameAt-refl : (s : Structure) (x : Symbol) → SameAt s s x
SameAt-refl s (a_relation r) = λ es. refl
SameAt-refl s (an_individual i) = refl

pub same_frame : (assigned : Symbol → Bool) (s : Structure) → Frame assigned s s
same_frame assigned s = record { sizes = refl; others = λ x h. SameAt-refl s x }

-- what a choice between a structure and none says
pub chosen : {A : Type 0} (b : Bool) (o : Option A) (t : A) → (if b then o else None) ≡ Some t → (b ≡ true) × (o ≡ Some t)
chosen true o t h = (refl, h)
chosen false o t h = absurd (let e : ⊥ = cc in e)

relation_frame : (P : Protocol) (s : Structure) (env : Environment) (r : ℕ) (target : List Term) (f : Formula) → Frame (λ x. is_relation x r) s (after_relation P s env r target f)
relation_frame P s env r target f = record { sizes = refl; others = other }
  where
    other : (x : Symbol) → is_relation x r ≡ false → SameAt s (after_relation P s env r target f) x
    other (a_relation q) h = λ es. rw h refl
    other (an_individual i) h = refl

individual_frame : (s : Structure) (env : Environment) (i : ℕ) (t : Term) → Frame (λ x. is_the_individual x i) s (after_individual s env i t)
individual_frame s env i t = record { sizes = refl; others = other }
  where
    other : (x : Symbol) → is_the_individual x i ≡ false → SameAt s (after_individual s env i t) x
    other (a_relation q) h = λ es. refl
    other (an_individual j) h = rw h refl

either_frame : {A B : Symbol → Bool} (b : Bool) (o p : Option Structure) (s t : Structure) → (o ≡ Some t → Frame A s t) → (p ≡ Some t → Frame B s t) → (if b then o else p) ≡ Some t → Frame (λ x. A x || B x) s t
either_frame true o p s t first second h =
    let k = first h in
    record { sizes = k.sizes; others = λ x e. k.others x (or_false_left _ _ e) }
either_frame false o p s t first second h =
    let k = second h in
    record { sizes = k.sizes; others = λ x e. k.others x (or_false_right _ _ e) }

then_frame : {A B : Symbol → Bool} (o : Option Structure) (next : Structure → Option Structure) (s t : Structure) → ((u : Structure) → o ≡ Some u → Frame A s u) → ((u : Structure) → next u ≡ Some t → Frame B u t) → option_and_then next o ≡ Some t → Frame (λ x. A x || B x) s t
then_frame None next s t first second h = absurd (let e : ⊥ = cc in e)
then_frame (Some u) next s t first second h =
    let j = first u refl in
    let k = second u h in
    record {
      sizes = k.sizes ∙ j.sizes;
      others = λ x e. SameAt-trans s u t x (j.others x (or_false_left _ _ e)) (k.others x (or_false_right _ _ e));
    }

mutual
  pub statement_frame : (P : Protocol) (env : Environment) (c : Statement) (s t : Structure) → after_statement P env c s ≡ Some t → Frame (λ x. assigns x c) s t
  statement_frame P env (requirement f) s t h =
      let e : Some s ≡ Some t = (chosen (value_of s env f) (Some s) t h).1 in
      let k : s ≡ t = cc in
      subst (λ u. Frame (λ x. false) s u) k (same_frame _ s)
  statement_frame P env (update_relation r target f) s t h =
      let k : after_relation P s env r target f ≡ t = cc in
      subst (λ u. Frame (λ x. is_relation x r) s u) k (relation_frame P s env r target f)
  statement_frame P env (update_individual i term) s t h =
      let k : after_individual s env i term ≡ t = cc in
      subst (λ u. Frame (λ x. is_the_individual x i) s u) k (individual_frame s env i term)
  statement_frame P env (conditional f first second) s t h =
      either_frame (value_of s env f) _ _ s t (statements_frame P env first s t) (statements_frame P env second s t) h

  pub statements_frame : (P : Protocol) (env : Environment) (cs : Statements) (s t : Structure) → after_statements P env cs s ≡ Some t → Frame (λ x. some_assigns x cs) s t
  statements_frame P env no_statements s t h =
      let k : s ≡ t = cc in
      subst (λ u. Frame (λ x. false) s u) k (same_frame _ s)
  statements_frame P env (with_statement c cs) s t h =
      then_frame (after_statement P env c s) (after_statements P env cs) s t (λ u e. statement_frame P env c s u e) (λ u e. statements_frame P env cs u t e) h

-- structures that agree on the sizes and on what is named
pub record Agrees (named : Symbol → Bool) (s t : Structure) : Type 0 where
  pub sizes : t.sizes ≡ s.sizes
  pub at : (x : Symbol) → named x ≡ true → SameAt s t x

pub agrees_left : (A B : Symbol → Bool) {s t : Structure} → Agrees (λ x. A x || B x) s t → Agrees A s t
agrees_left A B a = record { sizes = a.sizes; at = λ x h. a.at x (or_left _ _ h) }

pub agrees_right : (A B : Symbol → Bool) {s t : Structure} → Agrees (λ x. A x || B x) s t → Agrees B s t
agrees_right A B a = record { sizes = a.sizes; at = λ x h. a.at x (or_right _ _ h) }

pub every_same : (n : ℕ) (p q : ℕ → Bool) → ((e : ℕ) → p e ≡ q e) → every n p ≡ every n q
every_same zero p q h = refl
every_same (suc n) p q h = let i = every_same n p q h in let k = h n in cc

pub some_same : (n : ℕ) (p q : ℕ → Bool) → ((e : ℕ) → p e ≡ q e) → some n p ≡ some n q
some_same zero p q h = refl
some_same (suc n) p q h = let i = some_same n p q h in let k = h n in cc

pub nat_eq-refl : (n : ℕ) → nat_eq n n ≡ true
nat_eq-refl n = grind arith

pub term_same : (s t : Structure) (env : Environment) (a : Term) → Agrees (λ x. term_names x a) s t → value_of_term t env a ≡ value_of_term s env a
term_same s t env (variable v) g = refl
term_same s t env (individual i) g = g.at (an_individual i) (nat_eq-refl i)
term_same s t env (parameter p) g = refl
term_same s t env (choice c) g = refl

pub terms_same : (s t : Structure) (env : Environment) (ts : List Term) → Agrees (λ x. list_any (term_names x) ts) s t → map (value_of_term t env) ts ≡ map (value_of_term s env) ts
terms_same s t env [] g = refl
terms_same s t env (a ∷ ts) g =
    let h = term_same s t env a (agrees_left (λ x. term_names x a) (λ x. list_any (term_names x) ts) g) in
    let i = terms_same s t env ts (agrees_right (λ x. term_names x a) (λ x. list_any (term_names x) ts) g) in
    cc

mutual
  pub value_same : (s t : Structure) (env : Environment) (f : Formula) → Agrees (λ x. names x f) s t → value_of t env f ≡ value_of s env f
  value_same s t env (truth b) g = refl
  value_same s t env (relates r ts) g =
      let args = terms_same s t env ts (agrees_right (λ x. is_relation x r) (λ x. list_any (term_names x) ts) g) in
      let same_relation = g.at (a_relation r) (or_left _ _ (nat_eq-refl r)) (map (value_of_term s env) ts) in
      ap (λ es. t.holds r es) args ∙ same_relation
  value_same s t env (same a b) g =
      let h = term_same s t env a (agrees_left (λ x. term_names x a) (λ x. term_names x b) g) in
      let k = term_same s t env b (agrees_right (λ x. term_names x a) (λ x. term_names x b) g) in
      cc
  value_same s t env (less a b) g =
      let h = term_same s t env a (agrees_left (λ x. term_names x a) (λ x. term_names x b) g) in
      let k = term_same s t env b (agrees_right (λ x. term_names x a) (λ x. term_names x b) g) in
      cc
  value_same s t env (less_or_same a b) g =
      let h = term_same s t env a (agrees_left (λ x. term_names x a) (λ x. term_names x b) g) in
      let k = term_same s t env b (agrees_right (λ x. term_names x a) (λ x. term_names x b) g) in
      cc
  value_same s t env (negation f) g = ap not (value_same s t env f g)
  value_same s t env (conjunction fs) g = (values_same s t env fs g).0
  value_same s t env (disjunction fs) g = (values_same s t env fs g).1
  value_same s t env (implication f h) g =
      let i = value_same s t env f (agrees_left (λ x. names x f) (λ x. names x h) g) in
      let k = value_same s t env h (agrees_right (λ x. names x f) (λ x. names x h) g) in
      cc
  value_same s t env (equivalence fs) g = (values_same s t env fs g).2
  value_same s t env (universal v sort f) g =
      let n = ap (λ (sizes : List ℕ). get_or sizes sort 0) g.sizes in
      ap (λ m. every m (λ e. value_of t (bind env v e) f)) n ∙ every_same (size_of s sort) _ _ (λ e. value_same s t (bind env v e) f g)
  value_same s t env (existential v sort f) g =
      let n = ap (λ (sizes : List ℕ). get_or sizes sort 0) g.sizes in
      ap (λ m. some m (λ e. value_of t (bind env v e) f)) n ∙ some_same (size_of s sort) _ _ (λ e. value_same s t (bind env v e) f g)

  pub values_same : (s t : Structure) (env : Environment) (fs : Formulas) → Agrees (λ x. some_names x fs) s t → (all_hold t env fs ≡ all_hold s env fs) × (some_holds t env fs ≡ some_holds s env fs) × (all_agree t env fs ≡ all_agree s env fs)
  values_same s t env no_formulas g = (refl, refl, refl)
  values_same s t env (with_formula f fs) g =
      let h = value_same s t env f (agrees_left (λ x. names x f) (λ x. some_names x fs) g) in
      let k = values_same s t env fs (agrees_right (λ x. names x f) (λ x. some_names x fs) g) in
      (cc, cc, cc)
