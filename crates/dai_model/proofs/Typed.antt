-- A well-sorted block leaves a structure of the protocol, and keeps the axioms.
use Rattle.std.proofs.Common.{◌≡◌, ◌<◌, get_or, length, ℕ, zero, suc, ◌&&◌, Bool, true, false, List, [], ◌∷◌, Option, Some, None, sym, ◌∙◌, ap, subst, refl, arith}
use Rattle.std.specs.Prelude.{nat_eq, nat_lt, slice_get, slice_index_or, if◌then◌else◌}
use Rattle.std.specs.Option.{option_and_then, option_map}
use Rattle.std.proofs.lemmas.Bool.Decides.{nat_tests}
use Rattle.dai_model.specs.Formula.{Term, variable, individual, parameter, choice, Formula, Statement, requirement, update_relation, update_individual, conditional, Statements, no_statements, with_statement}
use Rattle.dai_model.specs.Protocol.{Protocol, Block, Individual}
use Rattle.dai_model.specs.Structure.{Structure, size_of, is_tuple, is_tuple_of, IsStructure}
use Rattle.dai_model.specs.Value.{Environment, environment_of, empty_environment, value_of_term, value_of, Satisfies, SatisfiesAxioms}
use Rattle.dai_model.specs.Execution.{after_statement, after_statements, after_relation, after_individual, is_reached, matches, executes}
use Rattle.dai_model.specs.WellSorted.{EnvironmentFits, Scope, scope_of, HasSort, IsWellSortedStatement, IsWellSortedCode, IsWellSortedBlock, Symbol, names, some_assigns, SparesAxioms}
use Rattle.dai_model.proofs.Frame.{Frame, statement_frame, statements_frame, chosen, value_same}

individual_fits : (P : Protocol) (s : Structure) (i sort : ℕ) (o : Option Individual) → IsStructure P s → slice_get P.individuals i ≡ o → option_map (λ (I : Individual). I.sort) o ≡ Some sort → s.element i < size_of s sort
individual_fits P s i sort None st h e = absurd (let k : ⊥ = cc in k)
individual_fits P s i sort (Some I) st h e =
    let k : I.sort ≡ sort = cc in
    subst (λ t. s.element i < size_of s t) k (st.elements_inside i I h)

pub term_fits : (P : Protocol) (scope : Scope) (s : Structure) (env : Environment) (t : Term) (sort : ℕ) → IsStructure P s → EnvironmentFits scope s.sizes env → HasSort P scope t sort → value_of_term s env t < size_of s sort
term_fits P scope s env (variable v) sort st fits h = fits.variables v sort h
term_fits P scope s env (individual i) sort st fits h = individual_fits P s i sort (slice_get P.individuals i) st refl h
term_fits P scope s env (parameter p) sort st fits h = fits.parameters p sort h
term_fits P scope s env (choice c) sort st fits h = fits.choices c sort h

pub and_left : (a b : Bool) → (a && b) ≡ true → a ≡ true
and_left true b h = refl
and_left false b h = h

pub and_right : (a b : Bool) → (a && b) ≡ true → b ≡ true
and_right true b h = h
and_right false b h = absurd (let k : ⊥ = cc in k)

lt_from_test : (m n : ℕ) → nat_lt m n ≡ true → m < n
lt_from_test m n h = grind (arith, nat_tests)

-- the tuple's element at a place is of the type at that place
pub tuple_at : (sizes sorts es : List ℕ) (i sort : ℕ) → is_tuple sizes sorts es ≡ true → slice_get sorts i ≡ Some sort → slice_index_or es i 0 < slice_index_or sizes sort 0
tuple_at sizes [] es i sort h e = absurd (let k : ⊥ = cc in k)
tuple_at sizes (t ∷ ts) [] i sort h e = absurd (let k : ⊥ = cc in k)
tuple_at sizes (t ∷ ts) (x ∷ es) zero sort h e =
    let k : t ≡ sort = cc in
    subst (λ u. x < slice_index_or sizes u 0) k (lt_from_test _ _ (and_left _ _ h))
tuple_at sizes (t ∷ ts) (x ∷ es) (suc i) sort h e = tuple_at sizes ts es i sort (and_right (nat_lt x (slice_index_or sizes t 0)) _ h) e

pub block_fits : (sizes : List ℕ) (block : Block) (arguments choices : List ℕ) → is_tuple sizes block.parameters arguments ≡ true → is_tuple sizes block.choices choices ≡ true → EnvironmentFits (scope_of block) sizes (environment_of arguments choices)
block_fits sizes block arguments choices given chosen_ones = record {
  variables = λ v sort h. absurd (let k : ⊥ = cc in k);
  parameters = λ p sort h. tuple_at sizes block.parameters arguments p sort given h;
  choices = λ c sort h. tuple_at sizes block.choices choices c sort chosen_ones h;
}

updated_inside : (b reached : Bool) (value old : Bool) → (old ≡ true → b ≡ true) → (reached ≡ true → b ≡ true) → (if reached then value else old) ≡ true → b ≡ true
updated_inside b true value old from_old from_reached h = from_reached refl
updated_inside b false value old from_old from_reached h = from_old h

relation_structure : (P : Protocol) (s : Structure) (env : Environment) (r : ℕ) (target : List Term) (f : Formula) → IsStructure P s → IsStructure P (after_relation P s env r target f)
relation_structure P s env r target f st = record {
  one_size_each = st.one_size_each;
  inhabited = st.inhabited;
  tuples_inside = λ q es h. updated_inside (is_tuple_of P s.sizes q es) (is_reached P s env r target q es) _ (s.holds q es) (st.tuples_inside q es) (λ e. and_left _ (matches s env target es) (and_right (nat_eq q r) _ e)) h;
  elements_inside = st.elements_inside;
  nothing_outside = st.nothing_outside;
}

some_same_value : {A : Type 0} (x y : A) → Some x ≡ Some y → x ≡ y
some_same_value x y h = cc

pub slice_get-length : {A : Type 0} (xs : List A) (i : ℕ) (x : A) → slice_get xs i ≡ Some x → i < length xs
slice_get-length [] i x h = absurd (let k : ⊥ = cc in k)
slice_get-length (y ∷ ys) zero x h = omega arith
slice_get-length (y ∷ ys) (suc i) x h = let k = slice_get-length ys i x h in omega (arith, k)

set_inside : (P : Protocol) (s : Structure) (i j value : ℕ) (I J : Individual) (b : Bool) → (b ≡ true → j ≡ i) → slice_get P.individuals i ≡ Some I → slice_get P.individuals j ≡ Some J → value < size_of s I.sort → s.element j < size_of s J.sort → (if b then value else s.element j) < size_of s J.sort
set_inside P s i j value I J true same hi hj inside old =
    let e : j ≡ i = same refl in
    let k : I ≡ J = some_same_value I J (sym hi ∙ (ap (slice_get P.individuals) (sym e) ∙ hj)) in
    subst (λ (K : Individual). value < size_of s K.sort) k inside
set_inside P s i j value I J false same hi hj inside old = old

individual_structure : (P : Protocol) (s : Structure) (env : Environment) (i : ℕ) (t : Term) (I : Individual) → slice_get P.individuals i ≡ Some I → value_of_term s env t < size_of s I.sort → IsStructure P s → IsStructure P (after_individual s env i t)
individual_structure P s env i t I found inside st = record {
  one_size_each = st.one_size_each;
  inhabited = st.inhabited;
  tuples_inside = st.tuples_inside;
  elements_inside = λ j J h. set_inside P s i j (value_of_term s env t) I J (nat_eq j i) (λ e. grind (arith, nat_tests)) found h inside (st.elements_inside j J h);
  nothing_outside = λ j h.
      let below = slice_get-length P.individuals i I found in
      let other : nat_eq j i ≡ false = grind (arith, nat_tests) in
      rw other (st.nothing_outside j h);
}

then_structure : (P : Protocol) (o : Option Structure) (next : Structure → Option Structure) (t : Structure) → ((u : Structure) → o ≡ Some u → IsStructure P u) → ((u : Structure) → o ≡ Some u → IsStructure P u → next u ≡ Some t → IsStructure P t) → option_and_then next o ≡ Some t → IsStructure P t
then_structure P None next t first second h = absurd (let e : ⊥ = cc in e)
then_structure P (Some u) next t first second h = second u refl (first u refl) h

either_structure : (P : Protocol) (b : Bool) (o p : Option Structure) (t : Structure) → (o ≡ Some t → IsStructure P t) → (p ≡ Some t → IsStructure P t) → (if b then o else p) ≡ Some t → IsStructure P t
either_structure P true o p t first second h = first h
either_structure P false o p t first second h = second h

mutual
  pub statement_structure : (P : Protocol) (scope : Scope) (env : Environment) (c : Statement) (s t : Structure) → IsWellSortedStatement P scope c → EnvironmentFits scope s.sizes env → IsStructure P s → after_statement P env c s ≡ Some t → IsStructure P t
  statement_structure P scope env (requirement f) s t w fits st h =
      let e : Some s ≡ Some t = (chosen (value_of s env f) (Some s) t h).1 in
      subst (IsStructure P) (some_same_value s t e) st
  statement_structure P scope env (update_relation r target f) s t w fits st h =
      subst (IsStructure P) (some_same_value _ t h) (relation_structure P s env r target f st)
  statement_structure P scope env (update_individual i term) s t w fits st h =
      subst (IsStructure P) (some_same_value _ t h) (individual_structure P s env i term w.0 w.1 (term_fits P scope s env term w.0.sort st fits w.2) st)
  statement_structure P scope env (conditional f first second) s t w fits st h =
      either_structure P (value_of s env f) _ _ t (code_structure P scope env first s t w.1 fits st) (code_structure P scope env second s t w.2 fits st) h

  pub code_structure : (P : Protocol) (scope : Scope) (env : Environment) (cs : Statements) (s t : Structure) → IsWellSortedCode P scope cs → EnvironmentFits scope s.sizes env → IsStructure P s → after_statements P env cs s ≡ Some t → IsStructure P t
  code_structure P scope env no_statements s t w fits st h = subst (IsStructure P) (some_same_value s t h) st
  code_structure P scope env (with_statement c cs) s t w fits st h =
      then_structure P (after_statement P env c s) (after_statements P env cs) t
      (λ u e. statement_structure P scope env c s u w.0 fits st e)
      (λ u e k next. code_structure P scope env cs u t w.1 (subst (λ sizes. EnvironmentFits scope sizes env) (sym (statement_frame P env c s u e).sizes) fits) k next)
      h

-- what a block leaves is a structure of the protocol
pub executes_structure : (P : Protocol) (block : Block) (s t : Structure) (arguments choices : List ℕ) → IsWellSortedBlock P block → is_tuple s.sizes block.parameters arguments ≡ true → is_tuple s.sizes block.choices choices ≡ true → IsStructure P s → executes P block s arguments choices ≡ Some t → IsStructure P t
executes_structure P block s t arguments choices w given chosen_ones st h =
    code_structure P (scope_of block) (environment_of arguments choices) block.code s t w.code (block_fits s.sizes block arguments choices given chosen_ones) st h

-- an axiom has the same value where its symbols are spared
axiom_kept : (P : Protocol) (s t : Structure) (assigned : Symbol → Bool) (f : Formula) → Frame assigned s t → ((x : Symbol) → names x f ≡ true → assigned x ≡ false) → Satisfies s f → Satisfies t f
axiom_kept P s t assigned f frame spared h =
    value_same s t empty_environment f (record { sizes = frame.sizes; at = λ x n. frame.others x (spared x n) }) ∙ h

pub axioms_kept : (P : Protocol) (block : Block) (s t : Structure) (arguments choices : List ℕ) → SparesAxioms P block → SatisfiesAxioms P s → executes P block s arguments choices ≡ Some t → SatisfiesAxioms P t
axioms_kept P block s t arguments choices spares axioms h =
    λ k d below. axiom_kept P s t (λ x. some_assigns x block.code) (get_or P.axioms k d) (statements_frame P (environment_of arguments choices) block.code s t h) (λ x n. spares x k d below n) (axioms k d below)
