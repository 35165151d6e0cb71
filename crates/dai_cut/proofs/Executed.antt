-- A block leaves from an embedded structure one that is embedded in what it leaves from the large structure, where the
-- requirements that are executed have witnesses among the images.
use Rattle.std.proofs.Common.{◌≡◌, ◌<◌, ℕ, ◌&&◌, Bool, true, false, List, [], ◌∷◌, map, Option, Some, None, sym, ◌∙◌, ap, subst, refl, arith}
use Rattle.std.specs.Prelude.{nat_eq, nat_lt, slice_get, slice_index_or, if◌then◌else◌}
use Rattle.std.specs.Option.{option_and_then, IfSome}
use Rattle.std.proofs.lemmas.Bool.Decides.{nat_tests}
use Rattle.dai_model.specs.Formula.{Term, variable, individual, parameter, choice, Formula, Statement, requirement, update_relation, update_individual, conditional, Statements, no_statements, with_statement}
use Rattle.dai_model.specs.Protocol.{Protocol, Relation, Individual}
use Rattle.dai_model.specs.Structure.{Structure, size_of, is_tuple, is_tuple_of, is_tuple_for}
use Rattle.dai_model.specs.Value.{Environment, bind, some, value_of, value_of_term}
use Rattle.dai_model.specs.Execution.{matches, bind_target, after_relation, after_individual, after_statement, after_statements}
use Rattle.dai_model.specs.WellSorted.{Scope, with_variable, sort_of, HasSort, HaveSorts, target_scope, EnvironmentFits, IsWellSortedStatement, IsWellSortedCode}
use Rattle.dai_model.specs.Profile.{has_quantifier, IsDirect, AreDirect}
use Rattle.dai_model.proofs.Frame.{chosen}
use Rattle.dai_model.proofs.Typed.{and_left, and_right, term_fits, statement_structure}
use Rattle.dai_cut.specs.Embedding.{images, IsEmbedding, is_image}
use Rattle.dai_cut.specs.Among.{witnessed, HasWitnesses, HaveWitnesses, IfElse}
use Rattle.dai_cut.proofs.Embedded.{both, from_lt, some_equal, Stand, Named, term_image, order_kept, named_bound, lt_test}
use Rattle.dai_cut.proofs.Ranging.{from_not, value_grows}
use Rattle.dai_cut.proofs.Restricted.{free_restricted, witnessed_restricted}

-- a tuple and its image
pub images_inside : (P : Protocol) (small large : Structure) (maps : ℕ → ℕ → ℕ) (sorts es : List ℕ) → IsEmbedding P small large maps → is_tuple small.sizes sorts es ≡ true → is_tuple large.sizes sorts (images maps sorts es) ≡ true
images_inside P small large maps [] [] em h = refl
images_inside P small large maps [] (e ∷ es) em h = absurd (let k : ⊥ = cc in k)
images_inside P small large maps (sort ∷ sorts) [] em h = absurd (let k : ⊥ = cc in k)
images_inside P small large maps (sort ∷ sorts) (e ∷ es) em h =
    both _ _ (lt_test _ _ (em.inside sort e (from_lt _ _ (and_left _ (is_tuple small.sizes sorts es) h))))
    (images_inside P small large maps sorts es em (and_right (nat_lt e (slice_index_or small.sizes sort 0)) _ h))

-- the target's variables stand for the tuple's elements
target_named : (scope : Scope) (small : Structure) (maps : ℕ → ℕ → ℕ) (own other : Environment) (target : List Term) (sorts es : List ℕ) → Named scope small maps own other → is_tuple small.sizes sorts es ≡ true → Named (target_scope scope target sorts) small maps (bind_target own target es) (bind_target other target (images maps sorts es))
target_named scope small maps own other [] sorts es nm h = nm
target_named scope small maps own other (t ∷ ts) [] [] nm h = nm
target_named scope small maps own other (t ∷ ts) [] (e ∷ es) nm h = absurd (let k : ⊥ = cc in k)
target_named scope small maps own other (t ∷ ts) (sort ∷ sorts) [] nm h = absurd (let k : ⊥ = cc in k)
target_named scope small maps own other (variable v ∷ ts) (sort ∷ sorts) (e ∷ es) nm h =
    let below = from_lt _ _ (and_left _ (is_tuple small.sizes sorts es) h) in
    target_named (with_variable scope v sort) small maps (bind own v e) (bind other v (maps sort e)) ts sorts es (named_bound scope small maps own other v sort e nm below) (and_right (nat_lt e (slice_index_or small.sizes sort 0)) _ h)
target_named scope small maps own other (individual i ∷ ts) (sort ∷ sorts) (e ∷ es) nm h = target_named scope small maps own other ts sorts es nm (and_right (nat_lt e (slice_index_or small.sizes sort 0)) _ h)
target_named scope small maps own other (parameter p ∷ ts) (sort ∷ sorts) (e ∷ es) nm h = target_named scope small maps own other ts sorts es nm (and_right (nat_lt e (slice_index_or small.sizes sort 0)) _ h)
target_named scope small maps own other (choice c ∷ ts) (sort ∷ sorts) (e ∷ es) nm h = target_named scope small maps own other ts sorts es nm (and_right (nat_lt e (slice_index_or small.sizes sort 0)) _ h)

-- a target binds variables alone
record SameNames (scope inside : Scope) : Type 0 where
  parameters : inside.parameters ≡ scope.parameters
  choices : inside.choices ≡ scope.choices

target_names : (scope : Scope) (target : List Term) (sorts : List ℕ) → SameNames scope (target_scope scope target sorts)
target_names scope [] sorts = record { parameters = refl; choices = refl }
target_names scope (t ∷ ts) [] = record { parameters = refl; choices = refl }
target_names scope (variable v ∷ ts) (sort ∷ sorts) = let rest = target_names (with_variable scope v sort) ts sorts in record { parameters = rest.parameters; choices = rest.choices }
target_names scope (individual i ∷ ts) (sort ∷ sorts) = target_names scope ts sorts
target_names scope (parameter p ∷ ts) (sort ∷ sorts) = target_names scope ts sorts
target_names scope (choice c ∷ ts) (sort ∷ sorts) = target_names scope ts sorts

match_one : (P : Protocol) (scope : Scope) (small large : Structure) (maps : ℕ → ℕ → ℕ) (own other : Environment) (t : Term) (sort e : ℕ) (rest rest_image : Bool) → Stand P small large maps → Named scope small maps own other → HasSort P scope t sort → value_of_term small own t < size_of small sort → e < size_of small sort → rest ≡ rest_image → (nat_eq e (value_of_term small own t) && rest) ≡ (nat_eq (maps sort e) (value_of_term large other t) && rest_image)
match_one P scope small large maps own other t sort e rest rest_image st nm h inside below more =
    let order = order_kept P small large maps sort e (value_of_term small own t) st.embedding below inside in
    let at : nat_eq e (value_of_term small own t) ≡ nat_eq (maps sort e) (value_of_term large other t) = order.equal ∙ ap (nat_eq (maps sort e)) (sym (term_image P scope small large maps own other t sort st nm h)) in
    ap (λ b. b && rest) at ∙ ap (λ b. nat_eq (maps sort e) (value_of_term large other t) && b) more

matches_same : (P : Protocol) (scope inside : Scope) (small large : Structure) (maps : ℕ → ℕ → ℕ) (own other : Environment) (target : List Term) (sorts es : List ℕ) → Stand P small large maps → Named scope small maps own other → SameNames scope inside → HaveSorts P inside target sorts → is_tuple small.sizes sorts es ≡ true → matches small own target es ≡ matches large other target (images maps sorts es)
matches_same P scope inside small large maps own other [] sorts es st nm names w h = refl
matches_same P scope inside small large maps own other (t ∷ ts) [] es st nm names w h = absurd (let k : ⊥ = cc in k)
matches_same P scope inside small large maps own other (t ∷ ts) (sort ∷ sorts) [] st nm names w h = absurd (let k : ⊥ = cc in k)
matches_same P scope inside small large maps own other (variable v ∷ ts) (sort ∷ sorts) (e ∷ es) st nm names w h =
    let more : map (sort_of P inside) ts ≡ map Some sorts = cc in
    matches_same P scope inside small large maps own other ts sorts es st nm names more (and_right (nat_lt e (slice_index_or small.sizes sort 0)) _ h)
matches_same P scope inside small large maps own other (individual i ∷ ts) (sort ∷ sorts) (e ∷ es) st nm names w h =
    let here : sort_of P inside (individual i) ≡ Some sort = cc in
    let more : map (sort_of P inside) ts ≡ map Some sorts = cc in
    let below = from_lt _ _ (and_left _ (is_tuple small.sizes sorts es) h) in
    match_one P scope small large maps own other (individual i) sort e _ _ st nm here (term_fits P scope small own (individual i) sort st.structure nm.fits here) below
    (matches_same P scope inside small large maps own other ts sorts es st nm names more (and_right (nat_lt e (slice_index_or small.sizes sort 0)) _ h))
matches_same P scope inside small large maps own other (parameter p ∷ ts) (sort ∷ sorts) (e ∷ es) st nm names w h =
    let first : sort_of P inside (parameter p) ≡ Some sort = cc in
    let here : sort_of P scope (parameter p) ≡ Some sort = subst (λ ps. slice_get ps p ≡ Some sort) names.parameters first in
    let more : map (sort_of P inside) ts ≡ map Some sorts = cc in
    let below = from_lt _ _ (and_left _ (is_tuple small.sizes sorts es) h) in
    match_one P scope small large maps own other (parameter p) sort e _ _ st nm here (term_fits P scope small own (parameter p) sort st.structure nm.fits here) below
    (matches_same P scope inside small large maps own other ts sorts es st nm names more (and_right (nat_lt e (slice_index_or small.sizes sort 0)) _ h))
matches_same P scope inside small large maps own other (choice c ∷ ts) (sort ∷ sorts) (e ∷ es) st nm names w h =
    let first : sort_of P inside (choice c) ≡ Some sort = cc in
    let here : sort_of P scope (choice c) ≡ Some sort = subst (λ cs. slice_get cs c ≡ Some sort) names.choices first in
    let more : map (sort_of P inside) ts ≡ map Some sorts = cc in
    let below = from_lt _ _ (and_left _ (is_tuple small.sizes sorts es) h) in
    match_one P scope small large maps own other (choice c) sort e _ _ st nm here (term_fits P scope small own (choice c) sort st.structure nm.fits here) below
    (matches_same P scope inside small large maps own other ts sorts es st nm names more (and_right (nat_lt e (slice_index_or small.sizes sort 0)) _ h))

tuple_of : (P : Protocol) (sizes : List ℕ) (q : ℕ) (R : Relation) (es : List ℕ) → slice_get P.relations q ≡ Some R → is_tuple sizes R.arguments es ≡ true → is_tuple_of P sizes q es ≡ true
tuple_of P sizes q R es h inside = ap (λ o. is_tuple_for sizes o es) h ∙ inside

-- a tuple and its image are both reached by an update, and then have one value, or neither is
reached_same : (here inside inside_image m m_image value value_image old old_image : Bool) → old ≡ old_image → (here ≡ true → inside ≡ true) → (here ≡ true → inside_image ≡ true) → (here ≡ true → m ≡ m_image) → (here ≡ true → value ≡ value_image) → (if here && (inside && m) then value else old) ≡ (if here && (inside_image && m_image) then value_image else old_image)
reached_same false inside inside_image m m_image value value_image old old_image same_old hi hj hm hv = same_old
reached_same true inside inside_image m m_image value value_image old old_image same_old hi hj hm hv =
    let a = hi refl in
    let b = hj refl in
    let c = hm refl in
    let d = hv refl in
    cc

updated_embedding : (P : Protocol) (scope : Scope) (small large : Structure) (maps : ℕ → ℕ → ℕ) (own other : Environment) (r : ℕ) (target : List Term) (f : Formula) → Stand P small large maps → Named scope small maps own other → IsWellSortedStatement P scope (update_relation r target f) → has_quantifier f ≡ false → IsEmbedding P (after_relation P small own r target f) (after_relation P large other r target f) maps
updated_embedding P scope small large maps own other r target f st nm w free = record {
  inside = st.embedding.inside;
  increasing = st.embedding.increasing;
  individuals = st.embedding.individuals;
  relations = λ q R es h inside.
      let S = w.0 in
      let sorted = w.2 in
      let one : nat_eq q r ≡ true → R ≡ S = λ e. let k : q ≡ r = grind (arith, nat_tests) in some_equal R S (sym h ∙ (ap (slice_get P.relations) k ∙ w.1)) in
      let inside_too : nat_eq q r ≡ true → is_tuple small.sizes S.arguments es ≡ true = λ e. subst (λ (T : Relation). is_tuple small.sizes T.arguments es ≡ true) (one e) inside in
      reached_same (nat_eq q r) (is_tuple_of P small.sizes q es) (is_tuple_of P large.sizes q (images maps R.arguments es))
      (matches small own target es) (matches large other target (images maps R.arguments es))
      (value_of small (bind_target own target es) f) (value_of large (bind_target other target (images maps R.arguments es)) f)
      (small.holds q es) (large.holds q (images maps R.arguments es))
      (st.embedding.relations q R es h inside)
      (λ e. tuple_of P small.sizes q R es h inside)
      (λ e. tuple_of P large.sizes q R (images maps R.arguments es) h (images_inside P small large maps R.arguments es st.embedding inside))
      (λ e. subst (λ (T : Relation). matches small own target es ≡ matches large other target (images maps T.arguments es)) (sym (one e))
      (matches_same P scope (target_scope scope target S.arguments) small large maps own other target S.arguments es st nm (target_names scope target S.arguments) sorted.0 (inside_too e)))
      (λ e. subst (λ (T : Relation). value_of small (bind_target own target es) f ≡ value_of large (bind_target other target (images maps T.arguments es)) f) (sym (one e))
      (free_restricted P (target_scope scope target S.arguments) small large maps (bind_target own target es) (bind_target other target (images maps S.arguments es)) f st (target_named scope small maps own other target S.arguments es nm (inside_too e)) sorted.1 free));
}

set_same : (here : Bool) (maps : ℕ → ℕ → ℕ) (sort wanted value value_image old old_image : ℕ) → (here ≡ true → sort ≡ wanted) → value_image ≡ maps sort value → old_image ≡ maps wanted old → (if here then value_image else old_image) ≡ maps wanted (if here then value else old)
set_same true maps sort wanted value value_image old old_image one new kept = subst (λ t. value_image ≡ maps t value) (one refl) new
set_same false maps sort wanted value value_image old old_image one new kept = kept

assigned_embedding : (P : Protocol) (scope : Scope) (small large : Structure) (maps : ℕ → ℕ → ℕ) (own other : Environment) (i : ℕ) (t : Term) → Stand P small large maps → Named scope small maps own other → IsWellSortedStatement P scope (update_individual i t) → IsEmbedding P (after_individual small own i t) (after_individual large other i t) maps
assigned_embedding P scope small large maps own other i t st nm w = record {
  inside = st.embedding.inside;
  increasing = st.embedding.increasing;
  relations = st.embedding.relations;
  individuals = λ j J h.
      let I = w.0 in
      let one : nat_eq j i ≡ true → I.sort ≡ J.sort = λ e. let k : j ≡ i = grind (arith, nat_tests) in ap (λ (K : Individual). K.sort) (some_equal I J (sym w.1 ∙ (ap (slice_get P.individuals) (sym k) ∙ h))) in
      set_same (nat_eq j i) maps I.sort J.sort (value_of_term small own t) (value_of_term large other t) (small.element j) (large.element j) one (term_image P scope small large maps own other t I.sort st nm w.2) (st.embedding.individuals j J h);
}

-- the chosen elements are images
pub record Covered (chosen_ones : ℕ → ℕ → Bool) (maps : ℕ → ℕ → ℕ) (small large : Structure) : Type 0 where
  pub covers : (sort d : ℕ) → d < size_of large sort → chosen_ones sort d ≡ true → is_image small maps sort d ≡ true

pub covered_after : (chosen_ones : ℕ → ℕ → Bool) (maps : ℕ → ℕ → ℕ) (small large u t : Structure) → u.sizes ≡ small.sizes → t.sizes ≡ large.sizes → Covered chosen_ones maps small large → Covered chosen_ones maps u t
covered_after chosen_ones maps small large u t e k c = record {
  covers = λ sort d below h.
      let there : d < size_of large sort = subst (λ sizes. d < slice_index_or sizes sort 0) k below in
      let image = c.covers sort d there h in
      subst (λ sizes. some (slice_index_or sizes sort 0) (λ x. nat_eq (maps sort x) d) ≡ true) (sym e) image;
}

-- what is left from the small structure, beside what is left from the large one
pub record Leaves (P : Protocol) (small large : Structure) (maps : ℕ → ℕ → ℕ) (result : Option Structure) (t : Structure) : Type 0 where
  pub after : Structure
  pub leaves : result ≡ Some after
  pub stand : Stand P after t maps
  pub own_sizes : after.sizes ≡ small.sizes
  pub other_sizes : t.sizes ≡ large.sizes

required : (P : Protocol) (scope : Scope) (small large : Structure) (maps : ℕ → ℕ → ℕ) (own other : Environment) (chosen_ones : ℕ → ℕ → Bool) (f : Formula) → Stand P small large maps → Named scope small maps own other → Covered chosen_ones maps small large → IsWellSortedStatement P scope (requirement f) → IsDirect (requirement f) → HasWitnesses P chosen_ones other (requirement f) large → value_of small own f ≡ true
required P scope small large maps own other chosen_ones f st nm cover w direct h =
    witnessed_restricted P scope small large maps own other f st nm w direct.force
    (value_grows large (witnessed chosen_ones) (witnessed (is_image small maps)) true other f (record { wider = λ sort e below k. cover.covers sort e below k; narrower = λ sort e below k. k }) direct.force h)

if_true : {A : Type 0} (b : Bool) (x y : A) → b ≡ true → (if b then x else y) ≡ x
if_true true x y h = refl
if_true false x y h = absurd (let k : ⊥ = cc in k)

left_by_choice : (P : Protocol) (small large : Structure) (maps : ℕ → ℕ → ℕ) (b b_image : Bool) (o p o_image p_image : Option Structure) (t : Structure) (A B : Type 0) → b ≡ b_image → (A → o_image ≡ Some t → Leaves P small large maps o t) → (B → p_image ≡ Some t → Leaves P small large maps p t) → IfElse b_image A B → (if b_image then o_image else p_image) ≡ Some t → Leaves P small large maps (if b then o else p) t
left_by_choice P small large maps true true o p o_image p_image t A B same first second w h = first w h
left_by_choice P small large maps true false o p o_image p_image t A B same first second w h = absurd (let k : ⊥ = cc in k)
left_by_choice P small large maps false true o p o_image p_image t A B same first second w h = absurd (let k : ⊥ = cc in k)
left_by_choice P small large maps false false o p o_image p_image t A B same first second w h = second w h

left_then : (P : Protocol) (small large : Structure) (maps : ℕ → ℕ → ℕ) (o o_image : Option Structure) (next next_image : Structure → Option Structure) (t : Structure) (W : Structure → Type 0) → ((v : Structure) → o_image ≡ Some v → Leaves P small large maps o v) → ((u v : Structure) → Leaves P small large maps (Some u) v → W v → next_image v ≡ Some t → Leaves P u v maps (next u) t) → IfSome o_image W → option_and_then next_image o_image ≡ Some t → Leaves P small large maps (option_and_then next o) t
left_then P small large maps o None next next_image t W first second w h = absurd (let k : ⊥ = cc in k)
left_then P small large maps o (Some v) next next_image t W first second w h =
    let a = first v refl in
    let found : Leaves P small large maps (Some a.after) v = record { after = a.after; leaves = refl; stand = a.stand; own_sizes = a.own_sizes; other_sizes = a.other_sizes } in
    let b = second a.after v found w h in
    record {
      after = b.after;
      leaves = ap (option_and_then next) a.leaves ∙ b.leaves;
      stand = b.stand;
      own_sizes = b.own_sizes ∙ a.own_sizes;
      other_sizes = b.other_sizes ∙ a.other_sizes;
    }

named_after : (scope : Scope) (small u : Structure) (maps : ℕ → ℕ → ℕ) (own other : Environment) → u.sizes ≡ small.sizes → Named scope small maps own other → Named scope u maps own other
named_after scope small u maps own other e nm = record { fits = subst (λ sizes. EnvironmentFits scope sizes own) (sym e) nm.fits; images = nm.images }

mutual
  pub statement_left : (P : Protocol) (scope : Scope) (maps : ℕ → ℕ → ℕ) (own other : Environment) (chosen_ones : ℕ → ℕ → Bool) (c : Statement) (small large t : Structure) → Stand P small large maps → Named scope small maps own other → Covered chosen_ones maps small large → IsWellSortedStatement P scope c → IsDirect c → HasWitnesses P chosen_ones other c large → after_statement P other c large ≡ Some t → Leaves P small large maps (after_statement P own c small) t
  statement_left P scope maps own other chosen_ones (requirement f) small large t st nm cover w direct wit h =
      let e : large ≡ t = some_equal large t (chosen (value_of large other f) (Some large) t h).1 in
      record {
        after = small;
        leaves = if_true (value_of small own f) (Some small) None (required P scope small large maps own other chosen_ones f st nm cover w direct wit);
        stand = subst (λ u. Stand P small u maps) e st;
        own_sizes = refl;
        other_sizes = ap (λ (u : Structure). u.sizes) (sym e);
      }
  statement_left P scope maps own other chosen_ones (update_relation r target f) small large t st nm cover w direct wit h =
      let e : after_relation P large other r target f ≡ t = some_equal (after_relation P large other r target f) t h in
      record {
        after = after_relation P small own r target f;
        leaves = refl;
        stand = subst (λ u. Stand P (after_relation P small own r target f) u maps) e (record {
          structure = statement_structure P scope own (update_relation r target f) small (after_relation P small own r target f) w nm.fits st.structure refl;
          embedding = updated_embedding P scope small large maps own other r target f st nm w (from_not (has_quantifier f) direct.0);
        });
        own_sizes = refl;
        other_sizes = ap (λ (u : Structure). u.sizes) (sym e);
      }
  statement_left P scope maps own other chosen_ones (update_individual i term) small large t st nm cover w direct wit h =
      let e : after_individual large other i term ≡ t = some_equal (after_individual large other i term) t h in
      record {
        after = after_individual small own i term;
        leaves = refl;
        stand = subst (λ u. Stand P (after_individual small own i term) u maps) e (record {
          structure = statement_structure P scope own (update_individual i term) small (after_individual small own i term) w nm.fits st.structure refl;
          embedding = assigned_embedding P scope small large maps own other i term st nm w;
        });
        own_sizes = refl;
        other_sizes = ap (λ (u : Structure). u.sizes) (sym e);
      }
  statement_left P scope maps own other chosen_ones (conditional f first second) small large t st nm cover w direct wit h =
      left_by_choice P small large maps (value_of small own f) (value_of large other f) (after_statements P own first small) (after_statements P own second small) (after_statements P other first large) (after_statements P other second large) t
      (HaveWitnesses P chosen_ones other first large) (HaveWitnesses P chosen_ones other second large)
      (free_restricted P scope small large maps own other f st nm w.0 (from_not (has_quantifier f) direct.0))
      (λ k e. code_left P scope maps own other chosen_ones first small large t st nm cover w.1 direct.1 k e)
      (λ k e. code_left P scope maps own other chosen_ones second small large t st nm cover w.2 direct.2 k e)
      wit h

  pub code_left : (P : Protocol) (scope : Scope) (maps : ℕ → ℕ → ℕ) (own other : Environment) (chosen_ones : ℕ → ℕ → Bool) (cs : Statements) (small large t : Structure) → Stand P small large maps → Named scope small maps own other → Covered chosen_ones maps small large → IsWellSortedCode P scope cs → AreDirect cs → HaveWitnesses P chosen_ones other cs large → after_statements P other cs large ≡ Some t → Leaves P small large maps (after_statements P own cs small) t
  code_left P scope maps own other chosen_ones no_statements small large t st nm cover w direct wit h =
      let e : large ≡ t = some_equal large t h in
      record {
        after = small;
        leaves = refl;
        stand = subst (λ u. Stand P small u maps) e st;
        own_sizes = refl;
        other_sizes = ap (λ (u : Structure). u.sizes) (sym e);
      }
  code_left P scope maps own other chosen_ones (with_statement c cs) small large t st nm cover w direct wit h =
      left_then P small large maps (after_statement P own c small) (after_statement P other c large) (after_statements P own cs) (after_statements P other cs) t (HaveWitnesses P chosen_ones other cs)
      (λ v e. statement_left P scope maps own other chosen_ones c small large v st nm cover w.0 direct.0 wit.0 e)
      (λ u v found k e.
      let same : found.after ≡ u = some_equal found.after u (sym found.leaves) in
      let sizes : u.sizes ≡ small.sizes = ap (λ (x : Structure). x.sizes) (sym same) ∙ found.own_sizes in
      code_left P scope maps own other chosen_ones cs u v t (subst (λ x. Stand P x v maps) same found.stand) (named_after scope small u maps own other sizes nm) (covered_after chosen_ones maps small large u v sizes found.other_sizes cover) w.1 direct.1 k e)
      wit.1 h
