-- Terms, their order, and bound variables under an embedding.
use Rattle.std.proofs.Common.{◌≡◌, ◌<◌, ◌≤◌, ℕ, ◌&&◌, Bool, true, false, List, [], ◌∷◌, map, Option, Some, None, sym, ap, subst, refl, arith, inl, inr, ◌⊎◌}
use Rattle.std.specs.Prelude.{nat_eq, nat_lt, nat_le, slice_get, if◌then◌else◌}
use Rattle.std.specs.Option.{option_map}
use Rattle.std.proofs.lemmas.Bool.Decides.{nat_tests}
use Rattle.std.proofs.lemmas.Bool.{cases_lt}
use Rattle.dai_model.specs.Formula.{Term, variable, individual, parameter, choice}
use Rattle.dai_model.specs.Protocol.{Protocol, Individual}
use Rattle.dai_model.specs.Structure.{Structure, IsStructure, size_of, is_tuple}
use Rattle.dai_model.specs.Value.{Environment, bind, value_of_term}
use Rattle.dai_model.specs.WellSorted.{Scope, with_variable, sort_of, HasSort, HaveSorts, EnvironmentFits}
use Rattle.dai_model.proofs.Quantifiers.{some_is_for_some}
use Rattle.dai_model.proofs.Typed.{term_fits}
use Rattle.dai_cut.specs.Embedding.{images, IsEmbedding, AreImages, is_image}

pub both : (a b : Bool) → a ≡ true → b ≡ true → (a && b) ≡ true
both true b h k = k
both false b h k = h

pub from_lt : (m n : ℕ) → nat_lt m n ≡ true → m < n
from_lt m n h = grind (arith, nat_tests)

pub some_equal : {A : Type 0} (x y : A) → Some x ≡ Some y → x ≡ y
some_equal x y h = cc

pub same_bool : (a b : Bool) → (a ≡ true → b ≡ true) → (b ≡ true → a ≡ true) → a ≡ b
same_bool true b h k = sym (h refl)
same_bool false true h k = k refl
same_bool false false h k = refl

-- what stands for what
pub record Stand (P : Protocol) (small large : Structure) (maps : ℕ → ℕ → ℕ) : Type 0 where
  pub structure : IsStructure P small
  pub embedding : IsEmbedding P small large maps

pub record Named (scope : Scope) (small : Structure) (maps : ℕ → ℕ → ℕ) (own other : Environment) : Type 0 where
  pub fits : EnvironmentFits scope small.sizes own
  pub images : AreImages scope maps own other

individual_image : (P : Protocol) (small large : Structure) (maps : ℕ → ℕ → ℕ) (i sort : ℕ) (o : Option Individual) → IsEmbedding P small large maps → slice_get P.individuals i ≡ o → option_map (λ (I : Individual). I.sort) o ≡ Some sort → large.element i ≡ maps sort (small.element i)
individual_image P small large maps i sort None em h e = absurd (let k : ⊥ = cc in k)
individual_image P small large maps i sort (Some I) em h e =
    let k : I.sort ≡ sort = cc in
    subst (λ t. large.element i ≡ maps t (small.element i)) k (em.individuals i I h)

pub term_image : (P : Protocol) (scope : Scope) (small large : Structure) (maps : ℕ → ℕ → ℕ) (own other : Environment) (t : Term) (sort : ℕ) → Stand P small large maps → Named scope small maps own other → HasSort P scope t sort → value_of_term large other t ≡ maps sort (value_of_term small own t)
term_image P scope small large maps own other (variable v) sort st nm h = nm.images.variables v sort h
term_image P scope small large maps own other (individual i) sort st nm h = individual_image P small large maps i sort (slice_get P.individuals i) st.embedding refl h
term_image P scope small large maps own other (parameter p) sort st nm h = nm.images.parameters p sort h
term_image P scope small large maps own other (choice c) sort st nm h = nm.images.choices c sort h

pub terms_image : (P : Protocol) (scope : Scope) (small large : Structure) (maps : ℕ → ℕ → ℕ) (own other : Environment) (ts : List Term) (sorts : List ℕ) → Stand P small large maps → Named scope small maps own other → HaveSorts P scope ts sorts → map (value_of_term large other) ts ≡ images maps sorts (map (value_of_term small own) ts)
terms_image P scope small large maps own other [] [] st nm h = refl
terms_image P scope small large maps own other [] (sort ∷ sorts) st nm h = absurd (let k : ⊥ = cc in k)
terms_image P scope small large maps own other (t ∷ ts) [] st nm h = absurd (let k : ⊥ = cc in k)
terms_image P scope small large maps own other (t ∷ ts) (sort ∷ sorts) st nm h =
    let here : sort_of P scope t ≡ Some sort = cc in
    let rest : map (sort_of P scope) ts ≡ map Some sorts = cc in
    let first = term_image P scope small large maps own other t sort st nm here in
    let others = terms_image P scope small large maps own other ts sorts st nm rest in
    cc

pub lt_test : (m n : ℕ) → m < n → nat_lt m n ≡ true
lt_test m n h = grind (arith, nat_tests)

pub terms_inside : (P : Protocol) (scope : Scope) (small large : Structure) (maps : ℕ → ℕ → ℕ) (own other : Environment) (ts : List Term) (sorts : List ℕ) → Stand P small large maps → Named scope small maps own other → HaveSorts P scope ts sorts → is_tuple small.sizes sorts (map (value_of_term small own) ts) ≡ true
terms_inside P scope small large maps own other [] [] st nm h = refl
terms_inside P scope small large maps own other [] (sort ∷ sorts) st nm h = absurd (let k : ⊥ = cc in k)
terms_inside P scope small large maps own other (t ∷ ts) [] st nm h = absurd (let k : ⊥ = cc in k)
terms_inside P scope small large maps own other (t ∷ ts) (sort ∷ sorts) st nm h =
    let here : sort_of P scope t ≡ Some sort = cc in
    let rest : map (sort_of P scope) ts ≡ map Some sorts = cc in
    both _ _ (lt_test _ _ (term_fits P scope small own t sort st.structure nm.fits here)) (terms_inside P scope small large maps own other ts sorts st nm rest)

-- two numbers and their images are in one order
record Ordered (a b x y : ℕ) : Type 0 where
  before : a < b → x < y
  after : b < a → y < x
  equal : a ≡ b → x ≡ y

pub data Comparison (a b : ℕ) : Type 0 where
  lower : a < b → Comparison a b
  level : a ≡ b → Comparison a b
  higher : b < a → Comparison a b

pub compared : (a b : ℕ) → Comparison a b
compared a b = by_both (cases_lt a b) (cases_lt b a)
  where
    by_both : (a < b) ⊎ (b ≤ a) → (b < a) ⊎ (a ≤ b) → Comparison a b
    by_both (inl h) k = lower h
    by_both (inr h) (inl k) = higher k
    by_both (inr h) (inr k) = level (omega arith)

pub record SameOrder (a b x y : ℕ) : Type 0 where
  pub equal : nat_eq a b ≡ nat_eq x y
  pub less : nat_lt a b ≡ nat_lt x y
  pub at_most : nat_le a b ≡ nat_le x y

same_order : (a b x y : ℕ) → Ordered a b x y → Comparison a b → SameOrder a b x y
same_order a b x y o (lower h) =
    let k = o.before h in
    record { equal = grind (arith, nat_tests); less = grind (arith, nat_tests); at_most = grind (arith, nat_tests) }
same_order a b x y o (level h) =
    let k = o.equal h in
    record { equal = grind (arith, nat_tests); less = grind (arith, nat_tests); at_most = grind (arith, nat_tests) }
same_order a b x y o (higher h) =
    let k = o.after h in
    record { equal = grind (arith, nat_tests); less = grind (arith, nat_tests); at_most = grind (arith, nat_tests) }

pub order_kept : (P : Protocol) (small large : Structure) (maps : ℕ → ℕ → ℕ) (sort a b : ℕ) → IsEmbedding P small large maps → a < size_of small sort → b < size_of small sort → SameOrder a b (maps sort a) (maps sort b)
order_kept P small large maps sort a b em h k =
    same_order a b (maps sort a) (maps sort b)
    (record { before = λ l. em.increasing sort a b l k; after = λ l. em.increasing sort b a l h; equal = λ e. ap (maps sort) e })
    (compared a b)

pub terms_order : (P : Protocol) (scope : Scope) (small large : Structure) (maps : ℕ → ℕ → ℕ) (own other : Environment) (a b : Term) (sort : ℕ) → Stand P small large maps → Named scope small maps own other → HasSort P scope a sort → HasSort P scope b sort → SameOrder (value_of_term small own a) (value_of_term small own b) (value_of_term large other a) (value_of_term large other b)
terms_order P scope small large maps own other a b sort st nm h k =
    let first = term_image P scope small large maps own other a sort st nm h in
    let second = term_image P scope small large maps own other b sort st nm k in
    subst (λ x. SameOrder (value_of_term small own a) (value_of_term small own b) x (value_of_term large other b)) (sym first)
    (subst (λ y. SameOrder (value_of_term small own a) (value_of_term small own b) (maps sort (value_of_term small own a)) y) (sym second)
    (order_kept P small large maps sort (value_of_term small own a) (value_of_term small own b) st.embedding
    (term_fits P scope small own a sort st.structure nm.fits h)
    (term_fits P scope small own b sort st.structure nm.fits k)))

bound_fits : (b : Bool) (o : Option ℕ) (sort wanted e old : ℕ) (size : ℕ → ℕ) → e < size sort → (o ≡ Some wanted → old < size wanted) → (if b then Some sort else o) ≡ Some wanted → (if b then e else old) < size wanted
bound_fits true o sort wanted e old size below rest h = let k : sort ≡ wanted = cc in subst (λ t. e < size t) k below
bound_fits false o sort wanted e old size below rest h = rest h

bound_image : (b : Bool) (o : Option ℕ) (maps : ℕ → ℕ → ℕ) (sort wanted e old other : ℕ) → (o ≡ Some wanted → other ≡ maps wanted old) → (if b then Some sort else o) ≡ Some wanted → (if b then maps sort e else other) ≡ maps wanted (if b then e else old)
bound_image true o maps sort wanted e old other rest h = let k : sort ≡ wanted = cc in ap (λ t. maps t e) k
bound_image false o maps sort wanted e old other rest h = rest h

pub named_bound : (scope : Scope) (small : Structure) (maps : ℕ → ℕ → ℕ) (own other : Environment) (v sort e : ℕ) → Named scope small maps own other → e < size_of small sort → Named (with_variable scope v sort) small maps (bind own v e) (bind other v (maps sort e))
named_bound scope small maps own other v sort e nm below = record {
  fits = record {
    variables = λ w wanted h. bound_fits (nat_eq w v) (scope.variables w) sort wanted e (own.variables w) (size_of small) below (nm.fits.variables w wanted) h;
    parameters = nm.fits.parameters;
    choices = nm.fits.choices;
  };
  images = record {
    variables = λ w wanted h. bound_image (nat_eq w v) (scope.variables w) maps sort wanted e (own.variables w) (other.variables w) (nm.images.variables w wanted) h;
    parameters = nm.images.parameters;
    choices = nm.images.choices;
  };
}

-- the images are exactly what the test of images tells
pub image_is : (small : Structure) (maps : ℕ → ℕ → ℕ) (sort e : ℕ) → e < size_of small sort → is_image small maps sort (maps sort e) ≡ true
image_is small maps sort e below = (some_is_for_some (size_of small sort) (λ d. nat_eq (maps sort d) (maps sort e))).1 (e, below, grind (arith, nat_tests))

pub image_from : (small : Structure) (maps : ℕ → ℕ → ℕ) (sort d : ℕ) → is_image small maps sort d ≡ true → (e : ℕ) × (e < size_of small sort) × (maps sort e ≡ d)
image_from small maps sort d h =
    let found = (some_is_for_some (size_of small sort) (λ e. nat_eq (maps sort e) d)).0 h in
    (found.0, found.1, from_test (maps sort found.0) d found.2)
  where
    from_test : (m n : ℕ) → nat_eq m n ≡ true → m ≡ n
    from_test m n h = grind (arith, nat_tests)
