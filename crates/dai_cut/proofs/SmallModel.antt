-- The small-model law: what holds in structures of enough elements holds in all.
use Rattle.std.proofs.Common.{◌≡◌, ◌<◌, ◌≤◌, ◌+◌, get_or, length, ℕ, zero, suc, Bool, true, false, not, List, [], ◌∷◌, map, sym, ◌∙◌, ap, refl, arith}
use Rattle.std.specs.Prelude.{slice_index, max}
use Rattle.std.specs.List.{AllZip, Contains}
use Rattle.std.proofs.lemmas.List.{get_or-map, length-map}
use Rattle.dai_model.specs.Formula.{Formula, truth, relates, same, less, less_or_same, negation, conjunction, disjunction, implication, equivalence, universal, existential, Formulas, no_formulas, with_formula}
use Rattle.dai_model.specs.Protocol.{Protocol}
use Rattle.dai_model.specs.Structure.{Structure, IsStructure}
use Rattle.dai_model.specs.Value.{empty_environment, value_of, Satisfies, SatisfiesAxioms}
use Rattle.dai_model.specs.WellSorted.{closed_scope, IsWellSorted}
use Rattle.dai_model.specs.Profile.{is_universal, IsAccepted, witnesses, witnesses_of_each}
use Rattle.dai_model.specs.Clause.{Clause, Meets, numbers_below}
use Rattle.dai_model.specs.Template.{Bounds, IsTemplate}
use Rattle.dai_model.specs.Sizes.{count_of, bound_sorts, bound_sorts_of_each, individual_count, needed_for_implied}
use Rattle.dai_model.specs.Classes.{all_sizes, up_to, Belongs}
use Rattle.dai_model.proofs.Folds.{numbers_below-length}
use Rattle.dai_model.proofs.Below.{numbers_below-at}
use Rattle.dai_cut.specs.Embedding.{is_image}
use Rattle.dai_cut.specs.Among.{value_among, within, witnessed}
use Rattle.dai_cut.specs.Cut.{numbering, IsCut, Element, count_in, HoldsEach}
use Rattle.dai_cut.specs.Small.{Follows, AreEnough, bound_counts}
use Rattle.dai_cut.proofs.Embedded.{Stand, Named}
use Rattle.dai_cut.proofs.Ranging.{Grows, negated_in_profile, value_grows}
use Rattle.dai_cut.proofs.Restricted.{restricted, universal_restricted}
use Rattle.dai_cut.proofs.Placed.{meets_restricted}
use Rattle.dai_cut.proofs.Cutting.{image_is_chosen}
use Rattle.dai_cut.proofs.Cuts.{stand}
use Rattle.dai_cut.proofs.Witnesses.{count_of-append, count_of-cons, Found, find}
use Rattle.dai_cut.proofs.Marked.{SmallCut, small_cut}

-- lists of sizes, by place
zipped : (xs ys : List ℕ) → length xs ≡ length ys → ((i : ℕ) → i < length xs → get_or xs i 0 ≤ get_or ys i 0) → AllZip (λ x y. x ≤ y) xs ys
zipped [] [] long h = tt
zipped [] (y ∷ ys) long h = absurd (omega (arith, long))
zipped (x ∷ xs) [] long h = absurd (omega (arith, long))
zipped (x ∷ xs) (y ∷ ys) long h = (h 0 (omega arith), zipped xs ys (omega (arith, long)) (λ i below. h (suc i) (omega (arith, below))))

zip_length : (xs ys : List ℕ) → AllZip (λ x y. x ≤ y) xs ys → length xs ≡ length ys
zip_length [] [] h = refl
zip_length [] (y ∷ ys) h = absurd h
zip_length (x ∷ xs) [] h = absurd h
zip_length (x ∷ xs) (y ∷ ys) h = let k = zip_length xs ys h.1 in omega (arith, k)

zip_at : (xs ys : List ℕ) (i : ℕ) → AllZip (λ x y. x ≤ y) xs ys → i < length xs → get_or xs i 0 ≤ get_or ys i 0
zip_at [] ys i h below = absurd (omega (arith, below))
zip_at (x ∷ xs) [] i h below = absurd h
zip_at (x ∷ xs) (y ∷ ys) zero h below = h.0
zip_at (x ∷ xs) (y ∷ ys) (suc i) h below = zip_at xs ys i h.1 (omega (arith, below))

pub number_map : (f : ℕ → ℕ) (n sort : ℕ) → sort < n → get_or (map f (numbers_below n)) sort 0 ≡ f sort
number_map f n sort h =
    let e = numbers_below-length n in
    get_or-map f (numbers_below n) sort 0 0 (omega (arith, e, h)) ∙ ap f (numbers_below-at n sort 0 h)

pub enough_length : (P : Protocol) (needed : ℕ → ℕ) (sizes : List ℕ) → AreEnough P needed sizes → length sizes ≡ length P.sorts
enough_length P needed sizes h =
    let a = zip_length (map needed (numbers_below (length P.sorts))) sizes h in
    let b = length-map (numbers_below (length P.sorts)) needed in
    let c = numbers_below-length (length P.sorts) in
    omega (arith, a, b, c)

pub enough_at : (P : Protocol) (needed : ℕ → ℕ) (sizes : List ℕ) (sort : ℕ) → AreEnough P needed sizes → sort < length P.sorts → needed sort ≤ slice_index sizes sort
enough_at P needed sizes sort h below =
    let b = length-map (numbers_below (length P.sorts)) needed in
    let c = numbers_below-length (length P.sorts) in
    let at = number_map needed (length P.sorts) sort below in
    let k = zip_at (map needed (numbers_below (length P.sorts))) sizes sort h (omega (arith, b, c, below)) in
    omega (arith, at, k)

pub enough_by : (P : Protocol) (needed : ℕ → ℕ) (sizes : List ℕ) → length sizes ≡ length P.sorts → ((sort : ℕ) → sort < length P.sorts → needed sort ≤ slice_index sizes sort) → AreEnough P needed sizes
enough_by P needed sizes long h =
    let b = length-map (numbers_below (length P.sorts)) needed in
    let c = numbers_below-length (length P.sorts) in
    zipped (map needed (numbers_below (length P.sorts))) sizes (omega (arith, b, c, long))
    (λ sort below.
    let here : sort < length P.sorts = omega (arith, b, c, below) in
    let at = number_map needed (length P.sorts) sort here in
    let k = h sort here in
    omega (arith, at, k))

pub small_belongs : (P : Protocol) (s : Structure) (marks : List Element) (needed : ℕ → ℕ) (sizes : List ℕ) (made : SmallCut P s marks) → AreEnough P needed sizes → ((sort : ℕ) → sort < length P.sorts → max (individual_count P sort + count_in sort marks) 1 ≤ needed sort) → Belongs (up_to sizes) made.small
small_belongs P s marks needed sizes made enough few =
    let long = enough_length P needed sizes enough in
    let own = made.is_cut.structure.one_size_each in
    zipped made.small.sizes sizes (omega (arith, long, own))
    (λ sort below.
    let here : sort < length P.sorts = omega (arith, own, below) in
    let a = made.few sort here in
    let b = few sort here in
    let c = enough_at P needed sizes sort enough here in
    omega (arith, a, b, c))

-- closed formulas
pub closed_named : (small : Structure) (maps : ℕ → ℕ → ℕ) → Named closed_scope small maps empty_environment empty_environment
closed_named small maps = record {
  fits = record {
    variables = λ v sort h. absurd (let n : ⊥ = cc in n);
    parameters = λ p sort h. absurd (let n : ⊥ = cc in n);
    choices = λ p sort h. absurd (let n : ⊥ = cc in n);
  };
  images = record {
    variables = λ v sort h. absurd (let n : ⊥ = cc in n);
    parameters = λ p sort h. absurd (let n : ⊥ = cc in n);
    choices = λ p sort h. absurd (let n : ⊥ = cc in n);
  };
}

pub axioms_restricted : (P : Protocol) (small large : Structure) (maps : ℕ → ℕ → ℕ) → IsAccepted P → Stand P small large maps → SatisfiesAxioms P large → SatisfiesAxioms P small
axioms_restricted P small large maps p st axioms =
    λ k d below. universal_restricted P closed_scope small large maps empty_environment empty_environment (get_or P.axioms k d) st (closed_named small maps) (p.sorted.axioms k d below) (p.profile.axioms k d below).force (axioms k d below)

mutual
  witnesses_bound : (sort : ℕ) (even : Bool) (f : Formula) → count_of sort (witnesses even f) ≤ count_of sort (bound_sorts f)
  witnesses_bound sort even (truth b) = omega arith
  witnesses_bound sort even (relates r ts) = omega arith
  witnesses_bound sort even (same a b) = omega arith
  witnesses_bound sort even (less a b) = omega arith
  witnesses_bound sort even (less_or_same a b) = omega arith
  witnesses_bound sort even (negation f) = witnesses_bound sort (not even) f
  witnesses_bound sort even (conjunction fs) = witnesses_bound_each sort even fs
  witnesses_bound sort even (disjunction fs) = witnesses_bound_each sort even fs
  witnesses_bound sort even (implication f g) =
      let a = witnesses_bound sort (not even) f in
      let b = witnesses_bound sort even g in
      let c = count_of-append sort (witnesses (not even) f) (witnesses even g) in
      let d = count_of-append sort (bound_sorts f) (bound_sorts g) in
      omega (arith, a, b, c, d)
  witnesses_bound sort even (equivalence fs) = witnesses_bound_each sort even fs
  witnesses_bound sort true (universal v t f) =
      let a = witnesses_bound sort true f in
      let d = count_of-cons sort t (bound_sorts f) in
      omega (arith, a, d)
  witnesses_bound sort false (universal v t f) =
      let a = witnesses_bound sort false f in
      let c = count_of-cons sort t (witnesses false f) in
      let d = count_of-cons sort t (bound_sorts f) in
      omega (arith, a, c, d)
  witnesses_bound sort true (existential v t f) =
      let a = witnesses_bound sort true f in
      let c = count_of-cons sort t (witnesses true f) in
      let d = count_of-cons sort t (bound_sorts f) in
      omega (arith, a, c, d)
  witnesses_bound sort false (existential v t f) =
      let a = witnesses_bound sort false f in
      let d = count_of-cons sort t (bound_sorts f) in
      omega (arith, a, d)

  witnesses_bound_each : (sort : ℕ) (even : Bool) (fs : Formulas) → count_of sort (witnesses_of_each even fs) ≤ count_of sort (bound_sorts_of_each fs)
  witnesses_bound_each sort even no_formulas = omega arith
  witnesses_bound_each sort even (with_formula f fs) =
      let a = witnesses_bound sort even f in
      let b = witnesses_bound_each sort even fs in
      let c = count_of-append sort (witnesses even f) (witnesses_of_each even fs) in
      let d = count_of-append sort (bound_sorts f) (bound_sorts_of_each fs) in
      omega (arith, a, b, c, d)

pub by_refutation : (b : Bool) → (b ≡ false → ⊥) → b ≡ true
by_refutation true h = refl
by_refutation false h = absurd (h refl)

-- what a cut keeps of a false universal formula
refuted_below : (P : Protocol) (s : Structure) (f : Formula) (found : Found (λ c. value_among s (witnessed c) false empty_environment f ≡ false) (witnesses false f)) (chosen : ℕ → ℕ → Bool) (small : Structure) → IsStructure P s → IsCut P s chosen small → HoldsEach chosen found.marks → IsWellSorted P closed_scope f → is_universal true f ≡ true → value_of small empty_environment f ≡ true → ⊥
refuted_below P s f found chosen small st is holds w force h =
    let maps = numbering s chosen in
    let image = is_image small maps in
    let among = found.enough chosen holds in
    let own = restricted P closed_scope small s maps false empty_environment empty_environment f (stand P s chosen small is) (closed_named small maps) w in
    let grows : Grows false (value_among s (witnessed chosen) false empty_environment f) (value_among s (within image) false empty_environment f) =
    value_grows s (witnessed chosen) (within image) false empty_environment f
    (record { wider = λ sort e below k. image_is_chosen P s chosen small st is sort e below ∙ k; narrower = λ sort e below k. refl })
    (negated_in_profile false f force) in
    let up = grows (sym own ∙ h) in
    let n : ⊥ = cc in n

-- elements, at most so many of each type, that refute the goal in every cut that holds them
pub record Refuted (P : Protocol) (t : Structure) (Goal : Structure → Type 0) (counts : List ℕ) : Type 0 where
  pub marks : List Element
  pub few : (sort : ℕ) → sort < length P.sorts → count_in sort marks ≤ slice_index counts sort
  pub refutes : (chosen : ℕ → ℕ → Bool) (small : Structure) → IsCut P t chosen small → HoldsEach chosen marks → Goal small → ⊥

pub formula_refuted : (P : Protocol) (s : Structure) (f : Formula) → IsStructure P s → IsWellSorted P closed_scope f → is_universal true f ≡ true → value_of s empty_environment f ≡ false → Refuted P s (λ u. Satisfies u f) (bound_counts P f)
formula_refuted P s f st w force h =
    let found = find s false empty_environment f (negated_in_profile false f force) h in
    record {
      marks = found.marks;
      few = λ sort below.
          let a = found.few sort in
          let b = witnesses_bound sort false f in
          let c = number_map (λ t. count_of t (bound_sorts f)) (length P.sorts) sort below in
          omega (arith, a, b, c);
      refutes = λ chosen small is holds met. refuted_below P s f found chosen small st is holds w force met;
    }

-- what holds in a structure holds in each that is embedded in it
abbrev pub GoesDown : Protocol → (Structure → Type 0) → Type 0
GoesDown P Premise = (small large : Structure) (maps : ℕ → ℕ → ℕ) → Stand P small large maps → Premise large → Premise small

-- a universal formula under a premise that goes down
pub implied_small : (P : Protocol) (Premise : Structure → Type 0) (f : Formula) (sizes : List ℕ) → IsAccepted P → GoesDown P Premise → IsWellSorted P closed_scope f → is_universal true f ≡ true → AreEnough P (needed_for_implied P (bound_counts P f)) sizes
    → ((s : Structure) → Belongs (up_to sizes) s → IsStructure P s → SatisfiesAxioms P s → Premise s → Satisfies s f)
    → (s : Structure) → IsStructure P s → SatisfiesAxioms P s → Premise s → Satisfies s f
implied_small P Premise f sizes p down w force enough small s st axioms met =
    by_refutation (value_of s empty_environment f) (λ h.
    let refuted = formula_refuted P s f st w force h in
    let made = small_cut P s refuted.marks p.sorted st in
    let stands = stand P s made.chosen made.small made.is_cut in
    let maps = numbering s made.chosen in
    let belongs = small_belongs P s refuted.marks (needed_for_implied P (bound_counts P f)) sizes made enough (λ sort below. let a = refuted.few sort below in omega (arith, a)) in
    refuted.refutes made.chosen made.small made.is_cut made.holds
    (small made.small belongs made.is_cut.structure (axioms_restricted P made.small s maps p stands axioms) (down made.small s maps stands met)))

-- premises that are clauses of some kind
pub follows_small : (P : Protocol) (Premise : Clause → Type 0) (f : Formula) (sizes : List ℕ) → IsAccepted P → ((c : Clause) → Premise c → (B : Bounds) × IsTemplate P B c) → IsWellSorted P closed_scope f → is_universal true f ≡ true → AreEnough P (needed_for_implied P (bound_counts P f)) sizes
    → ((s : Structure) → Belongs (up_to sizes) s → IsStructure P s → SatisfiesAxioms P s → ((c : Clause) → Premise c → Meets P s c) → Satisfies s f)
    → (s : Structure) → IsStructure P s → SatisfiesAxioms P s → ((c : Clause) → Premise c → Meets P s c) → Satisfies s f
follows_small P Premise f sizes p templates w force enough small s st axioms meets =
    implied_small P (λ u. (c : Clause) → Premise c → Meets P u c) f sizes p
    (λ own large maps stands met c k. let t = templates c k in meets_restricted P t.0 own large maps c stands t.1 (met c k))
    w force enough small s st axioms meets

pub follows : (P : Protocol) (B : Bounds) (premises : List Clause) (f : Formula) (sizes : List ℕ) → IsAccepted P → ((c : Clause) → Contains premises c → IsTemplate P B c) → IsWellSorted P closed_scope f → is_universal true f ≡ true → AreEnough P (needed_for_implied P (bound_counts P f)) sizes → Follows (up_to sizes) P premises f → Follows all_sizes P premises f
follows P B premises f sizes p templates w force enough small =
    λ s _ st axioms meets. follows_small P (Contains premises) f sizes p (λ c k. (B, templates c k)) w force enough small s st axioms meets
