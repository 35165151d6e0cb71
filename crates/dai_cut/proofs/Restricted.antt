-- A formula's value in an embedded structure is its value in the large one with every quantifier over the images.
use Rattle.std.proofs.Common.{◌≡◌, ◌<◌, ℕ, ◌&&◌, Bool, true, false, not, map, sym, ◌∙◌, ap, subst, refl}
use Rattle.dai_model.specs.Formula.{Formula, truth, relates, same, less, less_or_same, negation, conjunction, disjunction, implication, equivalence, universal, existential, Formulas, no_formulas, with_formula}
use Rattle.dai_model.specs.Protocol.{Protocol}
use Rattle.dai_model.specs.Structure.{Structure, size_of}
use Rattle.dai_model.specs.Value.{Environment, bind, every, some, implies, value_of_term, value_of, all_hold, some_holds, all_agree}
use Rattle.dai_model.specs.WellSorted.{Scope, with_variable, IsWellSorted, AreWellSorted}
use Rattle.dai_model.specs.Profile.{has_quantifier, is_universal, is_exists_forall}
use Rattle.dai_model.proofs.Quantifiers.{every_is_for_all, some_is_for_some}
use Rattle.dai_model.proofs.Typed.{and_left, and_right}
use Rattle.dai_cut.specs.Embedding.{IsEmbedding, is_image}
use Rattle.dai_cut.specs.Among.{range_of_every, range_of_some, value_among, all_hold_among, some_holds_among, all_agree_among, within, witnessed}
use Rattle.dai_cut.proofs.Embedded.{both, same_bool, Stand, Named, terms_image, terms_inside, terms_order, named_bound, image_is, image_from}
use Rattle.dai_cut.proofs.Ranging.{free_same, universal_same, universal_in_profile, value_grows}

implied : (p b : Bool) → (p ≡ true → b ≡ true) → implies p b ≡ true
implied true b h = h refl
implied false b h = refl

from_implied : (p b : Bool) → implies p b ≡ true → p ≡ true → b ≡ true
from_implied true b h k = h
from_implied false b h k = absurd (let n : ⊥ = cc in n)

range_every : (chosen : ℕ → ℕ → Bool) (even : Bool) (sort e : ℕ) → range_of_every (within chosen) even sort e ≡ chosen sort e
range_every chosen true sort e = refl
range_every chosen false sort e = refl

range_some : (chosen : ℕ → ℕ → Bool) (even : Bool) (sort e : ℕ) → range_of_some (within chosen) even sort e ≡ chosen sort e
range_some chosen true sort e = refl
range_some chosen false sort e = refl

every_restricted : (P : Protocol) (small large : Structure) (maps : ℕ → ℕ → ℕ) (sort : ℕ) (range own other : ℕ → Bool) → IsEmbedding P small large maps → ((d : ℕ) → range d ≡ is_image small maps sort d) → ((e : ℕ) → e < size_of small sort → own e ≡ other (maps sort e)) → every (size_of small sort) own ≡ every (size_of large sort) (λ d. implies (range d) (other d))
every_restricted P small large maps sort range own other em is equal =
    same_bool (every (size_of small sort) own) (every (size_of large sort) (λ d. implies (range d) (other d)))
    (λ h. (every_is_for_all (size_of large sort) (λ d. implies (range d) (other d))).1
    (λ d below. implied (range d) (other d) (λ passes.
    let from = image_from small maps sort d (sym (is d) ∙ passes) in
    subst (λ x. other x ≡ true) from.2 (sym (equal from.0 from.1) ∙ (every_is_for_all (size_of small sort) own).0 h from.0 from.1))))
    (λ h. (every_is_for_all (size_of small sort) own).1
    (λ e below. equal e below ∙ from_implied (range (maps sort e)) (other (maps sort e))
    ((every_is_for_all (size_of large sort) (λ d. implies (range d) (other d))).0 h (maps sort e) (em.inside sort e below))
    (is (maps sort e) ∙ image_is small maps sort e below)))

some_restricted : (P : Protocol) (small large : Structure) (maps : ℕ → ℕ → ℕ) (sort : ℕ) (range own other : ℕ → Bool) → IsEmbedding P small large maps → ((d : ℕ) → range d ≡ is_image small maps sort d) → ((e : ℕ) → e < size_of small sort → own e ≡ other (maps sort e)) → some (size_of small sort) own ≡ some (size_of large sort) (λ d. range d && other d)
some_restricted P small large maps sort range own other em is equal =
    same_bool (some (size_of small sort) own) (some (size_of large sort) (λ d. range d && other d))
    (λ h.
    let found = (some_is_for_some (size_of small sort) own).0 h in
    (some_is_for_some (size_of large sort) (λ d. range d && other d)).1
    (maps sort found.0, em.inside sort found.0 found.1, both (range (maps sort found.0)) (other (maps sort found.0)) (is (maps sort found.0) ∙ image_is small maps sort found.0 found.1) (sym (equal found.0 found.1) ∙ found.2)))
    (λ h.
    let found = (some_is_for_some (size_of large sort) (λ d. range d && other d)).0 h in
    let from = image_from small maps sort found.0 (sym (is found.0) ∙ and_left (range found.0) (other found.0) found.2) in
    (some_is_for_some (size_of small sort) own).1
    (from.0, from.1, equal from.0 from.1 ∙ (ap other from.2 ∙ and_right (range found.0) (other found.0) found.2)))

mutual
  pub restricted : (P : Protocol) (scope : Scope) (small large : Structure) (maps : ℕ → ℕ → ℕ) (even : Bool) (own other : Environment) (f : Formula) → Stand P small large maps → Named scope small maps own other → IsWellSorted P scope f → value_of small own f ≡ value_among large (within (is_image small maps)) even other f
  restricted P scope small large maps even own other (truth b) st nm w = refl
  restricted P scope small large maps even own other (relates r ts) st nm w =
      st.embedding.relations r w.0 (map (value_of_term small own) ts) w.1 (terms_inside P scope small large maps own other ts w.0.arguments st nm w.2)
      ∙ ap (large.holds r) (sym (terms_image P scope small large maps own other ts w.0.arguments st nm w.2))
  restricted P scope small large maps even own other (same a b) st nm w = (terms_order P scope small large maps own other a b w.0 st nm w.1 w.2).equal
  restricted P scope small large maps even own other (less a b) st nm w = (terms_order P scope small large maps own other a b w.0 st nm w.1 w.2).less
  restricted P scope small large maps even own other (less_or_same a b) st nm w = (terms_order P scope small large maps own other a b w.0 st nm w.1 w.2).at_most
  restricted P scope small large maps even own other (negation f) st nm w = ap not (restricted P scope small large maps (not even) own other f st nm w)
  restricted P scope small large maps even own other (conjunction fs) st nm w = (restricted_each P scope small large maps even own other fs st nm w).0
  restricted P scope small large maps even own other (disjunction fs) st nm w = (restricted_each P scope small large maps even own other fs st nm w).1
  restricted P scope small large maps even own other (implication f g) st nm w =
      let i = restricted P scope small large maps (not even) own other f st nm w.0 in
      let k = restricted P scope small large maps even own other g st nm w.1 in
      cc
  restricted P scope small large maps even own other (equivalence fs) st nm w = (restricted_each P scope small large maps even own other fs st nm w).2
  restricted P scope small large maps even own other (universal v sort f) st nm w =
      every_restricted P small large maps sort (range_of_every (within (is_image small maps)) even sort) (λ e. value_of small (bind own v e) f) (λ d. value_among large (within (is_image small maps)) even (bind other v d) f)
      st.embedding
      (range_every (is_image small maps) even sort)
      (λ e below. restricted P (with_variable scope v sort) small large maps even (bind own v e) (bind other v (maps sort e)) f st (named_bound scope small maps own other v sort e nm below) w.1)
  restricted P scope small large maps even own other (existential v sort f) st nm w =
      some_restricted P small large maps sort (range_of_some (within (is_image small maps)) even sort) (λ e. value_of small (bind own v e) f) (λ d. value_among large (within (is_image small maps)) even (bind other v d) f)
      st.embedding
      (range_some (is_image small maps) even sort)
      (λ e below. restricted P (with_variable scope v sort) small large maps even (bind own v e) (bind other v (maps sort e)) f st (named_bound scope small maps own other v sort e nm below) w.1)

  pub restricted_each : (P : Protocol) (scope : Scope) (small large : Structure) (maps : ℕ → ℕ → ℕ) (even : Bool) (own other : Environment) (fs : Formulas) → Stand P small large maps → Named scope small maps own other → AreWellSorted P scope fs → (all_hold small own fs ≡ all_hold_among large (within (is_image small maps)) even other fs) × (some_holds small own fs ≡ some_holds_among large (within (is_image small maps)) even other fs) × (all_agree small own fs ≡ all_agree_among large (within (is_image small maps)) even other fs)
  restricted_each P scope small large maps even own other no_formulas st nm w = (refl, refl, refl)
  restricted_each P scope small large maps even own other (with_formula f fs) st nm w =
      let i = restricted P scope small large maps even own other f st nm w.0 in
      let k = restricted_each P scope small large maps even own other fs st nm w.1 in
      (cc, cc, cc)

-- without quantifiers a formula has one value in both
pub free_restricted : (P : Protocol) (scope : Scope) (small large : Structure) (maps : ℕ → ℕ → ℕ) (own other : Environment) (f : Formula) → Stand P small large maps → Named scope small maps own other → IsWellSorted P scope f → has_quantifier f ≡ false → value_of small own f ≡ value_of large other f
free_restricted P scope small large maps own other f st nm w free =
    restricted P scope small large maps true own other f st nm w ∙ free_same large (within (is_image small maps)) true other f free

-- a universal formula goes down
pub universal_restricted : (P : Protocol) (scope : Scope) (small large : Structure) (maps : ℕ → ℕ → ℕ) (own other : Environment) (f : Formula) → Stand P small large maps → Named scope small maps own other → IsWellSorted P scope f → is_universal true f ≡ true → value_of large other f ≡ true → value_of small own f ≡ true
universal_restricted P scope small large maps own other f st nm w force h =
    let chosen = is_image small maps in
    let among = universal_same large (witnessed chosen) true other f (λ sort e. refl) force in
    restricted P scope small large maps true own other f st nm w
    ∙ value_grows large (witnessed chosen) (within chosen) true other f (record { wider = λ sort e below k. k; narrower = λ sort e below k. refl }) (universal_in_profile true f force) (among ∙ h)

-- a formula whose negation is universal goes up
pub existential_restricted : (P : Protocol) (scope : Scope) (small large : Structure) (maps : ℕ → ℕ → ℕ) (own other : Environment) (f : Formula) → Stand P small large maps → Named scope small maps own other → IsWellSorted P scope f → is_universal false f ≡ true → value_of small own f ≡ true → value_of large other f ≡ true
existential_restricted P scope small large maps own other f st nm w force h =
    let chosen = is_image small maps in
    let among = universal_same large (witnessed chosen) false other f (λ sort e. refl) force in
    sym among
    ∙ value_grows large (witnessed chosen) (within chosen) false other f (record { wider = λ sort e below k. k; narrower = λ sort e below k. refl }) (universal_in_profile false f force) (sym (restricted P scope small large maps false own other f st nm w) ∙ h)

-- an exists-forall formula goes down where its witnesses are images
pub witnessed_restricted : (P : Protocol) (scope : Scope) (small large : Structure) (maps : ℕ → ℕ → ℕ) (own other : Environment) (f : Formula) → Stand P small large maps → Named scope small maps own other → IsWellSorted P scope f → is_exists_forall true f ≡ true → value_among large (witnessed (is_image small maps)) true other f ≡ true → value_of small own f ≡ true
witnessed_restricted P scope small large maps own other f st nm w force h =
    let chosen = is_image small maps in
    restricted P scope small large maps true own other f st nm w
    ∙ value_grows large (witnessed chosen) (within chosen) true other f (record { wider = λ sort e below k. k; narrower = λ sort e below k. refl }) force h
