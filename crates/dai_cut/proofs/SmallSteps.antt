-- The small-model law for steps: a step that leads to a structure which does not meet a clause has one in a cut.
use Rattle.std.proofs.Common.{◌≡◌, ◌<◌, ◌≤◌, ◌+◌, get_or, length, ℕ, zero, suc, Bool, true, false, cond, List, [], ◌∷◌, ◌++◌, sym, subst, refl, arith, inl, inr, ◌⊎◌}
use Rattle.std.specs.Prelude.{nat_eq, max, slice_index}
use Rattle.std.specs.List.{Contains}
use Rattle.std.proofs.lemmas.Bool.Decides.{nat_tests}
use Rattle.std.proofs.lemmas.Bool.{cases_lt}
use Rattle.dai_model.specs.Protocol.{Protocol, Block}
use Rattle.dai_model.specs.Structure.{Structure, IsStructure}
use Rattle.dai_model.specs.Value.{environment_of, SatisfiesAxioms}
use Rattle.dai_model.specs.Reachable.{IsStepOf}
use Rattle.dai_model.specs.WellSorted.{IsWellSortedBlock}
use Rattle.dai_model.specs.Profile.{IsAccepted, IsBlockInProfile, witnesses_in, requirements_in}
use Rattle.dai_model.specs.Placement.{of_sort, ArePlacements}
use Rattle.dai_model.specs.Clause.{Clause, clause_value, Meets, MeetsEach}
use Rattle.dai_model.specs.Template.{Bounds, IsTemplate}
use Rattle.dai_model.specs.Sizes.{count_of, individual_count, needed_for_block}
use Rattle.dai_model.specs.Classes.{all_sizes, up_to, Belongs}
use Rattle.dai_model.proofs.Typed.{executes_structure}
use Rattle.dai_model.proofs.Below.{slice_get-some}
use Rattle.dai_cut.specs.Embedding.{images, image_of_placement}
use Rattle.dai_cut.specs.Cut.{numbering, place_of, AreChosen, VariablesAreChosen, Element, count_in, HoldsEach}
use Rattle.dai_cut.specs.Small.{HoldsAfter, AreEnough}
use Rattle.dai_cut.proofs.Placed.{meets_restricted, variable_below}
use Rattle.dai_cut.proofs.Cuts.{stand, places_inside, block_left, numbered_placements, cut_value}
use Rattle.dai_cut.proofs.Witnesses.{count_of-cons, count_in-append, count_in-cons, count_in-none, holds_left, holds_right, find_code}
use Rattle.dai_cut.proofs.Marked.{small_cut}
use Rattle.dai_cut.proofs.SmallModel.{small_belongs, axioms_restricted, by_refutation, Refuted, GoesDown}

-- the elements of a tuple
abbrev tuple_marks : List ℕ → List ℕ → List Element
tuple_marks [] es = []
tuple_marks (sort ∷ sorts) [] = []
tuple_marks (sort ∷ sorts) (e ∷ es) = record { sort = sort; number = e } ∷ tuple_marks sorts es

count_tuple : (sorts es : List ℕ) (sort : ℕ) → count_in sort (tuple_marks sorts es) ≤ count_of sort sorts
count_tuple [] es sort = let a = count_in-none sort in omega (arith, a)
count_tuple (t ∷ sorts) [] sort = let a = count_in-none sort in omega (arith, a)
count_tuple (t ∷ sorts) (e ∷ es) sort =
    let here : Element = record { sort = t; number = e } in
    let a = count_in-cons sort here (tuple_marks sorts es) in
    let b = count_of-cons sort t sorts in
    let c = count_tuple sorts es sort in
    omega (arith, a, b, c)

tuple_chosen : (chosen : ℕ → ℕ → Bool) (sorts es : List ℕ) → HoldsEach chosen (tuple_marks sorts es) → AreChosen chosen sorts es
tuple_chosen chosen [] es h = tt
tuple_chosen chosen (t ∷ sorts) [] h = tt
tuple_chosen chosen (t ∷ sorts) (e ∷ es) h = (h.0, tuple_chosen chosen sorts es h.1)

-- the elements of one type
abbrev sort_marks : ℕ → List ℕ → List Element
sort_marks sort [] = []
sort_marks sort (e ∷ es) = record { sort = sort; number = e } ∷ sort_marks sort es

counted : (b : Bool) (n : ℕ) → b ≡ true → cond b 1 0 + n ≡ 1 + n
counted true n h = refl
counted false n h = absurd (let k : ⊥ = cc in k)

not_counted : (b : Bool) (n : ℕ) → b ≡ false → cond b 1 0 + n ≡ n
not_counted true n h = absurd (let k : ⊥ = cc in k)
not_counted false n h = omega arith

count_own : (t : ℕ) (es : List ℕ) → count_in t (sort_marks t es) ≡ length es
count_own t [] = count_in-none t
count_own t (e ∷ es) =
    let here : Element = record { sort = t; number = e } in
    let a = count_in-cons t here (sort_marks t es) in
    let b = count_own t es in
    let c = counted (nat_eq t t) (count_in t (sort_marks t es)) (same_number t) in
    omega (arith, a, b, c)
  where
    same_number : (n : ℕ) → nat_eq n n ≡ true
    same_number n = grind (arith, nat_tests)

count_other : (t sort : ℕ) (es : List ℕ) → nat_eq t sort ≡ false → count_in sort (sort_marks t es) ≡ 0
count_other t sort [] h = count_in-none sort
count_other t sort (e ∷ es) h =
    let here : Element = record { sort = t; number = e } in
    let a = count_in-cons sort here (sort_marks t es) in
    let b = count_other t sort es h in
    let c = not_counted (nat_eq t sort) (count_in sort (sort_marks t es)) h in
    omega (arith, a, b, c)

sort_chosen : (chosen : ℕ → ℕ → Bool) (sort : ℕ) (es : List ℕ) (i : ℕ) → HoldsEach chosen (sort_marks sort es) → i < length es → chosen sort (get_or es i 0) ≡ true
sort_chosen chosen sort [] i h below = absurd (omega (arith, below))
sort_chosen chosen sort (e ∷ es) zero h below = h.0
sort_chosen chosen sort (e ∷ es) (suc i) h below = sort_chosen chosen sort es i h.1 (omega (arith, below))

-- the elements of a placement, for the types below n
abbrev placement_marks : List (List ℕ) → ℕ → List Element
placement_marks elements zero = []
placement_marks elements (suc n) = placement_marks elements n ++ sort_marks n (of_sort elements n)

record CountPlaced (count length_of sort n : ℕ) : Type 0 where
  few : count ≤ length_of
  not_yet : n ≤ sort → count ≡ 0

count_next : (sort n count last length_of : ℕ) (same : Bool) → nat_eq n sort ≡ same → CountPlaced count length_of sort n → (same ≡ true → last ≡ length_of) → (same ≡ false → last ≡ 0) → CountPlaced (count + last) length_of sort (suc n)
count_next sort n count last length_of true is rec own other =
    let e : n ≡ sort = grind (arith, nat_tests) in
    let a = rec.not_yet (omega (arith, e)) in
    let b = own refl in
    record { few = omega (arith, a, b); not_yet = λ h. absurd (omega (arith, e, h)) }
count_next sort n count last length_of false is rec own other =
    let a = rec.few in
    let b = other refl in
    record { few = omega (arith, a, b); not_yet = λ h. (let c = rec.not_yet (omega (arith, h)) in omega (arith, b, c)) }

count_placed : (elements : List (List ℕ)) (n sort : ℕ) → CountPlaced (count_in sort (placement_marks elements n)) (length (of_sort elements sort)) sort n
count_placed elements zero sort = let a = count_in-none sort in record { few = omega (arith, a); not_yet = λ h. a }
count_placed elements (suc n) sort =
    let split = count_in-append sort (placement_marks elements n) (sort_marks n (of_sort elements n)) in
    subst (λ count. CountPlaced count (length (of_sort elements sort)) sort (suc n)) (sym split)
    (count_next sort n (count_in sort (placement_marks elements n)) (count_in sort (sort_marks n (of_sort elements n))) (length (of_sort elements sort)) (nat_eq n sort) refl (count_placed elements n sort)
    (λ same. let e : n ≡ sort = grind (arith, nat_tests) in subst (λ t. count_in sort (sort_marks t (of_sort elements t)) ≡ length (of_sort elements sort)) (sym e) (count_own sort (of_sort elements sort)))
    (λ other. count_other n sort (of_sort elements n) other))

placed_chosen : (chosen : ℕ → ℕ → Bool) (elements : List (List ℕ)) (n sort i : ℕ) → HoldsEach chosen (placement_marks elements n) → sort < n → i < length (of_sort elements sort) → chosen sort (get_or (of_sort elements sort) i 0) ≡ true
placed_chosen chosen elements zero sort i h below inside = absurd (omega (arith, below))
placed_chosen chosen elements (suc n) sort i h below inside =
    last_or_before (λ before. placed_chosen chosen elements n sort i (holds_left chosen (placement_marks elements n) (sort_marks n (of_sort elements n)) h) before inside) (cases_lt sort n)
  where
    last_or_before : (sort < n → chosen sort (get_or (of_sort elements sort) i 0) ≡ true) → (sort < n) ⊎ (n ≤ sort) → chosen sort (get_or (of_sort elements sort) i 0) ≡ true
    last_or_before rec (inl before) = rec before
    last_or_before rec (inr last) =
        let e : n ≡ sort = omega (arith, below, last) in
        let held = holds_right chosen (placement_marks elements n) (sort_marks n (of_sort elements n)) h in
        sort_chosen chosen sort (of_sort elements sort) i (subst (λ t. HoldsEach chosen (sort_marks t (of_sort elements t))) e held) inside

variables_chosen : (P : Protocol) (chosen : ℕ → ℕ → Bool) (counts sizes : List ℕ) (elements : List (List ℕ)) → length counts ≡ length P.sorts → ArePlacements P counts sizes elements → HoldsEach chosen (placement_marks elements (length P.sorts)) → VariablesAreChosen chosen counts elements
variables_chosen P chosen counts sizes elements long p h =
    λ v inside.
    let below = variable_below counts v inside in
    let here : v.sort < length P.sorts = omega (arith, below, long) in
    let found = slice_get-some P.sorts v.sort here in
    let count = (p.each v.sort found.0 found.1).one_each in
    placed_chosen chosen elements (length P.sorts) v.sort v.number h here (omega (arith, count, inside))

-- the parts of a question
abbrev step_marks : Protocol → Block → List ℕ → List ℕ → List Element → List Element → List Element
step_marks P block arguments choices witnesses broken = tuple_marks block.parameters arguments ++ (tuple_marks block.choices choices ++ (witnesses ++ broken))

count_step_marks : (P : Protocol) (block : Block) (arguments choices : List ℕ) (witnesses broken : List Element) (counts : List ℕ) (sort : ℕ) → count_in sort witnesses ≤ count_of sort (witnesses_in (requirements_in block.code)) → count_in sort broken ≤ slice_index counts sort → max (individual_count P sort + count_in sort (step_marks P block arguments choices witnesses broken)) 1 ≤ needed_for_block P block counts sort
count_step_marks P block arguments choices witnesses broken counts sort few fewer =
    let a = count_tuple block.parameters arguments sort in
    let b = count_tuple block.choices choices sort in
    let e = count_in-append sort (tuple_marks block.parameters arguments) (tuple_marks block.choices choices ++ (witnesses ++ broken)) in
    let f = count_in-append sort (tuple_marks block.choices choices) (witnesses ++ broken) in
    let g = count_in-append sort witnesses broken in
    omega (arith, a, b, e, f, g, few, fewer)

-- a step under a premise that goes down, to a structure that refutes the goal
pub leads_small : (P : Protocol) (block : Block) (Premise Goal : Structure → Type 0) (counts sizes : List ℕ) → IsAccepted P → IsWellSortedBlock P block → IsBlockInProfile block → GoesDown P Premise → AreEnough P (needed_for_block P block counts) sizes
    → ((s t : Structure) → Belongs (up_to sizes) s → IsStructure P s → SatisfiesAxioms P s → Premise s → IsStepOf P block s t → Goal t)
    → (s t : Structure) → IsStructure P s → SatisfiesAxioms P s → Premise s → IsStepOf P block s t → Refuted P t Goal counts → ⊥
leads_small P block Premise Goal counts sizes p w profile down enough small s t st axioms met step refuted =
    let env = environment_of step.arguments step.choices in
    let found = find_code P env block.code s t profile.direct step.leaves in
    let broken = refuted.marks in
    let marks = step_marks P block step.arguments step.choices found.marks broken in
    let made = small_cut P s marks p.sorted st in
    let stands = stand P s made.chosen made.small made.is_cut in
    let maps = numbering s made.chosen in
    let rest = holds_right made.chosen (tuple_marks block.parameters step.arguments) (tuple_marks block.choices step.choices ++ (found.marks ++ broken)) made.holds in
    let last = holds_right made.chosen (tuple_marks block.choices step.choices) (found.marks ++ broken) rest in
    let given_chosen = tuple_chosen made.chosen block.parameters step.arguments (holds_left made.chosen (tuple_marks block.parameters step.arguments) (tuple_marks block.choices step.choices ++ (found.marks ++ broken)) made.holds) in
    let picked_chosen = tuple_chosen made.chosen block.choices step.choices (holds_left made.chosen (tuple_marks block.choices step.choices) (found.marks ++ broken) rest) in
    let left = block_left P block s t made.chosen made.small step.arguments step.choices w profile.direct st made.is_cut step.given step.chosen given_chosen picked_chosen (found.enough made.chosen (holds_left made.chosen found.marks broken last)) step.leaves in
    let belongs = small_belongs P s marks (needed_for_block P block counts) sizes made enough (λ sort below. count_step_marks P block step.arguments step.choices found.marks broken counts sort (found.few sort) (refuted.few sort below)) in
    let small_step : IsStepOf P block made.small left.after = record {
      arguments = images (place_of made.chosen) block.parameters step.arguments;
      choices = images (place_of made.chosen) block.choices step.choices;
      given = places_inside P s made.chosen made.small block.parameters step.arguments st made.is_cut step.given given_chosen;
      chosen = places_inside P s made.chosen made.small block.choices step.choices st made.is_cut step.chosen picked_chosen;
      leaves = left.leaves;
    } in
    let reached = small made.small left.after belongs made.is_cut.structure (axioms_restricted P made.small s maps p stands axioms) (down made.small s maps stands met) small_step in
    refuted.refutes made.chosen left.after left.is_cut (holds_right made.chosen found.marks broken last) reached

contradiction : (a b : Bool) → a ≡ b → a ≡ true → b ≡ false → ⊥
contradiction a b same h k = let n : ⊥ = cc in n

clause_refuted : (P : Protocol) (B : Bounds) (t : Structure) (goal : Clause) (elements : List (List ℕ)) → IsStructure P t → IsTemplate P B goal → ArePlacements P goal.counts t.sizes elements → clause_value P t goal elements ≡ false → Refuted P t (λ u. Meets P u goal) goal.counts
clause_refuted P B t goal elements st template placed h = record {
  marks = placement_marks elements (length P.sorts);
  few = λ sort below.
      let c = (count_placed elements (length P.sorts) sort).few in
      let found = slice_get-some P.sorts sort below in
      let d = (placed.each sort found.0 found.1).one_each in
      omega (arith, c, d);
  refutes = λ chosen small is holds met.
      let held = variables_chosen P chosen goal.counts t.sizes elements template.one_count_each placed holds in
      contradiction (clause_value P small goal (image_of_placement P (place_of chosen) elements)) (clause_value P t goal elements)
      (cut_value P B goal t chosen small elements template st is placed held)
      (met (image_of_placement P (place_of chosen) elements) (numbered_placements P goal.counts t chosen small elements st is placed held))
      h;
}

-- what the block leaves is a structure
pub step_structure : (P : Protocol) (block : Block) (s t : Structure) → IsWellSortedBlock P block → IsStructure P s → IsStepOf P block s t → IsStructure P t
step_structure P block s t w st step = executes_structure P block s t step.arguments step.choices w step.given step.chosen st step.leaves

pub leads : (P : Protocol) (B : Bounds) (block : Block) (premises : List Clause) (goal : Clause) (sizes : List ℕ) → IsAccepted P → IsWellSortedBlock P block → IsBlockInProfile block → ((c : Clause) → Contains premises c → IsTemplate P B c) → IsTemplate P B goal → AreEnough P (needed_for_block P block goal.counts) sizes → HoldsAfter (up_to sizes) P premises block goal → HoldsAfter all_sizes P premises block goal
leads P B block premises goal sizes p w profile templates template enough small =
    λ s t _ st axioms meets step elements placed.
    by_refutation (clause_value P t goal elements) (λ h.
    leads_small P block (λ u. MeetsEach P u premises) (λ u. Meets P u goal) goal.counts sizes p w profile
    (λ own large maps stands met c k. meets_restricted P B own large maps c stands (templates c k) (met c k))
    enough small s t st axioms meets step
    (clause_refuted P B t goal elements (step_structure P block s t w st step) template placed h))
