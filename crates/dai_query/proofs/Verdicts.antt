-- What an answer at enough sizes says of structures of all sizes.
use Rattle.std.proofs.Common.{◌≡◌, ◌<◌, ℕ, zero, suc, length, get_or, Bool, true, false, List, [], ◌∷◌, Option, None, Some, sym, ap, ◌∙◌, subst, refl, arith}
use Rattle.std.specs.Prelude.{slice_get, IsTrue, IsSome}
use Rattle.std.specs.Option.{option_map}
use Rattle.std.specs.List.{All, filter_map, cons_option}
use Rattle.std.proofs.lemmas.Option.{get_or_from_slice_get, slice_get-get_or}
use Rattle.std.proofs.lemmas.List.Elements.{All-nil, All-cons}
use Rattle.dai_model.proofs.Typed.{slice_get-length}
use Rattle.dai_model.specs.Formula.{Formula}
use Rattle.dai_model.specs.Protocol.{Protocol, Block, Action}
use Rattle.dai_model.specs.Value.{empty_environment, value_of, Satisfies}
use Rattle.dai_model.specs.Reachable.{IsStepOf}
use Rattle.dai_model.specs.WellSorted.{closed_scope, IsWellSorted, IsWellSortedBlock}
use Rattle.dai_model.specs.Profile.{IsAccepted, IsBlockInProfile}
use Rattle.dai_model.specs.Sizes.{needed_for_block, needed_for_implied}
use Rattle.dai_model.specs.Classes.{all_sizes, up_to}
use Rattle.dai_cut.specs.Small.{AreEnough, IsTrueAfter, IsTrueAtFirst, IsTrueGiven, IsUniversalClaim, bound_counts}
use Rattle.dai_cut.proofs.SmallModel.{enough_length, enough_at, by_refutation}
use Rattle.dai_cut.proofs.SmallSets.{left_by_init, step_by_init}
use Rattle.dai_cut.proofs.SmallFormulas.{after_decided, given_decided}
use Rattle.dai_logic.specs.declared.structure.BlockId.TheVariants.{Act}
use Rattle.dai_logic.specs.Protocols.{block_named}
use Rattle.dai_logic.specs.Tables.{structure_of}
use Rattle.dai_ground.specs.declared.found.Found.{Found}
use Rattle.dai_ground.specs.declared.found.Answer.{Answer}
use Rattle.dai_ground.specs.declared.found.Answer.TheVariants.{Holds, Broken}
use Rattle.dai_ground.specs.Answers.{IsFound, NoneRefutes, IsAnswerTo, picked}
use Rattle.dai_query.specs.Verdicts.{IsRefutation, Decides, verdict_of}

-- what all have, those at some places have
all_picked : {X : Type 0} (Q : X → Type 0) (xs : List X) (ks : List ℕ) → All Q xs → All Q (filter_map (slice_get xs) ks)
all_picked Q xs [] all = All-nil Q
all_picked {X} Q xs (k ∷ ks) all = picked_next (slice_get xs k) refl (all_picked Q xs ks all)
  where
    picked_next : (o : Option X) → slice_get xs k ≡ o → All Q (filter_map (slice_get xs) ks) → All Q (cons_option o (filter_map (slice_get xs) ks))
    picked_next None is rest = rest
    picked_next (Some x) is rest = All-cons Q x (filter_map (slice_get xs) ks) (subst Q (get_or_from_slice_get xs k x x is) (all k x (slice_get-length xs k x is))) rest

not_both : (b : Bool) → b ≡ false → IsTrue b → ⊥
not_both b h k = let e : true ≡ false = sym k ∙ h in cc

same_value : {A : Type 0} (x y : A) → Some x ≡ Some y → x ≡ y
same_value x y h = cc

-- what refutes, and what it refutes
refutation : (P : Protocol) (block : Option Block) (premises : List Formula) (f : Formula) (sizes : List ℕ) (x : Found) → IsFound P block premises f sizes x → IsRefutation P block premises f x
refutation P block premises f sizes x h = record {
  before_fits = h.before_fits;
  after_fits = h.after_fits;
  axioms = h.refutes.axioms;
  premises_met = h.premises_met;
  given = h.world.given;
  chosen = h.world.chosen;
  leaves = h.leaves;
  is_false = h.is_broken;
}

step_found : (P : Protocol) (block : Block) (premises : List Formula) (f : Formula) (sizes : List ℕ) (x : Found) → IsFound P (Some block) premises f sizes x → IsStepOf P block (structure_of P x.before) (structure_of P x.after)
step_found P block premises f sizes x h = record { arguments = x.args.items; choices = x.choices.items; given = h.world.given; chosen = h.world.chosen; leaves = h.leaves }

-- steps
none_after : (P : Protocol) (block : Block) (premises : List Formula) (f : Formula) (sizes used : List ℕ) → NoneRefutes P (Some block) (picked premises used) f sizes → IsTrueAfter (up_to sizes) P premises block f
none_after P block premises f sizes used none =
    λ s t inside st axioms met step.
    by_refutation (value_of t empty_environment f) (λ broken.
    none (record { structure = s; arguments = step.arguments; choices = step.choices })
    (record { structure = st; sizes = inside; given = step.given; chosen = step.chosen })
    (all_picked (Satisfies s) premises used met)
    (record { axioms = axioms; after = t; leaves = step.leaves; is_broken = broken }))

after_refuted : (P : Protocol) (block : Block) (premises : List Formula) (f : Formula) (sizes : List ℕ) (x : Found) → IsFound P (Some block) premises f sizes x → IsTrueAfter all_sizes P premises block f → ⊥
after_refuted P block premises f sizes x h all =
    not_both (value_of (structure_of P x.after) empty_environment f) h.is_broken
    (all (structure_of P x.before) (structure_of P x.after) tt h.world.structure h.refutes.axioms h.premises_met (step_found P block premises f sizes x h))

after_answered : (P : Protocol) (block : Block) (premises : List Formula) (f : Formula) (sizes : List ℕ) (answer : Answer) → IsAccepted P → IsWellSortedBlock P block → IsBlockInProfile block → All (IsUniversalClaim P) premises → IsUniversalClaim P f → AreEnough P (needed_for_block P block (bound_counts P f)) sizes → IsAnswerTo P (Some block) premises f sizes answer → Decides (IsTrueAfter all_sizes P premises block f) (IsRefutation P (Some block) premises f) (verdict_of answer)
after_answered P block premises f sizes (Holds used) p w profile each claim enough h = (after_decided P block premises f sizes p w profile each claim enough).0 (none_after P block premises f sizes used.items h.1)
after_answered P block premises f sizes (Broken x) p w profile each claim enough h = (refutation P (Some block) premises f sizes x h, after_refuted P block premises f sizes x h)

-- init: its steps from any structure that meets the axioms lead to the initial states
no_premises : (Q : Formula → Type 0) → All Q []
no_premises Q = λ k d below. absurd (omega (arith, below))

first_from : (P : Protocol) (f : Formula) → IsAccepted P → IsTrueAfter all_sizes P [] P.init f → IsTrueAtFirst all_sizes P f
first_from P f p all = λ s _ init. all init.before s tt init.structure init.axioms (no_premises (Satisfies init.before)) (step_by_init P s init p.sorted)

first_back : (P : Protocol) (f : Formula) → IsAccepted P → IsTrueAtFirst all_sizes P f → IsTrueAfter all_sizes P [] P.init f
first_back P f p all = λ s t _ st axioms met step. all t tt (left_by_init P s t p.sorted st axioms step)

decided_as : (A B : Type 0) (Refutation : Found → Type 0) (answer : Answer) → (A → B) → (B → A) → Decides A Refutation (verdict_of answer) → Decides B Refutation (verdict_of answer)
decided_as A B Refutation (Holds used) to from d = to d
decided_as A B Refutation (Broken x) to from d = (d.0, λ b. d.1 (from b))

pub first_verdict : (P : Protocol) (f : Formula) (sizes : List ℕ) (answer : Answer) → IsAccepted P → IsUniversalClaim P f → AreEnough P (needed_for_block P P.init (bound_counts P f)) sizes → IsAnswerTo P (Some P.init) [] f sizes answer → Decides (IsTrueAtFirst all_sizes P f) (IsRefutation P (Some P.init) [] f) (verdict_of answer)
first_verdict P f sizes answer p claim enough h =
    decided_as (IsTrueAfter all_sizes P [] P.init f) (IsTrueAtFirst all_sizes P f) (IsRefutation P (Some P.init) [] f) answer (first_from P f p) (first_back P f p)
    (after_answered P P.init [] f sizes answer p p.sorted.init p.profile.init (no_premises (IsUniversalClaim P)) claim enough h)

-- an action of the protocol
member_at : {X : Type 0} (Q : X → Type 0) (xs : List X) (k : ℕ) (x : X) → All Q xs → slice_get xs k ≡ Some x → Q x
member_at Q xs k x all is = subst Q (get_or_from_slice_get xs k x x is) (all k x (slice_get-length xs k x is))

pub after_verdict : (P : Protocol) (number : ℕ) (a : Action) (premises : List Formula) (f : Formula) (sizes : List ℕ) (answer : Answer) → slice_get P.actions number ≡ Some a → IsAccepted P → All (IsUniversalClaim P) premises → IsUniversalClaim P f → AreEnough P (needed_for_block P a.block (bound_counts P f)) sizes → IsAnswerTo P (block_named P (Act number)) premises f sizes answer → Decides (IsTrueAfter all_sizes P premises a.block f) (IsRefutation P (Some a.block) premises f) (verdict_of answer)
after_verdict P number a premises f sizes answer is p each claim enough h =
    after_answered P a.block premises f sizes answer p
    (member_at (λ (b : Action). IsWellSortedBlock P b.block) P.actions number a p.sorted.actions is)
    (member_at (λ (b : Action). IsBlockInProfile b.block) P.actions number a p.profile.actions is)
    each claim enough (subst (λ o. IsAnswerTo P o premises f sizes answer) (ap (option_map (λ (b : Action). b.block)) is) h)

pub action_at : (P : Protocol) (number : ℕ) → number < length P.actions → (a : Action) × (slice_get P.actions number ≡ Some a)
action_at P number below =
    let d : Action = record { name = []; block = P.init } in
    (get_or P.actions number d, slice_get-get_or P.actions number d below)

pub action_known : (P : Protocol) (number : ℕ) → number < length P.actions → IsSome (block_named P (Act number))
action_known P number below = by_action (slice_get P.actions number) (action_at P number below).1
  where
    by_action : (o : Option Action) {a : Action} → o ≡ Some a → IsSome (option_map (λ (b : Action). b.block) o)
    by_action None is = absurd (let n : ⊥ = cc in n)
    by_action (Some b) is = refl

-- structures alone
none_given : (P : Protocol) (premises : List Formula) (f : Formula) (sizes used : List ℕ) → NoneRefutes P None (picked premises used) f sizes → IsTrueGiven (up_to sizes) P premises f
none_given P premises f sizes used none =
    λ s inside st axioms met.
    by_refutation (value_of s empty_environment f) (λ broken.
    none (record { structure = s; arguments = []; choices = [] })
    (record { structure = st; sizes = inside; given = refl; chosen = refl })
    (all_picked (Satisfies s) premises used met)
    (record { axioms = axioms; after = s; leaves = refl; is_broken = broken }))

given_refuted : (P : Protocol) (premises : List Formula) (f : Formula) (sizes : List ℕ) (x : Found) → IsFound P None premises f sizes x → IsTrueGiven all_sizes P premises f → ⊥
given_refuted P premises f sizes x h all =
    let s = structure_of P x.before in
    let same : structure_of P x.after ≡ s = sym (same_value s (structure_of P x.after) h.leaves) in
    not_both (value_of s empty_environment f) (subst (λ t. value_of t empty_environment f ≡ false) same h.is_broken)
    (all s tt h.world.structure h.refutes.axioms h.premises_met)

pub given_verdict : (P : Protocol) (premises : List Formula) (f : Formula) (sizes : List ℕ) (answer : Answer) → IsAccepted P → All (IsUniversalClaim P) premises → IsUniversalClaim P f → AreEnough P (needed_for_implied P (bound_counts P f)) sizes → IsAnswerTo P None premises f sizes answer → Decides (IsTrueGiven all_sizes P premises f) (IsRefutation P None premises f) (verdict_of answer)
given_verdict P premises f sizes (Holds used) p each claim enough h = (given_decided P premises f sizes p each claim enough).0 (none_given P premises f sizes used.items h.1)
given_verdict P premises f sizes (Broken x) p each claim enough h = (refutation P None premises f sizes x h, given_refuted P premises f sizes x h)

-- what a question wants of sizes and formulas
inhabited_by : (P : Protocol) (needed : ℕ → ℕ) (sizes : List ℕ) → AreEnough P needed sizes → ((sort : ℕ) → 0 < needed sort) → All (λ n. 0 < n) sizes
inhabited_by P needed sizes enough positive = λ sort d below.
    let long = enough_length P needed sizes enough in
    let a = enough_at P needed sizes sort enough (omega (arith, long, below)) in
    let b = positive sort in
    let e = same_default sizes sort d below in
    omega (arith, a, b, e)
  where
    same_default : (xs : List ℕ) (k d : ℕ) → k < length xs → get_or xs k d ≡ get_or xs k 0
    same_default [] k d below = absurd (omega (arith, below))
    same_default (x ∷ xs) zero d below = refl
    same_default (x ∷ xs) (suc k) d below = same_default xs k d (omega (arith, below))

pub inhabited_for_block : (P : Protocol) (block : Block) (f : Formula) (sizes : List ℕ) → AreEnough P (needed_for_block P block (bound_counts P f)) sizes → All (λ n. 0 < n) sizes
inhabited_for_block P block f sizes enough = inhabited_by P (needed_for_block P block (bound_counts P f)) sizes enough (λ sort. omega arith)

pub inhabited_for_implied : (P : Protocol) (f : Formula) (sizes : List ℕ) → AreEnough P (needed_for_implied P (bound_counts P f)) sizes → All (λ n. 0 < n) sizes
inhabited_for_implied P f sizes enough = inhabited_by P (needed_for_implied P (bound_counts P f)) sizes enough (λ sort. omega arith)

pub closed_claims : (P : Protocol) (premises : List Formula) → All (IsUniversalClaim P) premises → All (IsWellSorted P closed_scope) premises
closed_claims P premises each = λ k d below. (each k d below).closed
