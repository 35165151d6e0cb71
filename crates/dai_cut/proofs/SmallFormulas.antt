-- The small-model laws where the premises and the goal are universal formulas.
use Rattle.std.proofs.Common.{◌↔◌, get_or, ℕ, List, [], arith}
use Rattle.std.specs.List.{All}
use Rattle.dai_model.specs.Formula.{Formula}
use Rattle.dai_model.specs.Protocol.{Protocol, Block}
use Rattle.dai_model.specs.Value.{empty_environment, value_of, Satisfies}
use Rattle.dai_model.specs.WellSorted.{closed_scope, IsWellSortedBlock}
use Rattle.dai_model.specs.Profile.{IsAccepted, IsBlockInProfile}
use Rattle.dai_model.specs.Sizes.{needed_for_block, needed_for_implied}
use Rattle.dai_model.specs.Classes.{all_sizes, up_to}
use Rattle.dai_cut.specs.Small.{IsUniversalClaim, IsTrueAtFirst, IsTrueAfter, IsTrueGiven, AreEnough, bound_counts}
use Rattle.dai_cut.proofs.Restricted.{universal_restricted}
use Rattle.dai_cut.proofs.SmallModel.{closed_named, by_refutation, GoesDown, formula_refuted, implied_small}
use Rattle.dai_cut.proofs.SmallSteps.{leads_small, step_structure}
use Rattle.dai_cut.proofs.SmallSets.{left_by_init, step_by_init, still_small}

premises_go_down : (P : Protocol) (premises : List Formula) → All (IsUniversalClaim P) premises → GoesDown P (λ s. All (Satisfies s) premises)
premises_go_down P premises each =
    λ small large maps stands met k d below.
    universal_restricted P closed_scope small large maps empty_environment empty_environment (get_or premises k d) stands (closed_named small maps) (each k d below).closed (each k d below).universal (met k d below)

true_after : (P : Protocol) (block : Block) (premises : List Formula) (f : Formula) (sizes : List ℕ) → IsAccepted P → IsWellSortedBlock P block → IsBlockInProfile block → All (IsUniversalClaim P) premises → IsUniversalClaim P f → AreEnough P (needed_for_block P block (bound_counts P f)) sizes → IsTrueAfter (up_to sizes) P premises block f → IsTrueAfter all_sizes P premises block f
true_after P block premises f sizes p w profile each claim enough small =
    λ s t _ st axioms met step.
    by_refutation (value_of t empty_environment f) (λ h.
    leads_small P block (λ u. All (Satisfies u) premises) (λ u. Satisfies u f) (bound_counts P f) sizes p w profile (premises_go_down P premises each) enough small s t st axioms met step
    (formula_refuted P t f (step_structure P block s t w st step) claim.closed claim.universal h))

no_premises : (Q : Formula → Type 0) → All Q []
no_premises Q = λ k d below. absurd (omega (arith, below))

true_at_first : (P : Protocol) (f : Formula) (sizes : List ℕ) → IsAccepted P → IsUniversalClaim P f → AreEnough P (needed_for_block P P.init (bound_counts P f)) sizes → IsTrueAtFirst (up_to sizes) P f → IsTrueAtFirst all_sizes P f
true_at_first P f sizes p claim enough small =
    λ s _ init.
    true_after P P.init [] f sizes p p.sorted.init p.profile.init (no_premises (IsUniversalClaim P)) claim enough
    (λ u t inside st axioms met step. small t (still_small P P.init sizes u t step inside) (left_by_init P u t p.sorted st axioms step))
    init.before s tt init.structure init.axioms (no_premises (Satisfies init.before)) (step_by_init P s init p.sorted)

-- both ways
pub after_decided : (P : Protocol) (block : Block) (premises : List Formula) (f : Formula) (sizes : List ℕ) → IsAccepted P → IsWellSortedBlock P block → IsBlockInProfile block → All (IsUniversalClaim P) premises → IsUniversalClaim P f → AreEnough P (needed_for_block P block (bound_counts P f)) sizes → IsTrueAfter (up_to sizes) P premises block f ↔ IsTrueAfter all_sizes P premises block f
after_decided P block premises f sizes p w profile each claim enough = (true_after P block premises f sizes p w profile each claim enough, λ large s t _. large s t tt)

pub first_decided : (P : Protocol) (f : Formula) (sizes : List ℕ) → IsAccepted P → IsUniversalClaim P f → AreEnough P (needed_for_block P P.init (bound_counts P f)) sizes → IsTrueAtFirst (up_to sizes) P f ↔ IsTrueAtFirst all_sizes P f
first_decided P f sizes p claim enough = (true_at_first P f sizes p claim enough, λ large s _. large s tt)

pub given_decided : (P : Protocol) (premises : List Formula) (f : Formula) (sizes : List ℕ) → IsAccepted P → All (IsUniversalClaim P) premises → IsUniversalClaim P f → AreEnough P (needed_for_implied P (bound_counts P f)) sizes → IsTrueGiven (up_to sizes) P premises f ↔ IsTrueGiven all_sizes P premises f
given_decided P premises f sizes p each claim enough = (
  (λ small s _ st axioms met. implied_small P (λ u. All (Satisfies u) premises) f sizes p (premises_go_down P premises each) claim.closed claim.universal enough small s st axioms met),
  (λ large s _. large s tt),
)
