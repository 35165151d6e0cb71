-- Verdicts about claims over structures of all sizes, and what refutes such a claim.
use Rattle.std.specs.Prelude.{◌≡◌, false, List, Option, Some}
use Rattle.std.specs.List.{All}
use Rattle.dai_model.specs.Formula.{Formula}
use Rattle.dai_model.specs.Protocol.{Protocol, Block}
use Rattle.dai_model.specs.Value.{empty_environment, value_of, Satisfies, SatisfiesAxioms}
use Rattle.dai_model.specs.Reachable.{AreElements}
use Rattle.dai_logic.specs.Tables.{structure_of, Fits}
use Rattle.dai_ground.specs.declared.found.Found.{Found}
use Rattle.dai_ground.specs.declared.found.Answer.{Answer}
use Rattle.dai_ground.specs.declared.found.Answer.TheVariants.{Holds, Broken}
use Rattle.dai_ground.specs.Asking.{parameters_asked, choices_asked, outcome_of}
use Rattle.dai_ground.specs.Questions.{world_of}
use Rattle.dai_query.specs.declared.verdict.Verdict.{Verdict}
use Rattle.dai_query.specs.declared.verdict.Verdict.TheVariants.{Proved, Counter}

-- From a structure that meets the axioms and the premises the block leads, with these arguments and choices, to the
-- structure after, in which the formula is false. Without a block the two structures are one.
pub record IsRefutation (P : Protocol) (block : Option Block) (premises : List Formula) (f : Formula) (x : Found) : Type 0 where
  pub before_fits : Fits P x.before
  pub after_fits : Fits P x.after
  pub axioms : SatisfiesAxioms P (structure_of P x.before)
  pub premises_met : All (Satisfies (structure_of P x.before)) premises
  pub given : AreElements (structure_of P x.before) (parameters_asked block) x.args.items
  pub chosen : AreElements (structure_of P x.before) (choices_asked block) x.choices.items
  pub leaves : outcome_of P block (world_of P x) ≡ Some (structure_of P x.after)
  pub is_false : value_of (structure_of P x.after) empty_environment f ≡ false

-- the claim holds; or what was found refutes it, and so it does not hold
abbrev pub Decides : Type 0 → (Found → Type 0) → Verdict → Type 0
Decides Claim Refutation Proved = Claim
Decides Claim Refutation (Counter x) = Refutation x × (Claim → ⊥)

-- what an answer at enough sizes says of all
abbrev pub verdict_of : Answer → Verdict
verdict_of (Holds used) = Proved
verdict_of (Broken x) = Counter x
