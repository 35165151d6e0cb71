use Rattle.std.proofs.Common.{◌≡◌, drop}
use Rattle.dai_model.specs.Profile.{requirements_in}
use Rattle.dai_logic.specs.Trees.{statements_of}
use Rattle.dai_logic.proofs.Required.{has_some}
use Rattle.dai_logic.proofs.requirements.+requirement.Given as goal

-- whether one stands in the rest decides the answer
abbrev pub invariant-have_requirement-loop-step : goal.invariant-have_requirement-loop-step
invariant-have_requirement-loop-step l =
    has_some (requirements_in (statements_of (drop l.step-index l.code))) ≡ has_some (requirements_in (statements_of l.code))
