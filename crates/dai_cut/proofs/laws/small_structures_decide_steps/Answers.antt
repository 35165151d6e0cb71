use Rattle.dai_cut.proofs.SmallSteps.{leads}
use Rattle.dai_cut.proofs.SmallSets.{begins}
use Rattle.dai_cut.proofs.laws.small_structures_decide_steps.Goals as goal

pub returns-clause-steps : goal.returns-clause-steps
returns-clause-steps c = leads

pub returns-clause-initial : goal.returns-clause-initial
returns-clause-initial c = begins
