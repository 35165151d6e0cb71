use Rattle.std.proofs.Common.{[], subst}
use Rattle.dai_sat.specs.Under.{IsOutcomeOf}
use Rattle.dai_ground.proofs.solving.solve.Goals as goal

pub returns-clause-model : goal.returns-clause-model
returns-clause-model c = c.model_of.ensures c.args.cnf (subst (λ f. IsOutcomeOf f [] c.in_ok-outcome.outcome) c.new-solver.ensures c.in_ok-outcome.ensures.answer)
