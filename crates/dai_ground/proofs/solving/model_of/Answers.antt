use Rattle.dai_ground.proofs.Answering.{solution_of_model}
use Rattle.dai_ground.proofs.solving.model_of.Goals as goal

pub returns-in-Model : goal.returns-in-Model
returns-in-Model c = λ clauses is. solution_of_model clauses c.args.outcome c.in-Model.model c.in-Model.is is
