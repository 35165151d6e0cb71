use Rattle.dai_model.proofs.Within.{shapes_listed}
use Rattle.dai_model.proofs.laws.every_shape_is_listed.Goals as goal

pub returns : goal.returns
returns c = shapes_listed
