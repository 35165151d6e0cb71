use Rattle.dai_model.proofs.Below.{below-refl}
use Rattle.dai_model.proofs.laws.below_is_reflexive.Goals as goal

pub returns : goal.returns
returns c = below-refl
