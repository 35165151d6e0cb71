use Rattle.dai_model.proofs.Below.{below-trans}
use Rattle.dai_model.proofs.laws.below_is_transitive.Goals as goal

pub returns : goal.returns
returns c = below-trans
