use Rattle.dai_model.proofs.Below as Below
use Rattle.dai_model.proofs.laws.below_implies.Goals as goal

pub returns : goal.returns
returns c = Below.below_implies
