use Rattle.dai_cut.proofs.SmallModel.{follows}
use Rattle.dai_cut.proofs.laws.small_structures_decide_entailment.Goals as goal

pub returns : goal.returns
returns c = follows
