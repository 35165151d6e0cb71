use Rattle.dai_model.proofs.Ranks.{rank_no_greater}
use Rattle.dai_model.proofs.laws.below_has_no_greater_rank.Goals as goal

pub returns : goal.returns
returns c = λ P B c d t u sub. rank_no_greater P B c d t u sub
