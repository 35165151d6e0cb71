use Rattle.dai_model.proofs.Ranks.{below_again, is_renaming}
use Rattle.dai_model.proofs.laws.below_of_the_same_rank_is_a_renaming.Goals as goal

pub returns-clause-below : goal.returns-clause-below
returns-clause-below c = λ P B c d t u sub full. below_again P B c d t u sub full

pub returns-clause-renaming : goal.returns-clause-renaming
returns-clause-renaming c = λ P B c d t u sub full. is_renaming P B c d t u sub full
