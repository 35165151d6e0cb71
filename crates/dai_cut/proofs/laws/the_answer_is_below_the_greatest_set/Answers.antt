use Rattle.dai_cut.proofs.Use.{lower_exists, meets_set}
use Rattle.dai_cut.proofs.laws.the_answer_is_below_the_greatest_set.Goals as goal

pub returns-clause-below : goal.returns-clause-below
returns-clause-below c = lower_exists

pub returns-clause-meets : goal.returns-clause-meets
returns-clause-meets c = meets_set
