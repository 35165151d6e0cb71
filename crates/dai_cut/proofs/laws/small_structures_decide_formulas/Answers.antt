use Rattle.dai_cut.proofs.SmallFormulas.{after_decided, first_decided, given_decided}
use Rattle.dai_cut.proofs.laws.small_structures_decide_formulas.Goals as goal

pub returns-clause-steps : goal.returns-clause-steps
returns-clause-steps c = after_decided

pub returns-clause-initial : goal.returns-clause-initial
returns-clause-initial c = first_decided

pub returns-clause-implied : goal.returns-clause-implied
returns-clause-implied c = given_decided
