use Rattle.dai_cut.proofs.SmallSets.{bounds_enough, inductive_same, greatest_same, answer_same, entailed_same, missing_same, report_same}
use Rattle.dai_cut.proofs.laws.small_structures_decide_the_answer.Goals as goal

pub returns-clause-bounds : goal.returns-clause-bounds
returns-clause-bounds c = bounds_enough

pub returns-clause-inductive : goal.returns-clause-inductive
returns-clause-inductive c = inductive_same

pub returns-clause-greatest : goal.returns-clause-greatest
returns-clause-greatest c = greatest_same

pub returns-clause-answer : goal.returns-clause-answer
returns-clause-answer c = answer_same

pub returns-clause-entailed : goal.returns-clause-entailed
returns-clause-entailed c = entailed_same

pub returns-clause-missing : goal.returns-clause-missing
returns-clause-missing c = missing_same

pub returns-clause-report : goal.returns-clause-report
returns-clause-report c = report_same
