use Rattle.dai_cut.proofs.Numbering.{nth_is, nth_increasing, nth_of_place}
use Rattle.dai_cut.proofs.laws.numbering_is_in_order.Goals as goal

pub returns-clause-passes : goal.returns-clause-passes
returns-clause-passes c = λ test n k h. (nth_is test n k h).passes

pub returns-clause-in_order : goal.returns-clause-in_order
returns-clause-in_order c = nth_increasing

pub returns-clause-each : goal.returns-clause-each
returns-clause-each c = nth_of_place
