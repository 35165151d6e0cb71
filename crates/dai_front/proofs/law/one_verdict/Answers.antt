use Rattle.dai_front.proofs.Refusals as Refusals
use Rattle.dai_front.proofs.law.one_verdict.Goals as goal

pub returns-clause-fault : goal.returns-clause-fault
returns-clause-fault c = Refusals.same_fault c.one_reading.ensures c.one_fault.ensures c.one_file.ensures

pub returns-clause-protocol : goal.returns-clause-protocol
returns-clause-protocol c = Refusals.same_protocol c.one_reading.ensures c.one_file.ensures c.one_protocol.ensures

pub returns-clause-never_both : goal.returns-clause-never_both
returns-clause-never_both c = Refusals.never_both c.one_reading.ensures c.one_fault.ensures c.one_file.ensures
