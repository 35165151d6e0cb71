use Rattle.dai_syntax.proofs.Fronts.{one_verdict}
use Rattle.dai_syntax.proofs.law.one_fault.Goals as goal

pub returns : goal.returns
returns c = one_verdict
