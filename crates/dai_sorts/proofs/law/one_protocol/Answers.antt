use Rattle.dai_sorts.proofs.OneProtocol.{one_protocol}
use Rattle.dai_sorts.proofs.law.one_protocol.Goals as goal

pub returns : goal.returns
returns c = one_protocol
