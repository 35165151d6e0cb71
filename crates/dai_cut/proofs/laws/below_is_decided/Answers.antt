use Rattle.dai_cut.proofs.Deciding.{below_or_not}
use Rattle.dai_cut.proofs.laws.below_is_decided.Goals as goal

pub returns : goal.returns
returns c = below_or_not
