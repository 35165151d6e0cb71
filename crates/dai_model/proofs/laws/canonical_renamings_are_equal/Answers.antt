use Rattle.dai_model.proofs.OneCanonical.{one_canonical}
use Rattle.dai_model.proofs.laws.canonical_renamings_are_equal.Goals as goal

pub returns : goal.returns
returns c = one_canonical
