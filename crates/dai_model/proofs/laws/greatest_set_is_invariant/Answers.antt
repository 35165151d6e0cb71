use Rattle.dai_model.proofs.Induction.{greatest_is_invariant}
use Rattle.dai_model.proofs.laws.greatest_set_is_invariant.Goals as goal

pub returns : goal.returns
returns c = greatest_is_invariant
