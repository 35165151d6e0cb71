use Rattle.dai_model.proofs.Induction.{union_inductive}
use Rattle.dai_model.proofs.laws.union_is_inductive.Goals as goal

pub returns : goal.returns
returns c = union_inductive
