use Rattle.dai_model.proofs.Induction.{inductive_up_to}
use Rattle.dai_model.proofs.laws.inductive_up_to_every_size.Goals as goal

pub returns : goal.returns
returns c = inductive_up_to
