use Rattle.dai_model.proofs.Flags.{not_both_inductive, not_both_in_greatest}
use Rattle.dai_model.proofs.example.not_both_is_inductive.Goals as goal

pub returns-clause-inductive : goal.returns-clause-inductive
returns-clause-inductive c = not_both_inductive

pub returns-clause-greatest : goal.returns-clause-greatest
returns-clause-greatest c = not_both_in_greatest
