use Rattle.dai_model.proofs.Flags.{some_flag_inductive, some_flag_in_greatest}
use Rattle.dai_model.proofs.example.some_flag_is_inductive.Goals as goal

pub returns-clause-inductive : goal.returns-clause-inductive
returns-clause-inductive c = some_flag_inductive

pub returns-clause-greatest : goal.returns-clause-greatest
returns-clause-greatest c = some_flag_in_greatest
