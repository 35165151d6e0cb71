use Rattle.dai_model.proofs.Flags.{two_flags_is_protocol, first_down_not_in_greatest}
use Rattle.dai_model.proofs.example.first_down_is_not_in_greatest.Goals as goal

pub returns-clause-protocol : goal.returns-clause-protocol
returns-clause-protocol c = two_flags_is_protocol

pub returns-clause-not_in_greatest : goal.returns-clause-not_in_greatest
returns-clause-not_in_greatest c = first_down_not_in_greatest
