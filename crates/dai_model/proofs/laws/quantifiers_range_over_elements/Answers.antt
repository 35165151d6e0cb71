use Rattle.dai_model.proofs.Quantifiers.{every_is_for_all, some_is_for_some}
use Rattle.dai_model.proofs.laws.quantifiers_range_over_elements.Goals as goal

pub returns-clause-for_all : goal.returns-clause-for_all
returns-clause-for_all c = every_is_for_all

pub returns-clause-for_some : goal.returns-clause-for_some
returns-clause-for_some c = some_is_for_some
