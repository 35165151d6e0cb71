use Rattle.dai_model.proofs.Induction as Found
use Rattle.dai_model.proofs.laws.members_lie_in_one_inductive_list.Goals as goal

pub returns : goal.returns
returns c = Found.in_one
