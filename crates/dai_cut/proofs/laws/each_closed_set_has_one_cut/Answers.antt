use Rattle.dai_cut.proofs.Cutting.{cut_exists, image_is_chosen}
use Rattle.dai_cut.proofs.OneCut.{one_cut}
use Rattle.dai_cut.proofs.laws.each_closed_set_has_one_cut.Goals as goal

pub returns-clause-exists : goal.returns-clause-exists
returns-clause-exists c = cut_exists

pub returns-clause-one : goal.returns-clause-one
returns-clause-one c = one_cut

pub returns-clause-image : goal.returns-clause-image
returns-clause-image c = image_is_chosen
