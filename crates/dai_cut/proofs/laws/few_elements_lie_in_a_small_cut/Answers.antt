use Rattle.dai_cut.proofs.Marked.{small_cut_exists}
use Rattle.dai_cut.proofs.laws.few_elements_lie_in_a_small_cut.Goals as goal

pub returns : goal.returns
returns c = small_cut_exists
