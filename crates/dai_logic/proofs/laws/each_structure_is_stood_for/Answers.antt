use Rattle.dai_logic.proofs.Standing.{stood_for}
use Rattle.dai_logic.proofs.laws.each_structure_is_stood_for.Goals as goal

pub returns : goal.returns
returns c = stood_for
