use Rattle.dai_model.proofs.Covers.{weakenings_cover}
use Rattle.dai_model.proofs.laws.weakenings_cover.Goals as goal

pub returns : goal.returns
returns c = weakenings_cover
