use Rattle.dai_model.proofs.OneAnswer as Found
use Rattle.dai_model.proofs.laws.one_report.Goals as goal

pub returns : goal.returns
returns c = Found.one_report
