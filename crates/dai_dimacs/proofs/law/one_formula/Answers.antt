use Rattle.dai_dimacs.proofs.Texts.{one_formula}
use Rattle.dai_dimacs.proofs.law.one_formula.Goals as goal

pub returns : goal.returns
returns c = one_formula
