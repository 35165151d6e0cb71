use Rattle.dai_template.proofs.ClauseFormula.{formula_says}
use Rattle.dai_template.proofs.laws.formula_says_what_its_clause_says.Goals as goal

pub returns : goal.returns
returns c = formula_says
