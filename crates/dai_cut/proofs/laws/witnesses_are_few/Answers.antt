use Rattle.std.proofs.Common.{true}
use Rattle.dai_cut.proofs.Witnesses.{find, find_code}
use Rattle.dai_cut.proofs.laws.witnesses_are_few.Goals as goal

pub returns-clause-formula : goal.returns-clause-formula
returns-clause-formula c = λ s env f h v. let found = find s true env f h v in (found.marks, found.few, found.enough)

pub returns-clause-code : goal.returns-clause-code
returns-clause-code c = λ P env code s t direct h. let found = find_code P env code s t direct h in (found.marks, found.few, found.enough)
