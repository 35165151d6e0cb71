use Rattle.dai_cut.proofs.Use.{answer_invariant, entailed_invariant}
use Rattle.dai_cut.proofs.laws.what_follows_is_invariant.Goals as goal

pub returns-clause-answer : goal.returns-clause-answer
returns-clause-answer c = answer_invariant

pub returns-clause-entailed : goal.returns-clause-entailed
returns-clause-entailed c = entailed_invariant
