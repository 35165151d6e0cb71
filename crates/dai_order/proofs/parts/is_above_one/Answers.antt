use Rattle.dai_template.specs.Spaces.{clause_of}
use Rattle.dai_template.specs.Lists.{clauses_of}
use Rattle.dai_order.proofs.Dropping.{from_start}
use Rattle.dai_order.proofs.parts.is_above_one.Goals as goal

pub returns-else-members-len-clause-none : goal.returns-else-members-len-clause-none
returns-else-members-len-clause-none c = λ P B h forms e s. c.is_above_from.ensures.none P B h forms e (from_start P (clauses_of c.args.space.now c.args.members.now) (clause_of c.args.space.now c.args.clause.now) s)
