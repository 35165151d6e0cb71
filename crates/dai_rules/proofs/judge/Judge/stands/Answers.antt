use Rattle.dai_rules.proofs.JudgeSteps.{stands_by}
use Rattle.dai_rules.proofs.judge.Judge.stands.Goals as goal

pub returns-in-Value : goal.returns-in-Value
returns-in-Value c = stands_by _ _ c.args.role c.in-Value.allowed c.args.name.now c.has_variable-loose.result c.in-Value.is c.has_variable-loose.ensures c.note_if.ensures
