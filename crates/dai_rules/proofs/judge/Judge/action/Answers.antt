use Rattle.std.proofs.Common.{refl, []}
use Rattle.dai_syntax.specs.Trees.{statements_of}
use Rattle.dai_rules.proofs.judge.Judge.action.Goals as goal
use Rattle.dai_rules.proofs.DeclarationSteps.{action_judged, inner_of_action}

pub returns : goal.returns
returns c =
    let h = c.in_ok-introduce.ensures.introduced in
    let k = c.in_ok-statements.ensures in
    let inside = inner_of_action c.args.params.now c.args.self.now c.introduce.new.self c.statements.new.self c.requires h k.context in
    action_judged c.args.params.now (statements_of c.args.body.now) c.of_block.result c.in_ok-statements.field-0 c.args.self.now c.introduce.new.self c.statements.new.self c.leave_block.new.self
    c.requires h c.of_block.ensures k (c.leave_block.ensures.view [] c.args.params.now inside refl) c.leave_block.ensures.keys
