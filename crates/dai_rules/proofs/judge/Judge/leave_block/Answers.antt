use Rattle.std.proofs.Common.{◌∙◌, ap}
use Rattle.dai_rules.specs.Names.{with_inside}
use Rattle.dai_rules.specs.Views.{view_of, context_of}
use Rattle.dai_rules.proofs.CodeSteps.{binders_in, outside_of}
use Rattle.dai_rules.proofs.judge.Judge.leave_block.Goals as goal

pub returns-clause-view : goal.returns-clause-view
returns-clause-view c = λ outer own e f.
    ap (λ bs. record (view_of c.args.self.now) { context = with_inside (context_of c.args.self.now) bs }) (ap binders_in c.truncate.ensures.items ∙ outside_of c.args.self.now.inside.items outer own c.args.outside e f)
