use Rattle.std.proofs.Common.{◌∙◌, ap}
use Rattle.std.specs.Prelude.{reverse}
use Rattle.dai_rules.specs.Views.{view_of, naming_of, renamed}
use Rattle.dai_rules.proofs.VariableLemmas.{outer_to}
use Rattle.dai_rules.proofs.judge.Judge.leave.Goals as goal

pub returns : goal.returns
returns c = λ own outer e f.
    ap (λ bound. renamed (view_of c.args.self.now) (record (naming_of c.args.self.now.naming) { bound = bound })) (ap reverse c.truncate.ensures.items ∙ outer_to c.args.self.now.naming.bound.items own outer e c.args.outside f)
