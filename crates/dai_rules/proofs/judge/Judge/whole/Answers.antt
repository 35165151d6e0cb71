use Rattle.std.proofs.lemmas.Result.{on_ok_weaker}
use Rattle.dai_rules.specs.declared.judge.Role.TheVariants.{Axiom}
use Rattle.dai_rules.specs.Views.{view_of, role_in, context_of}
use Rattle.dai_rules.proofs.JudgeSteps.{whole_by}
use Rattle.dai_rules.proofs.judge.Judge.whole.Goals as goal

pub returns : goal.returns
returns c =
    on_ok_weaker c.types.result (λ h. whole_by (role_in (context_of c.args.self.now) c.args.role) (role_in (context_of c.count_variables.new.self) Axiom)
    (view_of c.args.self.now) (view_of c.existentials_beside_free.new.self) (view_of c.count_variables.new.self) (view_of c.types.new.self)
    c.existentials_beside_free.ensures c.count_variables.ensures h) c.types.ensures
