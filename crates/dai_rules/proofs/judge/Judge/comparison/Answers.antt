use Rattle.std.proofs.Common.{◌∙◌, ap}
use Rattle.std.specs.Option.{option_copied}
use Rattle.std.proofs.lemmas.Result.{on_ok_weaker}
use Rattle.dai_rules.specs.Sites.{orderings_of}
use Rattle.dai_rules.specs.Views.{view_of, ordered}
use Rattle.dai_rules.proofs.JudgeSteps.{comparison_by}
use Rattle.dai_rules.proofs.judge.Judge.comparison.Goals as goal

pub returns : goal.returns
returns c =
    on_ok_weaker c.order.result (λ last. comparison_by c.args.role c.args.left.now c.args.right.now c.args.op (option_copied c.sort_beside-beside_left.result) (option_copied c.sort_beside-beside_right.result) c.in_ok-one.one c.in_ok-other.other
    (view_of c.args.self.now) (view_of c.term.new.self) (view_of c.term-2.new.self) (view_of c.compared.new.self) (view_of c.link.new.self) (view_of c.order.new.self)
    c.sort_beside-beside_left.ensures c.sort_beside-beside_right.ensures c.in_ok-one.ensures.given c.in_ok-one.ensures.number c.in_ok-other.ensures.given c.in_ok-other.ensures.number c.compared.ensures c.in_ok-link.ensures
    (last ∙ ap (λ at. ordered (view_of c.link.new.self) (orderings_of c.args.op at c.in_ok-one.one c.in_ok-other.other)) c.place_of.ensures)) c.order.ensures
