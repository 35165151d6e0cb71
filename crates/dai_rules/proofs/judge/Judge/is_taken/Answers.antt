use Rattle.std.proofs.Common.{◌∙◌, ◌||◌, ap}
use Rattle.std.specs.Prelude.{is_some}
use Rattle.std.specs.List.{list_any}
use Rattle.dai_rules.specs.Names.{is_named}
use Rattle.dai_rules.specs.Views.{context_of}
use Rattle.dai_rules.proofs.CodeSteps.{copied_some, is_some-find}
use Rattle.dai_rules.proofs.judge.Judge.is_taken.Goals as goal

pub returns-else-is_declared_by : goal.returns-else-is_declared_by
returns-else-is_declared_by c =
    let inside = (context_of c.args.self.now).inside in
    let p = is_named c.args.name.now.text in
    c.is_some.ensures ∙ copied_some c.local.result ∙ ap is_some c.local.ensures ∙ is_some-find p inside ∙ ap (λ b. b || list_any p inside) c.if-is_declared_by.ensures
