use Rattle.std.proofs.Common.{ap, ◌∙◌}
use Rattle.dai_model.specs.Formula.{less, conditional, with_statement, no_statements, update_individual}
use Rattle.dai_model.specs.Formula as Model
use Rattle.dai_logic.specs.declared.protocol.Formula.{Less}
use Rattle.dai_logic.specs.declared.protocol.Term.TheVariants.{Ind, Par}
use Rattle.dai_logic.specs.Trees.{statements_of}
use Rattle.dai_logic.proofs.Trees.{statement_of-Cond}
use Rattle.dai_logic.proofs.tests.go_step.Goals as goal

pub returns : goal.returns
returns c =
    let test = less (Model.individual 0) (Model.parameter 0) in
    statement_of-Cond (Less (Ind 0) (Par 0)) c.in_ok-vec.field-0 c.in_ok-vec-2.field-0
    ∙ (ap (λ cs. conditional test (statements_of cs) (statements_of c.in_ok-vec-2.field-0.items)) c.in_ok-vec.ensures.items
    ∙ ap (λ cs. conditional test (with_statement (update_individual 0 (Model.parameter 0)) no_statements) (statements_of cs)) c.in_ok-vec-2.ensures.items)
