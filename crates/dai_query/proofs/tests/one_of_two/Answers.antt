use Rattle.std.proofs.Common.{◌≡◌, ◌∙◌, ap}
use Rattle.std.proofs.lemmas.Result.{IfOk-weaker}
use Rattle.dai_model.specs.Formula.{disjunction, universal, no_formulas, with_formula}
use Rattle.dai_logic.specs.Trees.{formula_of, formulas_of}
use Rattle.dai_logic.proofs.Trees.{formula_of-Any}
use Rattle.dai_query.specs.Marks.{one_of_two}
use Rattle.dai_query.proofs.tests.one_of_two.Goals as goal

pub returns : goal.returns
returns c =
    IfOk-weaker c.for_all-2.result (λ f. formula_of f ≡ universal 0 0 (formula_of c.in_ok-for_all.field-0)) (λ f. formula_of f ≡ one_of_two)
    (λ f h.
    h
    ∙ ap (universal 0 0)
    (c.in_ok-for_all.ensures
    ∙ ap (universal 1 1)
    (formula_of-Any c.in_ok-parts.parts
    ∙ (ap (λ fs. disjunction (formulas_of fs)) c.in_ok-parts.ensures.items
    ∙ (λ i. disjunction (with_formula (c.in_ok-first.ensures i) (with_formula (c.in_ok-second.ensures i) no_formulas)))))))
    c.for_all-2.ensures
