use Rattle.std.proofs.Common.{rules, ◌++◌, ◌≡◌, sym, ap, ◌∙◌, arith}
use Rattle.dai_model.specs.Formula.{Statement, Statements}
use Rattle.dai_model.specs.Profile.{requirements_of, requirements_in, witnesses_in}
use Rattle.dai_logic.specs.declared.protocol.Step.{the_lemmas}
use Rattle.dai_logic.specs.Trees.{formula_of, statement_of, statements_of}
use Rattle.dai_logic.proofs.Trees.{statement_of-Cond, statements_of-drop, statements_of-drop_all}
use Rattle.dai_model.specs.Formula as Model
use Rattle.dai_query.proofs.Counting.{witnesses_in-append, count_step, count_end, count_fits, first_few, rest_few, whole_few, both_fit, both_counted}
use Rattle.dai_query.proofs.witnesses.+statements.Goals as goal

pub in_code-loop-step-init : goal.in_code-loop-step-init
in_code-loop-step-init t c =
    record { counted = omega arith; few = c.requires; most = whole_few c.args.sort _ c.requires }

pub in_code-in_statement-count-requires : goal.in_code-in_statement-count-requires
in_code-in_statement-count-requires t c =
    let split = ap (λ cs. witnesses_in (requirements_in cs)) (statements_of-drop c.args.steps.now c.loop-step.step-index c.step-item.result c.loop-step-test.true c.step-item.is) ∙ witnesses_in-append (requirements_of (statement_of c.step-item.result)) _ in
    (search (rules, the_lemmas), first_few _ (witnesses_in (requirements_of (statement_of c.step-item.result))) _ split c.loop-step.invariant.few)

pub in_code-overflow_add-count : goal.in_code-overflow_add-count
in_code-overflow_add-count t c =
    let split = ap (λ cs. witnesses_in (requirements_in cs)) (statements_of-drop c.args.steps.now c.loop-step.step-index c.step-item.result c.loop-step-test.true c.step-item.is) ∙ witnesses_in-append (requirements_of (statement_of c.step-item.result)) _ in
    let below = count_fits c.args.sort c.loop-step.count c.in_statement-count.result _ _ (witnesses_in (requirements_of (statement_of c.step-item.result))) _ split c.in_statement-count.ensures c.loop-step.invariant.counted c.loop-step.invariant.most in
    omega (arith, below)

pub in_code-loop-step-preserved : goal.in_code-loop-step-preserved
in_code-loop-step-preserved t c =
    let split = ap (λ cs. witnesses_in (requirements_in cs)) (statements_of-drop c.args.steps.now c.loop-step.step-index c.step-item.result c.loop-step-test.true c.step-item.is) ∙ witnesses_in-append (requirements_of (statement_of c.step-item.result)) _ in
    record {
      counted = count_step c.args.sort c.loop-step.count c.in_statement-count.result _ _ (witnesses_in (requirements_of (statement_of c.step-item.result))) _ split c.in_statement-count.ensures c.loop-step.invariant.counted;
      few = rest_few _ (witnesses_in (requirements_of (statement_of c.step-item.result))) _ split c.loop-step.invariant.few;
      most = c.loop-step.invariant.most;
    }

pub in_code-returns : goal.in_code-returns
in_code-returns t c =
    count_end c.args.sort c.loop-step.count _ _ (ap (λ cs. witnesses_in (requirements_in cs)) (statements_of-drop_all c.args.steps.now c.loop-step.step-index c.loop-step-test.false)) c.loop-step.invariant.counted

-- what the two branches have
branches : (f : Model.Formula) (first second : Statements) (s : Statement) → s ≡ Model.conditional f first second → witnesses_in (requirements_of s) ≡ witnesses_in (requirements_in first) ++ witnesses_in (requirements_in second)
branches f first second s e = ap (λ s. witnesses_in (requirements_of s)) e ∙ witnesses_in-append (requirements_in first) (requirements_in second)

pub in_statement-in_code-requires : goal.in_statement-in_code-requires
in_statement-in_code-requires t c =
    let same = ap statement_of c.in-Cond.is ∙ (statement_of-Cond c.in-Cond.cond c.in-Cond.yes c.in-Cond.no ∙ ap (λ cs. Model.conditional (formula_of c.in-Cond.cond) (statements_of cs) (statements_of c.in-Cond.no.items)) (sym c.deref.ensures.value)) in
    (search (rules, the_lemmas, c.deref.ensures.value), first_few _ _ _ (branches _ _ _ _ same) c.requires)

pub in_statement-in_code-requires-in-Cond : goal.in_statement-in_code-requires-in-Cond
in_statement-in_code-requires-in-Cond t c =
    let same = ap statement_of c.in-Cond.is ∙ (statement_of-Cond c.in-Cond.cond c.in-Cond.yes c.in-Cond.no ∙ ap (λ cs. Model.conditional (formula_of c.in-Cond.cond) (statements_of c.in-Cond.yes.items) (statements_of cs)) (sym c.deref-in-Cond.ensures.value)) in
    (search (rules, the_lemmas, c.deref-in-Cond.ensures.value), rest_few _ _ _ (branches _ _ _ _ same) c.requires)

pub in_statement-overflow_add-result : goal.in_statement-overflow_add-result
in_statement-overflow_add-result t c =
    let same = ap statement_of c.in-Cond.is ∙ (statement_of-Cond c.in-Cond.cond c.in-Cond.yes c.in-Cond.no ∙ (ap (λ cs. Model.conditional (formula_of c.in-Cond.cond) (statements_of cs) (statements_of c.in-Cond.no.items)) (sym c.deref.ensures.value) ∙ ap (λ cs. Model.conditional (formula_of c.in-Cond.cond) (statements_of c.deref.result.now) (statements_of cs)) (sym c.deref-in-Cond.ensures.value))) in
    let below = both_fit c.args.sort c.in_code.result c.in_code-in-Cond.result _ (witnesses_in (requirements_in (statements_of c.deref.result.now))) (witnesses_in (requirements_in (statements_of c.deref-in-Cond.result.now))) (branches _ _ _ _ same) c.in_code.ensures c.in_code-in-Cond.ensures c.requires in
    omega (arith, below)

pub in_statement-returns-in-Cond : goal.in_statement-returns-in-Cond
in_statement-returns-in-Cond t c =
    let same = ap statement_of c.in-Cond.is ∙ (statement_of-Cond c.in-Cond.cond c.in-Cond.yes c.in-Cond.no ∙ (ap (λ cs. Model.conditional (formula_of c.in-Cond.cond) (statements_of cs) (statements_of c.in-Cond.no.items)) (sym c.deref.ensures.value) ∙ ap (λ cs. Model.conditional (formula_of c.in-Cond.cond) (statements_of c.deref.result.now) (statements_of cs)) (sym c.deref-in-Cond.ensures.value))) in
    both_counted c.args.sort c.in_code.result c.in_code-in-Cond.result _ (witnesses_in (requirements_in (statements_of c.deref.result.now))) (witnesses_in (requirements_in (statements_of c.deref-in-Cond.result.now))) (branches _ _ _ _ same) c.in_code.ensures c.in_code-in-Cond.ensures
