use Rattle.std.proofs.Common.{◌+◌, drop, sym, ap, ◌∙◌, refl}
use Rattle.dai_model.specs.Formula.{conditional}
use Rattle.dai_model.specs.Profile.{requirements_in}
use Rattle.dai_logic.specs.Trees.{formula_of, statement_of, statements_of}
use Rattle.dai_logic.proofs.Trees.{statement_of-Cond, statements_of-drop, statements_of-drop_all}
use Rattle.dai_logic.proofs.Required.{has_some, required_here, required_later, required_end, required_then, required_else}
use Rattle.dai_logic.proofs.requirements.+requirement.Goals as goal

pub have_requirement-loop-step-init : goal.have_requirement-loop-step-init
have_requirement-loop-step-init t c =
    refl

pub have_requirement-returns-then-has_requirement : goal.have_requirement-returns-then-has_requirement
have_requirement-returns-then-has_requirement t c =
    required_here (statements_of (drop c.loop-step.step-index c.args.code.now)) (statement_of c.step-item.result) (statements_of (drop (c.loop-step.step-index + 1) c.args.code.now)) (has_some (requirements_in (statements_of c.args.code.now))) (statements_of-drop c.args.code.now c.loop-step.step-index c.step-item.result c.loop-step-test.true c.step-item.is) c.if-has_requirement.ensures c.loop-step.invariant

pub have_requirement-loop-step-preserved : goal.have_requirement-loop-step-preserved
have_requirement-loop-step-preserved t c =
    required_later (statements_of (drop c.loop-step.step-index c.args.code.now)) (statement_of c.step-item.result) (statements_of (drop (c.loop-step.step-index + 1) c.args.code.now)) (has_some (requirements_in (statements_of c.args.code.now))) (statements_of-drop c.args.code.now c.loop-step.step-index c.step-item.result c.loop-step-test.true c.step-item.is) c.if-has_requirement.ensures c.loop-step.invariant

pub have_requirement-returns : goal.have_requirement-returns
have_requirement-returns t c =
    required_end (statements_of (drop c.loop-step.step-index c.args.code.now)) (has_some (requirements_in (statements_of c.args.code.now))) (statements_of-drop_all c.args.code.now c.loop-step.step-index c.loop-step-test.false) c.loop-step.invariant

pub has_requirement-returns-then-have_requirement : goal.has_requirement-returns-then-have_requirement
has_requirement-returns-then-have_requirement t c =
    required_then (statement_of c.args.step.now) (formula_of c.in-Cond.cond) (statements_of c.deref.result.now) (statements_of c.in-Cond.no.items) c.have_requirement.result ((ap statement_of c.in-Cond.is ∙ statement_of-Cond c.in-Cond.cond c.in-Cond.yes c.in-Cond.no) ∙ ap (λ cs. conditional (formula_of c.in-Cond.cond) (statements_of cs) (statements_of c.in-Cond.no.items)) (sym c.deref.ensures.value)) c.if-have_requirement.true c.have_requirement.ensures

pub has_requirement-returns-else-have_requirement : goal.has_requirement-returns-else-have_requirement
has_requirement-returns-else-have_requirement t c =
    required_else (statement_of c.args.step.now) (formula_of c.in-Cond.cond) (statements_of c.deref.result.now) (statements_of c.deref-else-have_requirement.result.now) c.have_requirement.result c.have_requirement-else-have_requirement.result (((ap statement_of c.in-Cond.is ∙ statement_of-Cond c.in-Cond.cond c.in-Cond.yes c.in-Cond.no) ∙ ap (λ cs. conditional (formula_of c.in-Cond.cond) (statements_of cs) (statements_of c.in-Cond.no.items)) (sym c.deref.ensures.value)) ∙ ap (λ cs. conditional (formula_of c.in-Cond.cond) (statements_of c.deref.result.now) (statements_of cs)) (sym c.deref-else-have_requirement.ensures.value)) c.if-have_requirement.false c.have_requirement.ensures c.have_requirement-else-have_requirement.ensures
