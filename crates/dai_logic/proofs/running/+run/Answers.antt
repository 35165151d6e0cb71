use Rattle.std.proofs.Common.{rules, ◌+◌, Bool, List, length, Some, None, drop, true, false, map, sym, ap, ◌∙◌, refl}
use Rattle.dai_model.specs.Formula.{conditional, update_relation, update_individual}
use Rattle.dai_logic.specs.declared.protocol.Step.{the_lemmas}
use Rattle.dai_logic.specs.Trees.{term_of, formula_of, statement_of, statements_of}
use Rattle.dai_logic.specs.Protocols.{protocol_of}
use Rattle.dai_logic.specs.Tables.{structure_of}
use Rattle.dai_logic.specs.Environments.{environment_of}
use Rattle.dai_logic.proofs.Trees.{statement_of-Cond, statements_of-drop, statements_of-drop_all}
use Rattle.dai_logic.proofs.Evaluable.{requirement_evaluable, condition_evaluable, then_runnable, else_runnable, rest_runnable}
use Rattle.dai_logic.proofs.Statements.{relation_after, individual_after, runnable_as, run_next, run_barred, run_done, requirement_after, conditional_after, first_runnable_now, after_then, statements_then, runnable_now}
use Rattle.dai_logic.proofs.running.+run.Goals as goal

pub run-loop-step-init : goal.run-loop-step-init
run-loop-step-init t c =
    record { same = refl; sizes = refl; fits = c.requires.fits; spare = c.requires.spare; runnable = c.requires.code; after = refl }

pub run-offset_bounds-steps-step-index : goal.run-offset_bounds-steps-step-index
run-offset_bounds-steps-step-index t c =
    search rules

pub run-loop-step-smaller : goal.run-loop-step-smaller
run-loop-step-smaller t c =
    search rules

pub run-run_step-requires : goal.run-run_step-requires
run-run_step-requires t c =
    (search (rules, the_lemmas), (c.loop-step.invariant.fits, (c.loop-step.invariant.spare, first_runnable_now (protocol_of c.args.protocol.now) c.loop-step.s.sizes.items c.args.s.now.sizes.items c.loop-step.env c.args.env.now (statements_of (drop c.loop-step.step-index c.args.steps.now)) (statement_of c.step-item.result) (statements_of (drop (c.loop-step.step-index + 1) c.args.steps.now)) c.loop-step.invariant.sizes c.loop-step.invariant.same (statements_of-drop c.args.steps.now c.loop-step.step-index c.step-item.result c.loop-step-test.true c.step-item.is) c.loop-step.invariant.runnable)))

pub run-returns-then-not-run_step-clause-passed : goal.run-returns-then-not-run_step-clause-passed
run-returns-then-not-run_step-clause-passed t c =
    λ e. absurd (let k : ⊥ = cc in k)

pub run-returns-then-not-run_step-clause-barred : goal.run-returns-then-not-run_step-clause-barred
run-returns-then-not-run_step-clause-barred t c =
    λ e. run_barred (protocol_of c.args.protocol.now) (environment_of c.args.env.now) (statements_of (drop c.loop-step.step-index c.args.steps.now)) (statement_of c.step-item.result) (statements_of (drop (c.loop-step.step-index + 1) c.args.steps.now)) (structure_of (protocol_of c.args.protocol.now) c.loop-step.s) _ (statements_of-drop c.args.steps.now c.loop-step.step-index c.step-item.result c.loop-step-test.true c.step-item.is) (after_then (protocol_of c.args.protocol.now) c.loop-step.env c.args.env.now (statement_of c.step-item.result) (structure_of (protocol_of c.args.protocol.now) c.loop-step.s) None c.loop-step.invariant.same (c.run_step.ensures.barred c.if-not-run_step.true)) c.loop-step.invariant.after

pub run-returns-then-not-run_step-clause-fits : goal.run-returns-then-not-run_step-clause-fits
run-returns-then-not-run_step-clause-fits t c =
    c.run_step.ensures.fits

pub run-returns-then-not-run_step-clause-sizes : goal.run-returns-then-not-run_step-clause-sizes
run-returns-then-not-run_step-clause-sizes t c =
    c.run_step.ensures.sizes ∙ c.loop-step.invariant.sizes

pub run-returns-then-not-run_step-clause-unchanged : goal.run-returns-then-not-run_step-clause-unchanged
run-returns-then-not-run_step-clause-unchanged t c =
    c.run_step.ensures.unchanged ∙ c.loop-step.invariant.same

pub run-loop-step-preserved : goal.run-loop-step-preserved
run-loop-step-preserved t c =
    record {
      same = c.run_step.ensures.unchanged ∙ c.loop-step.invariant.same;
      sizes = c.run_step.ensures.sizes ∙ c.loop-step.invariant.sizes;
      fits = c.run_step.ensures.fits;
      spare = c.run_step.ensures.spare;
      runnable = rest_runnable (protocol_of c.args.protocol.now) c.args.s.now.sizes.items (environment_of c.args.env.now) (statements_of (drop c.loop-step.step-index c.args.steps.now)) (statement_of c.step-item.result) (statements_of (drop (c.loop-step.step-index + 1) c.args.steps.now)) (statements_of-drop c.args.steps.now c.loop-step.step-index c.step-item.result c.loop-step-test.true c.step-item.is) c.loop-step.invariant.runnable;
      after = run_next (protocol_of c.args.protocol.now) (environment_of c.args.env.now) (statements_of (drop c.loop-step.step-index c.args.steps.now)) (statement_of c.step-item.result) (statements_of (drop (c.loop-step.step-index + 1) c.args.steps.now)) (structure_of (protocol_of c.args.protocol.now) c.loop-step.s) (structure_of (protocol_of c.args.protocol.now) c.run_step.new.s) _ (statements_of-drop c.args.steps.now c.loop-step.step-index c.step-item.result c.loop-step-test.true c.step-item.is) (after_then (protocol_of c.args.protocol.now) c.loop-step.env c.args.env.now (statement_of c.step-item.result) (structure_of (protocol_of c.args.protocol.now) c.loop-step.s) (Some (structure_of (protocol_of c.args.protocol.now) c.run_step.new.s)) c.loop-step.invariant.same (c.run_step.ensures.passed c.if-not-run_step.false)) c.loop-step.invariant.after;
    }

pub run-returns-clause-passed : goal.run-returns-clause-passed
run-returns-clause-passed t c =
    λ e. run_done (protocol_of c.args.protocol.now) (environment_of c.args.env.now) (statements_of (drop c.loop-step.step-index c.args.steps.now)) (structure_of (protocol_of c.args.protocol.now) c.loop-step.s) _ (statements_of-drop_all c.args.steps.now c.loop-step.step-index c.loop-step-test.false) c.loop-step.invariant.after

pub run-returns-clause-barred : goal.run-returns-clause-barred
run-returns-clause-barred t c =
    λ e. absurd (let k : ⊥ = cc in k)

pub run-returns-clause-fits : goal.run-returns-clause-fits
run-returns-clause-fits t c =
    c.loop-step.invariant.fits

pub run-returns-clause-sizes : goal.run-returns-clause-sizes
run-returns-clause-sizes t c =
    c.loop-step.invariant.sizes

pub run-returns-clause-unchanged : goal.run-returns-clause-unchanged
run-returns-clause-unchanged t c =
    c.loop-step.invariant.same

pub run_step-eval-requires-clause-fits : goal.run_step-eval-requires-clause-fits
run_step-eval-requires-clause-fits t c =
    c.requires.fits

pub run_step-eval-requires-clause-formula : goal.run_step-eval-requires-clause-formula
run_step-eval-requires-clause-formula t c =
    requirement_evaluable (protocol_of c.args.protocol.now) c.args.s.now.sizes.items (environment_of c.args.env.now) (statement_of c.args.step.now) (formula_of c.in-Require.body) (ap statement_of c.in-Require.is) c.requires.code

pub run_step-returns-in-Require-clause-passed : goal.run_step-returns-in-Require-clause-passed
run_step-returns-in-Require-clause-passed t c =
    λ e. requirement_after (protocol_of c.args.protocol.now) (environment_of c.args.env.now) (statement_of c.args.step.now) (formula_of c.in-Require.body) (structure_of (protocol_of c.args.protocol.now) c.args.s.now) c.eval.result true (ap statement_of c.in-Require.is) c.eval.ensures.value e

pub run_step-returns-in-Require-clause-barred : goal.run_step-returns-in-Require-clause-barred
run_step-returns-in-Require-clause-barred t c =
    λ e. requirement_after (protocol_of c.args.protocol.now) (environment_of c.args.env.now) (statement_of c.args.step.now) (formula_of c.in-Require.body) (structure_of (protocol_of c.args.protocol.now) c.args.s.now) c.eval.result false (ap statement_of c.in-Require.is) c.eval.ensures.value e

pub run_step-returns-in-Require-clause-fits : goal.run_step-returns-in-Require-clause-fits
run_step-returns-in-Require-clause-fits t c =
    c.requires.fits

pub run_step-returns-in-Require-clause-sizes : goal.run_step-returns-in-Require-clause-sizes
run_step-returns-in-Require-clause-sizes t c =
    refl

pub run_step-returns-in-Require-clause-unchanged : goal.run_step-returns-in-Require-clause-unchanged
run_step-returns-in-Require-clause-unchanged t c =
    c.eval.ensures.unchanged

pub run_step-eval-requires-in-Cond-clause-fits : goal.run_step-eval-requires-in-Cond-clause-fits
run_step-eval-requires-in-Cond-clause-fits t c =
    c.requires.fits

pub run_step-eval-requires-in-Cond-clause-formula : goal.run_step-eval-requires-in-Cond-clause-formula
run_step-eval-requires-in-Cond-clause-formula t c =
    condition_evaluable (protocol_of c.args.protocol.now) c.args.s.now.sizes.items (environment_of c.args.env.now) (statement_of c.args.step.now) (formula_of c.in-Cond.cond) (statements_of c.in-Cond.yes.items) (statements_of c.in-Cond.no.items) (ap statement_of c.in-Cond.is ∙ statement_of-Cond c.in-Cond.cond c.in-Cond.yes c.in-Cond.no) c.requires.code

pub run_step-run-requires : goal.run_step-run-requires
run_step-run-requires t c =
    (search (rules, the_lemmas, c.deref-then-eval.ensures.value), (c.requires.fits, (c.requires.spare, runnable_now (protocol_of c.args.protocol.now) c.args.s.now.sizes.items c.eval-in-Cond.new.env c.args.env.now (statements_of c.deref-then-eval.result.now) c.eval-in-Cond.ensures.unchanged (then_runnable (protocol_of c.args.protocol.now) c.args.s.now.sizes.items (environment_of c.args.env.now) (statement_of c.args.step.now) (formula_of c.in-Cond.cond) (statements_of c.deref-then-eval.result.now) (statements_of c.in-Cond.no.items) ((ap statement_of c.in-Cond.is ∙ statement_of-Cond c.in-Cond.cond c.in-Cond.yes c.in-Cond.no) ∙ ap (λ cs. conditional (formula_of c.in-Cond.cond) (statements_of cs) (statements_of c.in-Cond.no.items)) (sym c.deref-then-eval.ensures.value)) c.requires.code))))

pub run_step-returns-then-eval-clause-passed : goal.run_step-returns-then-eval-clause-passed
run_step-returns-then-eval-clause-passed t c =
    λ e. conditional_after (protocol_of c.args.protocol.now) (environment_of c.args.env.now) (statement_of c.args.step.now) (formula_of c.in-Cond.cond) (statements_of c.deref-then-eval.result.now) (statements_of c.in-Cond.no.items) (structure_of (protocol_of c.args.protocol.now) c.args.s.now) c.eval-in-Cond.result true ((ap statement_of c.in-Cond.is ∙ statement_of-Cond c.in-Cond.cond c.in-Cond.yes c.in-Cond.no) ∙ ap (λ cs. conditional (formula_of c.in-Cond.cond) (statements_of cs) (statements_of c.in-Cond.no.items)) (sym c.deref-then-eval.ensures.value)) c.eval-in-Cond.ensures.value c.if-eval.true ∙ statements_then (protocol_of c.args.protocol.now) c.eval-in-Cond.new.env c.args.env.now (statements_of c.deref-then-eval.result.now) (structure_of (protocol_of c.args.protocol.now) c.args.s.now) (Some (structure_of (protocol_of c.args.protocol.now) c.run.new.s)) c.eval-in-Cond.ensures.unchanged (c.run.ensures.passed e)

pub run_step-returns-then-eval-clause-barred : goal.run_step-returns-then-eval-clause-barred
run_step-returns-then-eval-clause-barred t c =
    λ e. conditional_after (protocol_of c.args.protocol.now) (environment_of c.args.env.now) (statement_of c.args.step.now) (formula_of c.in-Cond.cond) (statements_of c.deref-then-eval.result.now) (statements_of c.in-Cond.no.items) (structure_of (protocol_of c.args.protocol.now) c.args.s.now) c.eval-in-Cond.result true ((ap statement_of c.in-Cond.is ∙ statement_of-Cond c.in-Cond.cond c.in-Cond.yes c.in-Cond.no) ∙ ap (λ cs. conditional (formula_of c.in-Cond.cond) (statements_of cs) (statements_of c.in-Cond.no.items)) (sym c.deref-then-eval.ensures.value)) c.eval-in-Cond.ensures.value c.if-eval.true ∙ statements_then (protocol_of c.args.protocol.now) c.eval-in-Cond.new.env c.args.env.now (statements_of c.deref-then-eval.result.now) (structure_of (protocol_of c.args.protocol.now) c.args.s.now) None c.eval-in-Cond.ensures.unchanged (c.run.ensures.barred e)

pub run_step-returns-then-eval-clause-fits : goal.run_step-returns-then-eval-clause-fits
run_step-returns-then-eval-clause-fits t c =
    c.run.ensures.fits

pub run_step-returns-then-eval-clause-sizes : goal.run_step-returns-then-eval-clause-sizes
run_step-returns-then-eval-clause-sizes t c =
    c.run.ensures.sizes

pub run_step-returns-then-eval-clause-unchanged : goal.run_step-returns-then-eval-clause-unchanged
run_step-returns-then-eval-clause-unchanged t c =
    c.run.ensures.unchanged ∙ c.eval-in-Cond.ensures.unchanged

pub run_step-run-requires-else-eval : goal.run_step-run-requires-else-eval
run_step-run-requires-else-eval t c =
    (search (rules, the_lemmas, c.deref-else-eval.ensures.value), (c.requires.fits, (c.requires.spare, runnable_now (protocol_of c.args.protocol.now) c.args.s.now.sizes.items c.eval-in-Cond.new.env c.args.env.now (statements_of c.deref-else-eval.result.now) c.eval-in-Cond.ensures.unchanged (else_runnable (protocol_of c.args.protocol.now) c.args.s.now.sizes.items (environment_of c.args.env.now) (statement_of c.args.step.now) (formula_of c.in-Cond.cond) (statements_of c.in-Cond.yes.items) (statements_of c.deref-else-eval.result.now) ((ap statement_of c.in-Cond.is ∙ statement_of-Cond c.in-Cond.cond c.in-Cond.yes c.in-Cond.no) ∙ ap (λ cs. conditional (formula_of c.in-Cond.cond) (statements_of c.in-Cond.yes.items) (statements_of cs)) (sym c.deref-else-eval.ensures.value)) c.requires.code))))

pub run_step-returns-else-eval-clause-passed : goal.run_step-returns-else-eval-clause-passed
run_step-returns-else-eval-clause-passed t c =
    λ e. conditional_after (protocol_of c.args.protocol.now) (environment_of c.args.env.now) (statement_of c.args.step.now) (formula_of c.in-Cond.cond) (statements_of c.in-Cond.yes.items) (statements_of c.deref-else-eval.result.now) (structure_of (protocol_of c.args.protocol.now) c.args.s.now) c.eval-in-Cond.result false ((ap statement_of c.in-Cond.is ∙ statement_of-Cond c.in-Cond.cond c.in-Cond.yes c.in-Cond.no) ∙ ap (λ cs. conditional (formula_of c.in-Cond.cond) (statements_of c.in-Cond.yes.items) (statements_of cs)) (sym c.deref-else-eval.ensures.value)) c.eval-in-Cond.ensures.value c.if-eval.false ∙ statements_then (protocol_of c.args.protocol.now) c.eval-in-Cond.new.env c.args.env.now (statements_of c.deref-else-eval.result.now) (structure_of (protocol_of c.args.protocol.now) c.args.s.now) (Some (structure_of (protocol_of c.args.protocol.now) c.run-else-eval.new.s)) c.eval-in-Cond.ensures.unchanged (c.run-else-eval.ensures.passed e)

pub run_step-returns-else-eval-clause-barred : goal.run_step-returns-else-eval-clause-barred
run_step-returns-else-eval-clause-barred t c =
    λ e. conditional_after (protocol_of c.args.protocol.now) (environment_of c.args.env.now) (statement_of c.args.step.now) (formula_of c.in-Cond.cond) (statements_of c.in-Cond.yes.items) (statements_of c.deref-else-eval.result.now) (structure_of (protocol_of c.args.protocol.now) c.args.s.now) c.eval-in-Cond.result false ((ap statement_of c.in-Cond.is ∙ statement_of-Cond c.in-Cond.cond c.in-Cond.yes c.in-Cond.no) ∙ ap (λ cs. conditional (formula_of c.in-Cond.cond) (statements_of c.in-Cond.yes.items) (statements_of cs)) (sym c.deref-else-eval.ensures.value)) c.eval-in-Cond.ensures.value c.if-eval.false ∙ statements_then (protocol_of c.args.protocol.now) c.eval-in-Cond.new.env c.args.env.now (statements_of c.deref-else-eval.result.now) (structure_of (protocol_of c.args.protocol.now) c.args.s.now) None c.eval-in-Cond.ensures.unchanged (c.run-else-eval.ensures.barred e)

pub run_step-returns-else-eval-clause-fits : goal.run_step-returns-else-eval-clause-fits
run_step-returns-else-eval-clause-fits t c =
    c.run-else-eval.ensures.fits

pub run_step-returns-else-eval-clause-sizes : goal.run_step-returns-else-eval-clause-sizes
run_step-returns-else-eval-clause-sizes t c =
    c.run-else-eval.ensures.sizes

pub run_step-returns-else-eval-clause-unchanged : goal.run_step-returns-else-eval-clause-unchanged
run_step-returns-else-eval-clause-unchanged t c =
    c.run-else-eval.ensures.unchanged ∙ c.eval-in-Cond.ensures.unchanged

pub run-returns-then-not-run_step-clause-spare : goal.run-returns-then-not-run_step-clause-spare
run-returns-then-not-run_step-clause-spare t c =
    c.run_step.ensures.spare

pub run-returns-clause-spare : goal.run-returns-clause-spare
run-returns-clause-spare t c =
    c.loop-step.invariant.spare

pub run_step-update_table-requires-clause-fits : goal.run_step-update_table-requires-clause-fits
run_step-update_table-requires-clause-fits t c =
    c.requires.fits

pub run_step-update_table-requires-clause-spare : goal.run_step-update_table-requires-clause-spare
run_step-update_table-requires-clause-spare t c =
    c.requires.spare

pub run_step-update_table-requires-clause-statement : goal.run_step-update_table-requires-clause-statement
run_step-update_table-requires-clause-statement t c =
    runnable_as (protocol_of c.args.protocol.now) c.args.s.now.sizes.items (environment_of c.args.env.now) (statement_of c.args.step.now) (update_relation c.in-SetTable.rel (map term_of c.deref.result.now) (formula_of c.in-SetTable.body)) (ap statement_of c.in-SetTable.is ∙ ap (λ ts. update_relation c.in-SetTable.rel (map term_of ts) (formula_of c.in-SetTable.body)) (sym c.deref.ensures.value)) c.requires.code

pub run_step-returns-in-SetTable-clause-passed : goal.run_step-returns-in-SetTable-clause-passed
run_step-returns-in-SetTable-clause-passed t c =
    λ h. relation_after (protocol_of c.args.protocol.now) (environment_of c.args.env.now) (statement_of c.args.step.now) c.in-SetTable.rel (map term_of c.deref.result.now) (formula_of c.in-SetTable.body) (structure_of (protocol_of c.args.protocol.now) c.args.s.now) (structure_of (protocol_of c.args.protocol.now) c.update_table.new.s) (ap statement_of c.in-SetTable.is ∙ ap (λ ts. update_relation c.in-SetTable.rel (map term_of ts) (formula_of c.in-SetTable.body)) (sym c.deref.ensures.value)) c.update_table.ensures.after

pub run_step-returns-in-SetTable-clause-barred : goal.run_step-returns-in-SetTable-clause-barred
run_step-returns-in-SetTable-clause-barred t c =
    λ h. absurd (let k : ⊥ = cc in k)

pub run_step-returns-in-SetTable-clause-fits : goal.run_step-returns-in-SetTable-clause-fits
run_step-returns-in-SetTable-clause-fits t c =
    c.update_table.ensures.fits

pub run_step-returns-in-SetTable-clause-sizes : goal.run_step-returns-in-SetTable-clause-sizes
run_step-returns-in-SetTable-clause-sizes t c =
    c.update_table.ensures.sizes

pub run_step-returns-in-SetTable-clause-spare : goal.run_step-returns-in-SetTable-clause-spare
run_step-returns-in-SetTable-clause-spare t c =
    c.update_table.ensures.spare

pub run_step-returns-in-SetTable-clause-unchanged : goal.run_step-returns-in-SetTable-clause-unchanged
run_step-returns-in-SetTable-clause-unchanged t c =
    c.update_table.ensures.unchanged

pub run_step-update_value-requires-clause-fits : goal.run_step-update_value-requires-clause-fits
run_step-update_value-requires-clause-fits t c =
    c.requires.fits

pub run_step-update_value-requires-clause-statement : goal.run_step-update_value-requires-clause-statement
run_step-update_value-requires-clause-statement t c =
    runnable_as (protocol_of c.args.protocol.now) c.args.s.now.sizes.items (environment_of c.args.env.now) (statement_of c.args.step.now) (update_individual c.in-SetValue.ind (term_of c.in-SetValue.to)) (ap statement_of c.in-SetValue.is) c.requires.code

pub run_step-returns-in-SetValue-clause-passed : goal.run_step-returns-in-SetValue-clause-passed
run_step-returns-in-SetValue-clause-passed t c =
    λ h. individual_after (protocol_of c.args.protocol.now) (environment_of c.args.env.now) (statement_of c.args.step.now) c.in-SetValue.ind (term_of c.in-SetValue.to) (structure_of (protocol_of c.args.protocol.now) c.args.s.now) (structure_of (protocol_of c.args.protocol.now) c.update_value.new.s) (ap statement_of c.in-SetValue.is) c.update_value.ensures.after

pub run_step-returns-in-SetValue-clause-barred : goal.run_step-returns-in-SetValue-clause-barred
run_step-returns-in-SetValue-clause-barred t c =
    λ h. absurd (let k : ⊥ = cc in k)

pub run_step-returns-in-SetValue-clause-fits : goal.run_step-returns-in-SetValue-clause-fits
run_step-returns-in-SetValue-clause-fits t c =
    c.update_value.ensures.fits

pub run_step-returns-in-SetValue-clause-sizes : goal.run_step-returns-in-SetValue-clause-sizes
run_step-returns-in-SetValue-clause-sizes t c =
    c.update_value.ensures.sizes

pub run_step-returns-in-SetValue-clause-spare : goal.run_step-returns-in-SetValue-clause-spare
run_step-returns-in-SetValue-clause-spare t c =
    c.requires.spare ∙ ap (map (λ (table : List Bool). length table)) (sym c.update_value.ensures.tables)

pub run_step-returns-in-SetValue-clause-unchanged : goal.run_step-returns-in-SetValue-clause-unchanged
run_step-returns-in-SetValue-clause-unchanged t c =
    refl

pub run_step-returns-in-Require-clause-spare : goal.run_step-returns-in-Require-clause-spare
run_step-returns-in-Require-clause-spare t c =
    c.requires.spare

pub run_step-returns-then-eval-clause-spare : goal.run_step-returns-then-eval-clause-spare
run_step-returns-then-eval-clause-spare t c =
    c.run.ensures.spare

pub run_step-returns-else-eval-clause-spare : goal.run_step-returns-else-eval-clause-spare
run_step-returns-else-eval-clause-spare t c =
    c.run-else-eval.ensures.spare
