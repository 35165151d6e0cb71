use Rattle.std.proofs.Common.{rules, ◌≡◌, ◌+◌, length, drop, true, false, sym, ap, ◌∙◌, refl, subst, arith}
use Rattle.dai_model.specs.Execution.{after_statements}
use Rattle.dai_logic.specs.Trees.{formula_of, statement_of, statements_of}
use Rattle.dai_logic.specs.Protocols.{protocol_of}
use Rattle.dai_logic.specs.Tables.{structure_of}
use Rattle.dai_logic.specs.Environments.{environment_of}
use Rattle.dai_logic.specs.Execution.{IsPassed}
use Rattle.dai_logic.proofs.Trees.{statements_of-drop}
use Rattle.dai_logic.proofs.Evaluable.{requirement_evaluable, rest_runnable}
use Rattle.dai_logic.proofs.Parts.{value_then}
use Rattle.dai_logic.proofs.Statements.{run_next, run_barred, requirement_after, first_runnable_now}
use Rattle.dai_logic.proofs.requirements.passed.Goals as goal

pub loop-number-init : goal.loop-number-init
loop-number-init c =
    record { back = refl; passed = record { within = omega arith; runnable = c.requires.code; same = refl } }

pub offset_bounds-code-number : goal.offset_bounds-code-number
offset_bounds-code-number c =
    search rules

pub bounds-code-number : goal.bounds-code-number
bounds-code-number c =
    c.loop-number-test.true

pub returns-in_default : goal.returns-in_default
returns-in_default c =
    record { passed = c.loop-number.invariant.passed; unchanged = c.loop-number.invariant.back }

pub eval-requires-clause-fits : goal.eval-requires-clause-fits
eval-requires-clause-fits c =
    c.requires.fits

pub eval-requires-clause-formula : goal.eval-requires-clause-formula
eval-requires-clause-formula c =
    requirement_evaluable (protocol_of c.args.protocol.now) c.args.s.now.sizes.items (environment_of c.loop-number.env) (statement_of c.index-code-number.result) (formula_of c.in-Require.body) (ap statement_of c.in-Require.is) (first_runnable_now (protocol_of c.args.protocol.now) c.args.s.now.sizes.items c.args.s.now.sizes.items c.loop-number.env c.args.env.now (statements_of (drop c.loop-number.number c.args.code.now)) (statement_of c.index-code-number.result) (statements_of (drop (c.loop-number.number + 1) c.args.code.now)) refl c.loop-number.invariant.back (statements_of-drop c.args.code.now c.loop-number.number c.index-code-number.result c.loop-number-test.true c.index-code-number.is) c.loop-number.invariant.passed.runnable)

pub returns-then-not-eval-clause-passed : goal.returns-then-not-eval-clause-passed
returns-then-not-eval-clause-passed c =
    c.loop-number.invariant.passed.same ∙ run_barred (protocol_of c.args.protocol.now) (environment_of c.args.env.now) (statements_of (drop c.loop-number.number c.args.code.now)) (statement_of c.index-code-number.result) (statements_of (drop (c.loop-number.number + 1) c.args.code.now)) (structure_of (protocol_of c.args.protocol.now) c.args.s.now) (after_statements (protocol_of c.args.protocol.now) (environment_of c.args.env.now) (statements_of (drop c.loop-number.number c.args.code.now)) (structure_of (protocol_of c.args.protocol.now) c.args.s.now)) (statements_of-drop c.args.code.now c.loop-number.number c.index-code-number.result c.loop-number-test.true c.index-code-number.is) (requirement_after (protocol_of c.args.protocol.now) (environment_of c.args.env.now) (statement_of c.index-code-number.result) (formula_of c.in-Require.body) (structure_of (protocol_of c.args.protocol.now) c.args.s.now) false false (ap statement_of c.in-Require.is) (value_then (structure_of (protocol_of c.args.protocol.now) c.args.s.now) c.loop-number.env c.args.env.now (formula_of c.in-Require.body) false c.loop-number.invariant.back c.if-not-eval.ensures.value) refl) refl

pub returns-then-not-eval-clause-unchanged : goal.returns-then-not-eval-clause-unchanged
returns-then-not-eval-clause-unchanged c =
    c.eval.ensures.unchanged ∙ c.loop-number.invariant.back

pub loop-number-preserved : goal.loop-number-preserved
loop-number-preserved c =
    record { back = c.eval.ensures.unchanged ∙ c.loop-number.invariant.back; passed = record { within = (let here = c.loop-number-test.true in omega arith); runnable = rest_runnable (protocol_of c.args.protocol.now) c.args.s.now.sizes.items (environment_of c.args.env.now) (statements_of (drop c.loop-number.number c.args.code.now)) (statement_of c.index-code-number.result) (statements_of (drop (c.loop-number.number + 1) c.args.code.now)) (statements_of-drop c.args.code.now c.loop-number.number c.index-code-number.result c.loop-number-test.true c.index-code-number.is) c.loop-number.invariant.passed.runnable; same = c.loop-number.invariant.passed.same ∙ sym (run_next (protocol_of c.args.protocol.now) (environment_of c.args.env.now) (statements_of (drop c.loop-number.number c.args.code.now)) (statement_of c.index-code-number.result) (statements_of (drop (c.loop-number.number + 1) c.args.code.now)) (structure_of (protocol_of c.args.protocol.now) c.args.s.now) (structure_of (protocol_of c.args.protocol.now) c.args.s.now) (after_statements (protocol_of c.args.protocol.now) (environment_of c.args.env.now) (statements_of (drop c.loop-number.number c.args.code.now)) (structure_of (protocol_of c.args.protocol.now) c.args.s.now)) (statements_of-drop c.args.code.now c.loop-number.number c.index-code-number.result c.loop-number-test.true c.index-code-number.is) (requirement_after (protocol_of c.args.protocol.now) (environment_of c.args.env.now) (statement_of c.index-code-number.result) (formula_of c.in-Require.body) (structure_of (protocol_of c.args.protocol.now) c.args.s.now) true true (ap statement_of c.in-Require.is) (value_then (structure_of (protocol_of c.args.protocol.now) c.args.s.now) c.loop-number.env c.args.env.now (formula_of c.in-Require.body) true c.loop-number.invariant.back c.if-not-eval.ensures.value) refl) refl) } }

pub returns-clause-passed : goal.returns-clause-passed
returns-clause-passed c =
    let past = c.loop-number-test.false in let within = c.loop-number.auto.number-end in let all : c.loop-number.number ≡ length c.args.code.now = omega arith in subst (IsPassed (protocol_of c.args.protocol.now) c.args.s.now c.args.env.now c.args.code.now) all c.loop-number.invariant.passed

pub returns-clause-unchanged : goal.returns-clause-unchanged
returns-clause-unchanged c =
    c.loop-number.invariant.back
