use Rattle.std.proofs.Common.{rules, ◌+◌, drop, map, ap, sym, ◌∙◌, subst, Result, Ok, Err}
use Rattle.std.specs.Prelude.{IfOk, OnOk}
use Rattle.dai_base.specs.declared.memory.Spent.{Spent}
use Rattle.dai_model.specs.Formula.{conditional, update_relation, Statement, Statements}
use Rattle.dai_circuit.specs.declared.bit.Bit.{Bit}
use Rattle.dai_circuit.proofs.Extensions.{extends_self}
use Rattle.dai_logic.specs.declared.protocol.Step.{the_lemmas}
use Rattle.dai_logic.specs.Trees.{term_of, formula_of, statement_of, statements_of}
use Rattle.dai_logic.specs.Protocols.{protocol_of}
use Rattle.dai_logic.proofs.Trees.{statement_of-Cond, statements_of-drop, statements_of-drop_all}
use Rattle.dai_ground.specs.Leaving.{IsCodeIn, LeavesCode, LeavesStatement}
use Rattle.dai_ground.proofs.Findings.{extends_after, below_more}
use Rattle.dai_ground.proofs.Leavings.{left_none, left_more, code_rest, statement_as, first_code, second_code, copy_pictured, picture_kept, conditional_leaves}
use Rattle.dai_ground.proofs.code.+run.Goals as goal

pub run-returns-in_err-left-clause-extends : goal.run-returns-in_err-left-clause-extends
run-returns-in_err-left-clause-extends t c = extends_after c.args.circuit.now c.loop-step.circuit c.run_step.new.circuit c.loop-step.invariant.extends c.run_step.ensures.extends

pub run-loop-step-preserved : goal.run-loop-step-preserved
run-loop-step-preserved t c =
    let P = protocol_of c.args.protocol.now in
    let frame = c.args.frame.now in
    let old = c.args.circuit.now in
    let now = c.loop-step.circuit in
    let next = c.run_step.new.circuit in
    let code = c.args.code.now in
    let i = c.loop-step.step-index in
    let all = statements_of (drop i code) in
    let first = statement_of c.step-item.result in
    let rest = statements_of (drop (i + 1) code) in
    let is = statements_of-drop code i c.step-item.result c.loop-step-test.true c.step-item.is in
    let leaves = c.in_ok-left.ensures.leaves in
    record {
      extends = extends_after old now next c.loop-step.invariant.extends c.run_step.ensures.extends;
      below = leaves.below;
      code = code_rest P frame c.loop-step.picture c.run_step.new.picture now.vars next.vars all first rest is c.run_step.ensures.extends.grows leaves.pictured c.loop-step.invariant.code;
      whole = λ clauses new answer e h. c.loop-step.invariant.whole clauses new answer (extends_after now next clauses c.run_step.ensures.extends e) (left_more P frame all first rest c.loop-step.picture c.run_step.new.picture new c.loop-step.left c.in_ok-left.left answer next clauses is e leaves h);
    }

pub run-returns-clause-leaves : goal.run-returns-clause-leaves
run-returns-clause-leaves t c =
    let P = protocol_of c.args.protocol.now in
    let frame = c.args.frame.now in
    let now = c.loop-step.circuit in
    let none = left_none P frame c.loop-step.picture c.loop-step.left now c.loop-step.invariant.below c.loop-step.invariant.code.placed.pictured in
    c.loop-step.invariant.whole now c.loop-step.picture c.loop-step.left (extends_self now)
    (subst (λ (cs : Statements). LeavesCode P frame cs c.loop-step.picture c.loop-step.left now c.loop-step.picture c.loop-step.left) (sym (statements_of-drop_all c.args.code.now c.loop-step.step-index c.loop-step-test.false)) none)

pub run_step-run-requires : goal.run_step-run-requires
run_step-run-requires t c =
    let P = protocol_of c.args.protocol.now in
    let frame = c.args.frame.now in
    let picture = c.args.picture.now in
    let old = c.args.circuit.now in
    let one = c.ground_alone.new.circuit in
    let f = formula_of c.in-Cond.cond in
    let st = statement_as P frame picture old.vars (statement_of c.args.step.now) (conditional f (statements_of c.in-Cond.yes.items) (statements_of c.in-Cond.no.items)) (ap statement_of c.in-Cond.is ∙ statement_of-Cond c.in-Cond.cond c.in-Cond.yes c.in-Cond.no) c.requires.code in
    let grows = c.ground_alone.ensures.extends.grows in
    let code = first_code P frame picture picture old.vars one.vars f (statements_of c.in-Cond.yes.items) (statements_of c.in-Cond.no.items) grows (picture_kept P frame.slots.items old.vars one.vars picture grows st.placed.pictured) st in
    (search (rules, the_lemmas, c.deref-in-Cond.ensures.value), (subst (λ xs. IsCodeIn P frame picture one.vars (statements_of xs)) (sym c.deref-in-Cond.ensures.value) code, below_more old.vars one.vars c.args.ok grows c.requires.ok))

pub run_step-run-requires-in-Cond : goal.run_step-run-requires-in-Cond
run_step-run-requires-in-Cond t c =
    let P = protocol_of c.args.protocol.now in
    let frame = c.args.frame.now in
    let picture = c.args.picture.now in
    let other = c.in_ok-other-in-Cond.other in
    let old = c.args.circuit.now in
    let one = c.ground_alone.new.circuit in
    let two = c.run.new.circuit in
    let f = formula_of c.in-Cond.cond in
    let st = statement_as P frame picture old.vars (statement_of c.args.step.now) (conditional f (statements_of c.in-Cond.yes.items) (statements_of c.in-Cond.no.items)) (ap statement_of c.in-Cond.is ∙ statement_of-Cond c.in-Cond.cond c.in-Cond.yes c.in-Cond.no) c.requires.code in
    let grows = (extends_after old one two c.ground_alone.ensures.extends c.run.ensures.extends).grows in
    let code = second_code P frame picture other old.vars two.vars f (statements_of c.in-Cond.yes.items) (statements_of c.in-Cond.no.items) grows (copy_pictured P frame.slots.items two.vars picture other c.in_ok-other-in-Cond.ensures (picture_kept P frame.slots.items old.vars two.vars picture grows st.placed.pictured)) st in
    (search (rules, the_lemmas, c.deref-in-Cond-2.ensures.value), (subst (λ xs. IsCodeIn P frame other two.vars (statements_of xs)) (sym c.deref-in-Cond-2.ensures.value) code, below_more old.vars two.vars c.args.ok grows c.requires.ok))

pub run_step-returns-in_err-second-in-Cond-clause-extends : goal.run_step-returns-in_err-second-in-Cond-clause-extends
run_step-returns-in_err-second-in-Cond-clause-extends t c =
    let one = extends_after c.args.circuit.now c.ground_alone.new.circuit c.run.new.circuit c.ground_alone.ensures.extends c.run.ensures.extends in
    extends_after c.args.circuit.now c.run.new.circuit c.run-in-Cond.new.circuit one c.run-in-Cond.ensures.extends

pub run_step-returns-in_ok-update_table-in-SetTable-clause-leaves : goal.run_step-returns-in_ok-update_table-in-SetTable-clause-leaves
run_step-returns-in_ok-update_table-in-SetTable-clause-leaves t c =
    let P = protocol_of c.args.protocol.now in
    let f = formula_of c.in-SetTable.body in
    let below = below_more c.args.circuit.now.vars c.update_table.new.circuit.vars c.args.ok c.update_table.ensures.extends.grows c.requires.ok in
    subst (λ (d : Statement). LeavesStatement P c.args.frame.now d c.args.picture.now c.args.ok c.update_table.new.circuit c.update_table.new.picture c.args.ok)
    (ap (λ ts. update_relation c.in-SetTable.rel (map term_of ts) f) c.deref.ensures.value ∙ sym (ap statement_of c.in-SetTable.is))
    (c.in_ok-update_table-in-SetTable.ensures.leaves c.args.ok below)

pub run_step-returns-in_ok-second-in-Cond-clause-extends : goal.run_step-returns-in_ok-second-in-Cond-clause-extends
run_step-returns-in_ok-second-in-Cond-clause-extends t c =
    let one = extends_after c.args.circuit.now c.ground_alone.new.circuit c.run.new.circuit c.ground_alone.ensures.extends c.run.ensures.extends in
    let two = extends_after c.args.circuit.now c.run.new.circuit c.run-in-Cond.new.circuit one c.run-in-Cond.ensures.extends in
    extends_after c.args.circuit.now c.run-in-Cond.new.circuit c.join.new.circuit two c.join.ensures.extends

if_both : (result : Result Bit Spent) (C : Type 0) (A B : Bit → Type 0) → OnOk result C → IfOk result A → ((b : Bit) → C → A b → B b) → IfOk result B
if_both (Ok b) C A B on is w = w b on is
if_both (Err e) C A B on is w = on

pub run_step-returns-in_ok-second-in-Cond-clause-leaves : goal.run_step-returns-in_ok-second-in-Cond-clause-leaves
run_step-returns-in_ok-second-in-Cond-clause-leaves t c =
    let P = protocol_of c.args.protocol.now in
    let frame = c.args.frame.now in
    let picture = c.args.picture.now in
    let other = c.in_ok-other-in-Cond.other in
    let f = formula_of c.in-Cond.cond in
    let yes_code = statements_of c.in-Cond.yes.items in
    let no_code = statements_of c.in-Cond.no.items in
    let one = c.ground_alone.new.circuit in
    let two = c.run.new.circuit in
    let three = c.run-in-Cond.new.circuit in
    let new = c.join.new.circuit in
    let leaves_one : LeavesCode P frame yes_code picture c.args.ok two c.run.new.picture c.in_ok-first-in-Cond.first =
    subst (λ xs. LeavesCode P frame (statements_of xs) picture c.args.ok two c.run.new.picture c.in_ok-first-in-Cond.first) c.deref-in-Cond.ensures.value c.in_ok-first-in-Cond.ensures.leaves in
    let leaves_two : LeavesCode P frame no_code other c.args.ok three c.run-in-Cond.new.picture c.in_ok-second-in-Cond.second =
    subst (λ xs. LeavesCode P frame (statements_of xs) other c.args.ok three c.run-in-Cond.new.picture c.in_ok-second-in-Cond.second) c.deref-in-Cond-2.ensures.value c.in_ok-second-in-Cond.ensures.leaves in
    if_both c.join.result _ _ (λ answer. LeavesStatement P frame (statement_of c.args.step.now) picture c.args.ok new c.join.new.picture answer) c.join.ensures.chosen c.join.ensures.answer
    (λ answer chosen d.
    subst (λ (s : Statement). LeavesStatement P frame s picture c.args.ok new c.join.new.picture answer) (sym (ap statement_of c.in-Cond.is ∙ statement_of-Cond c.in-Cond.cond c.in-Cond.yes c.in-Cond.no))
    (conditional_leaves P frame picture other yes_code no_code c.args.ok c.in_ok-value-in-Cond.value c.run.new.picture c.run-in-Cond.new.picture c.in_ok-first-in-Cond.first c.in_ok-second-in-Cond.second one two three f c.join.new.picture answer new new
    (record {
      same_tables = c.in_ok-other-in-Cond.ensures.tables;
      same_values = c.in_ok-other-in-Cond.ensures.values;
      condition = c.in_ok-value-in-Cond.ensures.answer;
      leaves_one = leaves_one;
      leaves_two = leaves_two;
      grows_one = c.run.ensures.extends;
      grows_two = c.run-in-Cond.ensures.extends;
    })
    c.join.ensures.extends chosen (extends_self new) d))
