use Rattle.std.proofs.Common.{[], ◌∷◌, sym, ◌∙◌, subst, ap, arith, Some}
use Rattle.dai_lex.specs.declared.token.Kind.TheVariants as K
use Rattle.dai_syntax.specs.declared.tree.Form.{Form}
use Rattle.dai_syntax.specs.declared.error.SyntaxError.TheVariants.{Unexpected, Deep}
use Rattle.dai_syntax.specs.Tree as Tree
use Rattle.dai_syntax.specs.Trees.{formula_of, formulas_of}
use Rattle.dai_syntax.specs.Symbols.{formula, implication, disjunction, conjunction, operand, v_formula, the_formulas, part1, after1}
use Rattle.dai_syntax.specs.Grammar.{an_equivalent, a_consequence, a_disjunct, a_conjunct, a_negation, a_truth, a_falsehood, a_bracket, a_formula, last_equivalent, an_implication, no_consequence, a_disjunction, last_disjunct, a_conjunction, last_conjunct}
use Rattle.dai_syntax.specs.Reading.{Reads}
use Rattle.dai_syntax.proofs.Leading.{stuck_deep, fails_spent}
use Rattle.dai_syntax.proofs.Stuck.{sees_none, stuck_operand, sees_any, other_ahead, none_ahead}
use Rattle.dai_syntax.proofs.Paths.{begins, takes, skips, reads, passes, reads_whole, fails, is_stuck, spent_result, failed_result, with_effect, at_same, takes_kind, falls}
use Rattle.dai_syntax.proofs.Rows.{joined, joined_none, joined_more, formulas_hidden}
use Rattle.dai_syntax.proofs.Deep.{deep_consequence, deep_negation, deep_bracket, deep_quantifier, by_quantifier}
use Rattle.std.proofs.lemmas.Result.{IfOk-weaker, IfErr-weaker}
use Rattle.dai_syntax.proofs.formulas.+formula.Goals as goal

pub formula-returns-then-not-take-clause-read : goal.formula-returns-then-not-take-clause-read
formula-returns-then-not-take-clause-read t c =
    let no = c.take.ensures.no c.if-not-take.true in
    IfOk-weaker c.implication-read.result _ _ (λ f h. reads_whole (λ stack. at_same (skips (reads (skips (begins c.args.cursor.now) a_formula (sees_any c.args.cursor.now.rest.now)) h) last_equivalent (sees_none _ (K.DoubleArrow ∷ []) (no.0, tt))) no.1)) c.implication-read.ensures.read

pub formula-returns-then-not-take-clause-failed : goal.formula-returns-then-not-take-clause-failed
formula-returns-then-not-take-clause-failed t c = IfErr-weaker c.implication-read.result _ _ (λ e h stack. fails (skips (begins c.args.cursor.now) a_formula (sees_any c.args.cursor.now.rest.now)) h) c.implication-read.ensures.failed

pub formula-returns-in_err-first-clause-failed : goal.formula-returns-in_err-first-clause-failed
formula-returns-in_err-first-clause-failed t c = failed_result (formula c.args.depth) c.args.cursor.now c.from_residual.result c.in_err-first.field-0.0 c.from_residual.ensures.1 (λ stack. fails (skips (begins c.args.cursor.now) a_formula (sees_any c.args.cursor.now.rest.now)) c.in_err-first.ensures.failed)

pub disjunction-returns-then-not-take-clause-read : goal.disjunction-returns-then-not-take-clause-read
disjunction-returns-then-not-take-clause-read t c =
    let no = c.take.ensures.no c.if-not-take.true in
    IfOk-weaker c.conjunction-read.result _ _ (λ f h. reads_whole (λ stack. at_same (skips (reads (skips (begins c.args.cursor.now) a_disjunction (sees_any c.args.cursor.now.rest.now)) h) last_disjunct (sees_none _ (K.Bar ∷ []) (no.0, tt))) no.1)) c.conjunction-read.ensures.read

pub disjunction-returns-then-not-take-clause-failed : goal.disjunction-returns-then-not-take-clause-failed
disjunction-returns-then-not-take-clause-failed t c = IfErr-weaker c.conjunction-read.result _ _ (λ e h stack. fails (skips (begins c.args.cursor.now) a_disjunction (sees_any c.args.cursor.now.rest.now)) h) c.conjunction-read.ensures.failed

pub disjunction-returns-in_err-first-clause-failed : goal.disjunction-returns-in_err-first-clause-failed
disjunction-returns-in_err-first-clause-failed t c = failed_result (disjunction c.args.depth) c.args.cursor.now c.from_residual.result c.in_err-first.field-0.0 c.from_residual.ensures.1 (λ stack. fails (skips (begins c.args.cursor.now) a_disjunction (sees_any c.args.cursor.now.rest.now)) c.in_err-first.ensures.failed)

pub conjunction-returns-then-not-take-clause-read : goal.conjunction-returns-then-not-take-clause-read
conjunction-returns-then-not-take-clause-read t c =
    let no = c.take.ensures.no c.if-not-take.true in
    IfOk-weaker c.operand-read.result _ _ (λ f h. reads_whole (λ stack. at_same (skips (reads (skips (begins c.args.cursor.now) a_conjunction (sees_any c.args.cursor.now.rest.now)) h) last_conjunct (sees_none _ (K.Ampersand ∷ []) (no.0, tt))) no.1)) c.operand-read.ensures.read

pub conjunction-returns-then-not-take-clause-failed : goal.conjunction-returns-then-not-take-clause-failed
conjunction-returns-then-not-take-clause-failed t c = IfErr-weaker c.operand-read.result _ _ (λ e h stack. fails (skips (begins c.args.cursor.now) a_conjunction (sees_any c.args.cursor.now.rest.now)) h) c.operand-read.ensures.failed

pub conjunction-returns-in_err-first-clause-failed : goal.conjunction-returns-in_err-first-clause-failed
conjunction-returns-in_err-first-clause-failed t c = failed_result (conjunction c.args.depth) c.args.cursor.now c.from_residual.result c.in_err-first.field-0.0 c.from_residual.ensures.1 (λ stack. fails (skips (begins c.args.cursor.now) a_conjunction (sees_any c.args.cursor.now.rest.now)) c.in_err-first.ensures.failed)

pub implication-returns-then-not-is_at-clause-read : goal.implication-returns-then-not-is_at-clause-read
implication-returns-then-not-is_at-clause-read t c = IfOk-weaker c.disjunction-read.result _ _ (λ f h. reads_whole (λ stack. skips (reads (skips (begins c.args.cursor.now) an_implication (sees_any c.args.cursor.now.rest.now)) h) no_consequence (sees_none _ (K.Arrow ∷ []) (c.is_at.ensures.no c.if-not-is_at.true, tt)))) c.disjunction-read.ensures.read

pub implication-returns-then-not-is_at-clause-failed : goal.implication-returns-then-not-is_at-clause-failed
implication-returns-then-not-is_at-clause-failed t c = IfErr-weaker c.disjunction-read.result _ _ (λ e h stack. fails (skips (begins c.args.cursor.now) an_implication (sees_any c.args.cursor.now.rest.now)) h) c.disjunction-read.ensures.failed

pub implication-returns-in_err-left-clause-failed : goal.implication-returns-in_err-left-clause-failed
implication-returns-in_err-left-clause-failed t c = failed_result (implication c.args.depth) c.args.cursor.now c.from_residual.result c.in_err-left.field-0.0 c.from_residual.ensures.1 (λ stack. fails (skips (begins c.args.cursor.now) an_implication (sees_any c.args.cursor.now.rest.now)) c.in_err-left.ensures.failed)

pub formula-returns-in_err-second-clause-failed : goal.formula-returns-in_err-second-clause-failed
formula-returns-in_err-second-clause-failed t c = failed_result (formula c.args.depth) c.args.cursor.now c.from_residual-in_err-second.result c.in_err-second.field-0.0 c.from_residual-in_err-second.ensures.1 (λ stack. fails (takes_kind (reads (skips (begins c.args.cursor.now) a_formula (sees_any c.args.cursor.now.rest.now)) c.in_ok-first.ensures.read) (c.take.ensures.yes c.if-not-take.false) (λ limit high. an_equivalent)) c.in_err-second.ensures.failed)

pub formula-returns-in_err-parts-clause-failed : goal.formula-returns-in_err-parts-clause-failed
formula-returns-in_err-parts-clause-failed t c = failed_result (formula c.args.depth) c.args.cursor.now c.from_residual-in_err-parts.result c.in_err-parts.field-0.0 c.from_residual-in_err-parts.ensures.1 (λ stack. fails_spent c.in_err-parts.field-0.0 c.in_err-parts.ensures.spent)

pub formula-loop-parts-init : goal.formula-loop-parts-init
formula-loop-parts-init t c = λ stack.
    with_effect (reads (takes_kind (reads (skips (begins c.args.cursor.now) a_formula (sees_any c.args.cursor.now.rest.now)) c.in_ok-first.ensures.read) (c.take.ensures.yes c.if-not-take.false) (λ limit high. an_equivalent)) c.in_ok-second.ensures.read) (λ vs. ap (λ xs. v_formula (Tree.equivalence (joined (formulas_of xs) (the_formulas (part1 vs)))) ∷ after1 vs) (sym c.in_ok-parts.ensures.items))

pub formula-returns-in_err-implication-clause-failed : goal.formula-returns-in_err-implication-clause-failed
formula-returns-in_err-implication-clause-failed t c = failed_result (formula c.args.depth) c.args.cursor.now c.from_residual-in_err-implication.result c.in_err-implication.field-0.0 c.from_residual-in_err-implication.ensures.1 (λ stack. fails (takes_kind (c.loop-parts.invariant stack) (c.take-in-loop-parts.ensures.yes c.loop-parts-test.true) (λ limit high. an_equivalent)) c.in_err-implication.ensures.failed)

pub formula-loop-parts-smaller : goal.formula-loop-parts-smaller
formula-loop-parts-smaller t c = falls (c.take-in-loop-parts.ensures.yes c.loop-parts-test.true) c.in_ok-implication.ensures.read

pub formula-loop-parts-preserved : goal.formula-loop-parts-preserved
formula-loop-parts-preserved t c = λ stack.
    with_effect (reads (takes_kind (c.loop-parts.invariant stack) (c.take-in-loop-parts.ensures.yes c.loop-parts-test.true) (λ limit high. an_equivalent)) c.in_ok-implication.ensures.read) (λ vs. ap (λ fs. v_formula (Tree.equivalence fs) ∷ after1 vs) (joined_more c.loop-parts.parts.items c.push.new.self.items c.in_ok-implication.field-0 (the_formulas (part1 vs)) c.in_ok-push.ensures.items))

pub formula-returns-in_err-push-clause-failed : goal.formula-returns-in_err-push-clause-failed
formula-returns-in_err-push-clause-failed t c = spent_result (formula c.args.depth) c.args.cursor.now c.from_residual-in_err-push.result c.from_residual-in_err-push.ensures.1

pub formula-returns-clause-read : goal.formula-returns-clause-read
formula-returns-clause-read t c =
    let no = c.take-in-loop-parts.ensures.no c.loop-parts-test.false in
    reads_whole (λ stack. at_same (with_effect (skips (c.loop-parts.invariant stack) last_equivalent (sees_none _ (K.DoubleArrow ∷ []) (no.0, tt))) (λ vs. ap (λ fs. v_formula (Tree.equivalence fs) ∷ vs) (joined_none (formulas_of c.loop-parts.parts.items) ∙ sym (formulas_hidden c.loop-parts.parts)))) no.1)

pub disjunction-returns-in_err-second-clause-failed : goal.disjunction-returns-in_err-second-clause-failed
disjunction-returns-in_err-second-clause-failed t c = failed_result (disjunction c.args.depth) c.args.cursor.now c.from_residual-in_err-second.result c.in_err-second.field-0.0 c.from_residual-in_err-second.ensures.1 (λ stack. fails (takes_kind (reads (skips (begins c.args.cursor.now) a_disjunction (sees_any c.args.cursor.now.rest.now)) c.in_ok-first.ensures.read) (c.take.ensures.yes c.if-not-take.false) (λ limit high. a_disjunct)) c.in_err-second.ensures.failed)

pub disjunction-returns-in_err-parts-clause-failed : goal.disjunction-returns-in_err-parts-clause-failed
disjunction-returns-in_err-parts-clause-failed t c = failed_result (disjunction c.args.depth) c.args.cursor.now c.from_residual-in_err-parts.result c.in_err-parts.field-0.0 c.from_residual-in_err-parts.ensures.1 (λ stack. fails_spent c.in_err-parts.field-0.0 c.in_err-parts.ensures.spent)

pub disjunction-loop-parts-init : goal.disjunction-loop-parts-init
disjunction-loop-parts-init t c = λ stack.
    with_effect (reads (takes_kind (reads (skips (begins c.args.cursor.now) a_disjunction (sees_any c.args.cursor.now.rest.now)) c.in_ok-first.ensures.read) (c.take.ensures.yes c.if-not-take.false) (λ limit high. a_disjunct)) c.in_ok-second.ensures.read) (λ vs. ap (λ xs. v_formula (Tree.disjunction (joined (formulas_of xs) (the_formulas (part1 vs)))) ∷ after1 vs) (sym c.in_ok-parts.ensures.items))

pub disjunction-returns-in_err-conjunction-clause-failed : goal.disjunction-returns-in_err-conjunction-clause-failed
disjunction-returns-in_err-conjunction-clause-failed t c = failed_result (disjunction c.args.depth) c.args.cursor.now c.from_residual-in_err-conjunction.result c.in_err-conjunction.field-0.0 c.from_residual-in_err-conjunction.ensures.1 (λ stack. fails (takes_kind (c.loop-parts.invariant stack) (c.take-in-loop-parts.ensures.yes c.loop-parts-test.true) (λ limit high. a_disjunct)) c.in_err-conjunction.ensures.failed)

pub disjunction-loop-parts-smaller : goal.disjunction-loop-parts-smaller
disjunction-loop-parts-smaller t c = falls (c.take-in-loop-parts.ensures.yes c.loop-parts-test.true) c.in_ok-conjunction.ensures.read

pub disjunction-loop-parts-preserved : goal.disjunction-loop-parts-preserved
disjunction-loop-parts-preserved t c = λ stack.
    with_effect (reads (takes_kind (c.loop-parts.invariant stack) (c.take-in-loop-parts.ensures.yes c.loop-parts-test.true) (λ limit high. a_disjunct)) c.in_ok-conjunction.ensures.read) (λ vs. ap (λ fs. v_formula (Tree.disjunction fs) ∷ after1 vs) (joined_more c.loop-parts.parts.items c.push.new.self.items c.in_ok-conjunction.field-0 (the_formulas (part1 vs)) c.in_ok-push.ensures.items))

pub disjunction-returns-in_err-push-clause-failed : goal.disjunction-returns-in_err-push-clause-failed
disjunction-returns-in_err-push-clause-failed t c = spent_result (disjunction c.args.depth) c.args.cursor.now c.from_residual-in_err-push.result c.from_residual-in_err-push.ensures.1

pub disjunction-returns-clause-read : goal.disjunction-returns-clause-read
disjunction-returns-clause-read t c =
    let no = c.take-in-loop-parts.ensures.no c.loop-parts-test.false in
    reads_whole (λ stack. at_same (with_effect (skips (c.loop-parts.invariant stack) last_disjunct (sees_none _ (K.Bar ∷ []) (no.0, tt))) (λ vs. ap (λ fs. v_formula (Tree.disjunction fs) ∷ vs) (joined_none (formulas_of c.loop-parts.parts.items) ∙ sym (formulas_hidden c.loop-parts.parts)))) no.1)

pub conjunction-returns-in_err-second-clause-failed : goal.conjunction-returns-in_err-second-clause-failed
conjunction-returns-in_err-second-clause-failed t c = failed_result (conjunction c.args.depth) c.args.cursor.now c.from_residual-in_err-second.result c.in_err-second.field-0.0 c.from_residual-in_err-second.ensures.1 (λ stack. fails (takes_kind (reads (skips (begins c.args.cursor.now) a_conjunction (sees_any c.args.cursor.now.rest.now)) c.in_ok-first.ensures.read) (c.take.ensures.yes c.if-not-take.false) (λ limit high. a_conjunct)) c.in_err-second.ensures.failed)

pub conjunction-returns-in_err-parts-clause-failed : goal.conjunction-returns-in_err-parts-clause-failed
conjunction-returns-in_err-parts-clause-failed t c = failed_result (conjunction c.args.depth) c.args.cursor.now c.from_residual-in_err-parts.result c.in_err-parts.field-0.0 c.from_residual-in_err-parts.ensures.1 (λ stack. fails_spent c.in_err-parts.field-0.0 c.in_err-parts.ensures.spent)

pub conjunction-loop-parts-init : goal.conjunction-loop-parts-init
conjunction-loop-parts-init t c = λ stack.
    with_effect (reads (takes_kind (reads (skips (begins c.args.cursor.now) a_conjunction (sees_any c.args.cursor.now.rest.now)) c.in_ok-first.ensures.read) (c.take.ensures.yes c.if-not-take.false) (λ limit high. a_conjunct)) c.in_ok-second.ensures.read) (λ vs. ap (λ xs. v_formula (Tree.conjunction (joined (formulas_of xs) (the_formulas (part1 vs)))) ∷ after1 vs) (sym c.in_ok-parts.ensures.items))

pub conjunction-returns-in_err-operand-clause-failed : goal.conjunction-returns-in_err-operand-clause-failed
conjunction-returns-in_err-operand-clause-failed t c = failed_result (conjunction c.args.depth) c.args.cursor.now c.from_residual-in_err-operand.result c.in_err-operand.field-0.0 c.from_residual-in_err-operand.ensures.1 (λ stack. fails (takes_kind (c.loop-parts.invariant stack) (c.take-in-loop-parts.ensures.yes c.loop-parts-test.true) (λ limit high. a_conjunct)) c.in_err-operand.ensures.failed)

pub conjunction-loop-parts-smaller : goal.conjunction-loop-parts-smaller
conjunction-loop-parts-smaller t c = falls (c.take-in-loop-parts.ensures.yes c.loop-parts-test.true) c.in_ok-operand.ensures.read

pub conjunction-loop-parts-preserved : goal.conjunction-loop-parts-preserved
conjunction-loop-parts-preserved t c = λ stack.
    with_effect (reads (takes_kind (c.loop-parts.invariant stack) (c.take-in-loop-parts.ensures.yes c.loop-parts-test.true) (λ limit high. a_conjunct)) c.in_ok-operand.ensures.read) (λ vs. ap (λ fs. v_formula (Tree.conjunction fs) ∷ after1 vs) (joined_more c.loop-parts.parts.items c.push.new.self.items c.in_ok-operand.field-0 (the_formulas (part1 vs)) c.in_ok-push.ensures.items))

pub conjunction-returns-in_err-push-clause-failed : goal.conjunction-returns-in_err-push-clause-failed
conjunction-returns-in_err-push-clause-failed t c = spent_result (conjunction c.args.depth) c.args.cursor.now c.from_residual-in_err-push.result c.from_residual-in_err-push.ensures.1

pub conjunction-returns-clause-read : goal.conjunction-returns-clause-read
conjunction-returns-clause-read t c =
    let no = c.take-in-loop-parts.ensures.no c.loop-parts-test.false in
    reads_whole (λ stack. at_same (with_effect (skips (c.loop-parts.invariant stack) last_conjunct (sees_none _ (K.Ampersand ∷ []) (no.0, tt))) (λ vs. ap (λ fs. v_formula (Tree.conjunction fs) ∷ vs) (joined_none (formulas_of c.loop-parts.parts.items) ∙ sym (formulas_hidden c.loop-parts.parts)))) no.1)

pub implication-returns-then-depth-ge-MOST_LEVELS-clause-failed : goal.implication-returns-then-depth-ge-MOST_LEVELS-clause-failed
implication-returns-then-depth-ge-MOST_LEVELS-clause-failed t c = λ stack. is_stuck c.too_deep.result Deep (reads (skips (begins c.args.cursor.now) an_implication (sees_any c.args.cursor.now.rest.now)) c.in_ok-left.ensures.read) c.too_deep.ensures (stuck_deep stack _ (c.is_at.ensures.yes c.if-not-is_at.false) (a_consequence (omega arith)) (λ body f p. deep_consequence (omega arith) p))

pub implication-returns-in_err-right-clause-failed : goal.implication-returns-in_err-right-clause-failed
implication-returns-in_err-right-clause-failed t c = failed_result (implication c.args.depth) c.args.cursor.now c.from_residual-in_err-right.result c.in_err-right.field-0.0 c.from_residual-in_err-right.ensures.1 (λ stack. fails (takes (reads (skips (begins c.args.cursor.now) an_implication (sees_any c.args.cursor.now.rest.now)) c.in_ok-left.ensures.read) c.pass-arrow.ensures.steps c.pass-arrow.ensures.kind (λ limit high. a_consequence (omega arith))) c.in_err-right.ensures.failed)

pub implication-returns-in_err-new-clause-failed : goal.implication-returns-in_err-new-clause-failed
implication-returns-in_err-new-clause-failed t c = spent_result (implication c.args.depth) c.args.cursor.now c.from_residual-in_err-new.result c.from_residual-in_err-new.ensures.1

pub implication-returns-in_err-new-2-clause-failed : goal.implication-returns-in_err-new-2-clause-failed
implication-returns-in_err-new-2-clause-failed t c = spent_result (implication c.args.depth) c.args.cursor.now c.from_residual-in_err-new-2.result c.from_residual-in_err-new-2.ensures.1

pub implication-returns-clause-read : goal.implication-returns-clause-read
implication-returns-clause-read t c =
    let Q : Form → Type 0 = λ f. Reads (implication c.args.depth) c.args.cursor.now (v_formula (Tree.implication (formula_of f) (formula_of c.in_ok-new-2.field-0.value))) c.implication.new.cursor in
    let R : Form → Type 0 = λ g. Reads (implication c.args.depth) c.args.cursor.now (v_formula (Tree.implication (formula_of c.in_ok-left.left) (formula_of g))) c.implication.new.cursor in
    subst Q (sym c.in_ok-new.ensures.ok) (subst R (sym c.in_ok-new-2.ensures.ok) (reads_whole (λ stack. reads (takes (reads (skips (begins c.args.cursor.now) an_implication (sees_any c.args.cursor.now.rest.now)) c.in_ok-left.ensures.read) c.pass-arrow.ensures.steps c.pass-arrow.ensures.kind (λ limit high. a_consequence (omega arith))) c.in_ok-right.ensures.read)))

pub negation-returns-then-depth-ge-MOST_LEVELS-clause-failed : goal.negation-returns-then-depth-ge-MOST_LEVELS-clause-failed
negation-returns-then-depth-ge-MOST_LEVELS-clause-failed t c = λ stack. is_stuck c.too_deep.result Deep (begins c.args.cursor.now) c.too_deep.ensures (stuck_deep stack c.args.cursor.now.rest.now c.requires.ahead (a_negation (omega arith)) (λ body f p. deep_negation (omega arith) p))

pub negation-returns-in_err-body-clause-failed : goal.negation-returns-in_err-body-clause-failed
negation-returns-in_err-body-clause-failed t c = failed_result (operand c.args.depth) c.args.cursor.now c.from_residual.result c.in_err-body.field-0.0 c.from_residual.ensures.1 (λ stack. fails (takes (begins c.args.cursor.now) c.pass-sign.ensures.steps c.pass-sign.ensures.kind (λ limit high. a_negation (omega arith))) c.in_err-body.ensures.failed)

pub negation-returns-in_err-new-clause-failed : goal.negation-returns-in_err-new-clause-failed
negation-returns-in_err-new-clause-failed t c = spent_result (operand c.args.depth) c.args.cursor.now c.from_residual-in_err-new.result c.from_residual-in_err-new.ensures.1

pub negation-returns-clause-read : goal.negation-returns-clause-read
negation-returns-clause-read t c =
    let Q : Form → Type 0 = λ f. Reads (operand c.args.depth) c.args.cursor.now (v_formula (Tree.negation (formula_of f))) c.operand.new.cursor in
    subst Q (sym c.in_ok-new.ensures.ok) (reads_whole (λ stack. reads (takes (begins c.args.cursor.now) c.pass-sign.ensures.steps c.pass-sign.ensures.kind (λ limit high. a_negation (omega arith))) c.in_ok-body.ensures.read))

pub bracket-returns-then-depth-ge-MOST_LEVELS-clause-failed : goal.bracket-returns-then-depth-ge-MOST_LEVELS-clause-failed
bracket-returns-then-depth-ge-MOST_LEVELS-clause-failed t c = λ stack. is_stuck c.too_deep.result Deep (begins c.args.cursor.now) c.too_deep.ensures (stuck_deep stack c.args.cursor.now.rest.now c.requires.ahead (a_bracket (omega arith)) (λ body f p. deep_bracket (omega arith) p))

pub bracket-returns-in_err-inner-clause-failed : goal.bracket-returns-in_err-inner-clause-failed
bracket-returns-in_err-inner-clause-failed t c = failed_result (operand c.args.depth) c.args.cursor.now c.from_residual.result c.in_err-inner.field-0.0 c.from_residual.ensures.1 (λ stack. fails (takes (begins c.args.cursor.now) c.pass-sign.ensures.steps c.pass-sign.ensures.kind (λ limit high. a_bracket (omega arith))) c.in_err-inner.ensures.failed)

pub bracket-returns-in_err-expect-clause-failed : goal.bracket-returns-in_err-expect-clause-failed
bracket-returns-in_err-expect-clause-failed t c = failed_result (operand c.args.depth) c.args.cursor.now c.from_residual-in_err-expect.result c.in_err-expect.field-0.0 c.from_residual-in_err-expect.ensures.1 (λ stack. fails (reads (takes (begins c.args.cursor.now) c.pass-sign.ensures.steps c.pass-sign.ensures.kind (λ limit high. a_bracket (omega arith))) c.in_ok-inner.ensures.read) c.in_err-expect.ensures.failed)

pub bracket-returns-clause-read : goal.bracket-returns-clause-read
bracket-returns-clause-read t c = reads_whole (λ stack. passes (reads (takes (begins c.args.cursor.now) c.pass-sign.ensures.steps c.pass-sign.ensures.kind (λ limit high. a_bracket (omega arith))) c.in_ok-inner.ensures.read) c.in_ok-expect.ensures.passed)

pub quantified-returns-then-depth-ge-MOST_LEVELS-clause-failed : goal.quantified-returns-then-depth-ge-MOST_LEVELS-clause-failed
quantified-returns-then-depth-ge-MOST_LEVELS-clause-failed t c = λ stack. is_stuck c.too_deep.result Deep (begins c.args.cursor.now) c.too_deep.ensures (stuck_deep stack c.args.cursor.now.rest.now (c.requires.ahead ∙ ap (λ k. Some k) c.requires.word) (by_quantifier c.args.universal (omega arith)) (λ body f p. deep_quantifier c.args.universal (omega arith) p))

pub quantified-returns-in_err-variables-clause-failed : goal.quantified-returns-in_err-variables-clause-failed
quantified-returns-in_err-variables-clause-failed t c = failed_result (operand c.args.depth) c.args.cursor.now c.from_residual.result c.in_err-variables.field-0.0 c.from_residual.ensures.1 (λ stack. fails (takes (begins c.args.cursor.now) c.pass-word.ensures.steps (c.pass-word.ensures.kind ∙ c.requires.word) (λ limit high. by_quantifier c.args.universal (omega arith))) c.in_err-variables.ensures.failed)

pub quantified-returns-in_err-expect-clause-failed : goal.quantified-returns-in_err-expect-clause-failed
quantified-returns-in_err-expect-clause-failed t c = failed_result (operand c.args.depth) c.args.cursor.now c.from_residual-in_err-expect.result c.in_err-expect.field-0.0 c.from_residual-in_err-expect.ensures.1 (λ stack. fails (reads (takes (begins c.args.cursor.now) c.pass-word.ensures.steps (c.pass-word.ensures.kind ∙ c.requires.word) (λ limit high. by_quantifier c.args.universal (omega arith))) c.in_ok-variables.ensures.read) c.in_err-expect.ensures.failed)

pub quantified-returns-in_err-body-clause-failed : goal.quantified-returns-in_err-body-clause-failed
quantified-returns-in_err-body-clause-failed t c = failed_result (operand c.args.depth) c.args.cursor.now c.from_residual-in_err-body.result c.in_err-body.field-0.0 c.from_residual-in_err-body.ensures.1 (λ stack. fails (passes (reads (takes (begins c.args.cursor.now) c.pass-word.ensures.steps (c.pass-word.ensures.kind ∙ c.requires.word) (λ limit high. by_quantifier c.args.universal (omega arith))) c.in_ok-variables.ensures.read) c.in_ok-expect.ensures.passed) c.in_err-body.ensures.failed)

pub quantified-returns-in_err-new-clause-failed : goal.quantified-returns-in_err-new-clause-failed
quantified-returns-in_err-new-clause-failed t c = spent_result (operand c.args.depth) c.args.cursor.now c.from_residual-in_err-new.result c.from_residual-in_err-new.ensures.1

pub quantified-returns-clause-read : goal.quantified-returns-clause-read
quantified-returns-clause-read t c =
    let Q : Form → Type 0 = λ f. Reads (operand c.args.depth) c.args.cursor.now (v_formula (Tree.quantified c.args.universal c.in_ok-variables.variables.items (formula_of f) c.pass-word.result.start)) c.formula.new.cursor in
    subst Q (sym c.in_ok-new.ensures.ok) (reads_whole (λ stack. reads (passes (reads (takes (begins c.args.cursor.now) c.pass-word.ensures.steps (c.pass-word.ensures.kind ∙ c.requires.word) (λ limit high. by_quantifier c.args.universal (omega arith))) c.in_ok-variables.ensures.read) c.in_ok-expect.ensures.passed) c.in_ok-body.ensures.read))

pub operand-returns-in_default-clause-failed : goal.operand-returns-in_default-clause-failed
operand-returns-in_default-clause-failed t c = λ stack. is_stuck c.refusal.result Unexpected (begins c.args.cursor.now) c.refusal.ensures (stuck_operand c.args.cursor.now.bytes.now c.args.depth stack c.args.cursor.now.rest.now (none_ahead c.args.cursor.now.rest.now (K.Tilde ∷ K.WordTrue ∷ K.WordFalse ∷ K.OpenRound ∷ K.WordForall ∷ K.WordExists ∷ K.Lower ∷ K.Upper ∷ []) (sym c.kind.ensures ∙ c.in_default.is)))

pub operand-returns-in_default-kind : goal.operand-returns-in_default-kind
operand-returns-in_default-kind t c = record { read = tt; failed = λ stack. is_stuck c.refusal-in_default-kind.result Unexpected (begins c.args.cursor.now) c.refusal-in_default-kind.ensures (stuck_operand c.args.cursor.now.bytes.now c.args.depth stack c.args.cursor.now.rest.now (other_ahead c.args.cursor.now.rest.now (K.Tilde ∷ K.WordTrue ∷ K.WordFalse ∷ K.OpenRound ∷ K.WordForall ∷ K.WordExists ∷ K.Lower ∷ K.Upper ∷ []) c.in-Some.kind (sym c.kind.ensures ∙ c.in-Some.is) (c.in_default-kind.not-Tilde, (c.in_default-kind.not-WordTrue, (c.in_default-kind.not-WordFalse, (c.in_default-kind.not-OpenRound, (c.in_default-kind.not-WordForall, (c.in_default-kind.not-WordExists, (c.in_default-kind.not-Lower, (c.in_default-kind.not-Upper, tt)))))))))) }

pub operand-returns-in-WordTrue-clause-read : goal.operand-returns-in-WordTrue-clause-read
operand-returns-in-WordTrue-clause-read t c = reads_whole (λ stack. takes (begins c.args.cursor.now) c.pass-word.ensures.steps c.pass-word.ensures.kind (λ limit high. a_truth))

pub operand-returns-in-WordFalse-clause-read : goal.operand-returns-in-WordFalse-clause-read
operand-returns-in-WordFalse-clause-read t c = reads_whole (λ stack. takes (begins c.args.cursor.now) c.pass-word-in-WordFalse.ensures.steps c.pass-word-in-WordFalse.ensures.kind (λ limit high. a_falsehood))
