use Rattle.std.proofs.Common.{◌≡◌, List, [], ◌∷◌, ◌++◌, refl, sym, ◌∙◌, subst, ap, arith, Some}
use Rattle.dai_lex.specs.declared.token.Kind.TheVariants as K
use Rattle.dai_syntax.specs.declared.tree.Stat.{Stat}
use Rattle.dai_syntax.specs.declared.binders.Class.TheVariants as C
use Rattle.dai_syntax.specs.declared.error.SyntaxError.TheVariants.{Unexpected, Deep, LeftOut}
use Rattle.dai_syntax.specs.Tree as Tree
use Rattle.dai_syntax.specs.Trees.{statement_of, statements_of}
use Rattle.dai_syntax.specs.Symbols.{Symbol, binders, block, statements, condition, otherwise, alternative, v_statement, v_statements, the_statements, part1, after1}
use Rattle.dai_syntax.specs.Grammar.{a_block, a_conditional, some_locals, an_alternative, a_further_condition, the_condition, no_alternative, a_last_alternative}
use Rattle.dai_syntax.specs.Reading.{Reads, Leaves}
use Rattle.dai_syntax.specs.Effects.{statement_effect}
use Rattle.dai_syntax.proofs.Leading.{stuck_deep}
use Rattle.dai_syntax.proofs.Stuck.{sees_none, stuck_block, sees_any, other_ahead, none_ahead}
use Rattle.dai_syntax.proofs.Paths.{begins, takes, skips, reads, passes, reads_whole, fails, is_stuck, spent_result, failed_result, leaves_whole, with_effect}
use Rattle.dai_syntax.proofs.Rows.{statements_hidden, conditional_of}
use Rattle.dai_syntax.proofs.Deep.{deep_block, deep_conditional, deep_locals, deep_alternative}
use Rattle.dai_syntax.proofs.Blocks.{left_out_at_statement, strict, gathers_none, gathers_more, gathers_semicolon, gathers_block, gathers_last, gathers_end, next_statement, no_next_statement, falls_after, falls_same}
use Rattle.std.proofs.Common.{inl, inr}
use Rattle.dai_syntax.proofs.statements.+block.Goals as goal

pub block-returns-then-not-is_at-clause-failed : goal.block-returns-then-not-is_at-clause-failed
block-returns-then-not-is_at-clause-failed t c = λ stack. is_stuck c.refusal.result Unexpected (begins c.args.cursor.now) c.refusal.ensures (stuck_block c.args.cursor.now.bytes.now c.args.depth stack c.args.cursor.now.rest.now (sees_none _ (K.OpenCurly ∷ []) (c.is_at.ensures.no c.if-not-is_at.true, tt)))

pub block-returns-then-depth-ge-MOST_LEVELS-clause-failed : goal.block-returns-then-depth-ge-MOST_LEVELS-clause-failed
block-returns-then-depth-ge-MOST_LEVELS-clause-failed t c = λ stack. is_stuck c.too_deep.result Deep (begins c.args.cursor.now) c.too_deep.ensures (stuck_deep stack c.args.cursor.now.rest.now (c.is_at.ensures.yes c.if-not-is_at.false) (a_block (omega arith)) (λ body f p. deep_block (omega arith) p))

pub block-returns-in_err-body-clause-failed : goal.block-returns-in_err-body-clause-failed
block-returns-in_err-body-clause-failed t c = failed_result (block c.args.depth) c.args.cursor.now c.from_residual.result c.in_err-body.field-0.0 c.from_residual.ensures.1 (λ stack. fails (takes (begins c.args.cursor.now) c.pass-sign.ensures.steps c.pass-sign.ensures.kind (λ limit high. a_block (omega arith))) c.in_err-body.ensures.failed)

pub block-returns-in_err-expect-clause-failed : goal.block-returns-in_err-expect-clause-failed
block-returns-in_err-expect-clause-failed t c = failed_result (block c.args.depth) c.args.cursor.now c.from_residual-in_err-expect.result c.in_err-expect.field-0.0 c.from_residual-in_err-expect.ensures.1 (λ stack. fails (reads (takes (begins c.args.cursor.now) c.pass-sign.ensures.steps c.pass-sign.ensures.kind (λ limit high. a_block (omega arith))) c.in_ok-body.ensures.read) c.in_err-expect.ensures.failed)

pub block-returns-clause-read : goal.block-returns-clause-read
block-returns-clause-read t c = reads_whole (λ stack. passes (reads (takes (begins c.args.cursor.now) c.pass-sign.ensures.steps c.pass-sign.ensures.kind (λ limit high. a_block (omega arith))) c.in_ok-body.ensures.read) c.in_ok-expect.ensures.passed)

pub condition-returns-in_err-cond-clause-failed : goal.condition-returns-in_err-cond-clause-failed
condition-returns-in_err-cond-clause-failed t c = failed_result (condition c.args.depth) c.args.cursor.now c.from_residual.result c.in_err-cond.field-0.0 c.from_residual.ensures.1 (λ stack. fails (skips (begins c.args.cursor.now) the_condition (sees_any c.args.cursor.now.rest.now)) c.in_err-cond.ensures.failed)

pub condition-returns-in_err-yes-clause-failed : goal.condition-returns-in_err-yes-clause-failed
condition-returns-in_err-yes-clause-failed t c = failed_result (condition c.args.depth) c.args.cursor.now c.from_residual-in_err-yes.result c.in_err-yes.field-0.0 c.from_residual-in_err-yes.ensures.1 (λ stack. fails (reads (skips (begins c.args.cursor.now) the_condition (sees_any c.args.cursor.now.rest.now)) c.in_ok-cond.ensures.read) c.in_err-yes.ensures.failed)

pub condition-returns-in_err-no-clause-failed : goal.condition-returns-in_err-no-clause-failed
condition-returns-in_err-no-clause-failed t c = failed_result (condition c.args.depth) c.args.cursor.now c.from_residual-in_err-no.result c.in_err-no.field-0.0 c.from_residual-in_err-no.ensures.1 (λ stack. fails (reads (reads (skips (begins c.args.cursor.now) the_condition (sees_any c.args.cursor.now.rest.now)) c.in_ok-cond.ensures.read) c.in_ok-yes.ensures.read) c.in_err-no.ensures.failed)

pub condition-returns-clause-read : goal.condition-returns-clause-read
condition-returns-clause-read t c = reads_whole (λ stack. with_effect (reads (reads (reads (skips (begins c.args.cursor.now) the_condition (sees_any c.args.cursor.now.rest.now)) c.in_ok-cond.ensures.read) c.in_ok-yes.ensures.read) c.in_ok-no.ensures.read) (λ vs. ap (λ x. v_statement x ∷ vs) (sym (conditional_of c.in_ok-cond.cond c.in_ok-yes.yes c.in_ok-no.no))))

pub condition-returns-clause-block : goal.condition-returns-clause-block
condition-returns-clause-block t c = λ d. refl

pub conditional-returns-then-depth-ge-MOST_LEVELS-clause-failed : goal.conditional-returns-then-depth-ge-MOST_LEVELS-clause-failed
conditional-returns-then-depth-ge-MOST_LEVELS-clause-failed t c = λ stack. is_stuck c.too_deep.result Deep (begins c.args.cursor.now) c.too_deep.ensures (stuck_deep stack c.args.cursor.now.rest.now c.requires.ahead (a_conditional (omega arith)) (λ body f p. deep_conditional (omega arith) p))

pub conditional-returns-in_err-condition-clause-failed : goal.conditional-returns-in_err-condition-clause-failed
conditional-returns-in_err-condition-clause-failed t c = failed_result (statements c.args.depth) c.args.cursor.now c.from_residual.result c.in_err-condition.field-0.0 c.from_residual.ensures.1 (λ stack. fails (takes (begins c.args.cursor.now) c.pass-word.ensures.steps c.pass-word.ensures.kind (λ limit high. a_conditional (omega arith))) c.in_err-condition.ensures.failed)

pub conditional-returns-clause-read : goal.conditional-returns-clause-read
conditional-returns-clause-read t c =
    let x = statement_of c.in_ok-condition.field-0 in
    let P : Symbol → Type 0 = λ y. Leaves (statements c.args.depth) c.args.cursor.now (y ∷ []) c.condition.new.cursor (statement_effect x) in
    record {
      leaves = subst P (sym (c.in_ok-condition.ensures.block c.args.depth)) (leaves_whole (λ stack. reads (takes (begins c.args.cursor.now) c.pass-word.ensures.steps c.pass-word.ensures.kind (λ limit high. a_conditional (omega arith))) c.in_ok-condition.ensures.read));
      shorter = strict c.pass-word.ensures.steps (reads (begins c.pass-word.new.self {stack = condition c.args.depth ∷ []}) c.in_ok-condition.ensures.read);
    }

pub otherwise-returns-then-not-is_at-clause-read : goal.otherwise-returns-then-not-is_at-clause-read
otherwise-returns-then-not-is_at-clause-read t c =
    let P : List Stat → Type 0 = λ xs. Reads (otherwise c.args.depth) c.args.cursor.now (v_statements (statements_of xs)) c.args.cursor.now in
    subst P (sym c.new.ensures.items) (reads_whole (λ stack. skips (begins c.args.cursor.now) no_alternative (sees_none _ (K.WordElse ∷ []) (c.is_at.ensures.no c.if-not-is_at.true, tt))))

pub otherwise-returns-then-depth-ge-MOST_LEVELS-clause-failed : goal.otherwise-returns-then-depth-ge-MOST_LEVELS-clause-failed
otherwise-returns-then-depth-ge-MOST_LEVELS-clause-failed t c = λ stack. is_stuck c.too_deep.result Deep (begins c.args.cursor.now) c.too_deep.ensures (stuck_deep stack c.args.cursor.now.rest.now (c.is_at.ensures.yes c.if-not-is_at.false) (an_alternative (omega arith)) (λ body f p. deep_alternative (omega arith) p))

pub otherwise-returns-in_err-alternative-clause-failed : goal.otherwise-returns-in_err-alternative-clause-failed
otherwise-returns-in_err-alternative-clause-failed t c = failed_result (otherwise c.args.depth) c.args.cursor.now c.from_residual.result c.in_err-alternative.field-0.0 c.from_residual.ensures.1 (λ stack. fails (takes (begins c.args.cursor.now) c.pass-word.ensures.steps c.pass-word.ensures.kind (λ limit high. an_alternative (omega arith))) c.in_err-alternative.ensures.failed)

pub otherwise-returns-clause-read : goal.otherwise-returns-clause-read
otherwise-returns-clause-read t c = reads_whole (λ stack. reads (takes (begins c.args.cursor.now) c.pass-word.ensures.steps c.pass-word.ensures.kind (λ limit high. an_alternative (omega arith))) c.in_ok-alternative.ensures.read)

pub alternative-returns-in_err-block-clause-failed : goal.alternative-returns-in_err-block-clause-failed
alternative-returns-in_err-block-clause-failed t c = failed_result (alternative c.args.depth) c.args.cursor.now c.from_residual.result c.in_err-block.field-0.0 c.from_residual.ensures.1 (λ stack. fails (skips (begins c.args.cursor.now) a_last_alternative (sees_none _ (K.WordIf ∷ []) (c.is_at.ensures.no c.if-not-is_at.true, tt))) c.in_err-block.ensures.failed)

pub alternative-returns-then-not-is_at-clause-read : goal.alternative-returns-then-not-is_at-clause-read
alternative-returns-then-not-is_at-clause-read t c = reads_whole (λ stack. reads (skips (begins c.args.cursor.now) a_last_alternative (sees_none _ (K.WordIf ∷ []) (c.is_at.ensures.no c.if-not-is_at.true, tt))) c.in_ok-block.ensures.read)

pub alternative-returns-in_err-condition-clause-failed : goal.alternative-returns-in_err-condition-clause-failed
alternative-returns-in_err-condition-clause-failed t c = failed_result (alternative c.args.depth) c.args.cursor.now c.from_residual-in_err-condition.result c.in_err-condition.field-0.0 c.from_residual-in_err-condition.ensures.1 (λ stack. fails (takes (begins c.args.cursor.now) c.pass-word.ensures.steps c.pass-word.ensures.kind (λ limit high. a_further_condition (omega arith))) c.in_err-condition.ensures.failed)

pub alternative-returns-in_err-push-clause-failed : goal.alternative-returns-in_err-push-clause-failed
alternative-returns-in_err-push-clause-failed t c = spent_result (alternative c.args.depth) c.args.cursor.now c.from_residual-in_err-push.result c.from_residual-in_err-push.ensures.1

pub alternative-returns-clause-read : goal.alternative-returns-clause-read
alternative-returns-clause-read t c =
    let x = c.in_ok-condition.field-0 in
    let e : c.push.new.self.items ≡ x ∷ [] = c.in_ok-push.ensures.items ∙ ap (λ xs. xs ++ x ∷ []) c.new-body.ensures.items in
    reads_whole (λ stack. with_effect (reads (takes (begins c.args.cursor.now) c.pass-word.ensures.steps c.pass-word.ensures.kind (λ limit high. a_further_condition (omega arith))) c.in_ok-condition.ensures.read) (λ vs. ap (λ xs. v_statements (statements_of xs) ∷ vs) (sym e)))

pub locals-returns-then-depth-ge-MOST_LEVELS-clause-failed : goal.locals-returns-then-depth-ge-MOST_LEVELS-clause-failed
locals-returns-then-depth-ge-MOST_LEVELS-clause-failed t c = λ stack. is_stuck c.too_deep.result Deep (begins c.args.cursor.now) c.too_deep.ensures (stuck_deep stack c.args.cursor.now.rest.now c.requires.ahead (some_locals (omega arith)) (λ body f p. deep_locals (omega arith) p))

pub locals-returns-in_err-names-clause-failed : goal.locals-returns-in_err-names-clause-failed
locals-returns-in_err-names-clause-failed t c = failed_result (statements c.args.depth) c.args.cursor.now c.from_residual.result c.in_err-names.field-0.0 c.from_residual.ensures.1 (λ stack. fails (takes (begins c.args.cursor.now) c.pass-word.ensures.steps c.pass-word.ensures.kind (λ limit high. some_locals (omega arith))) c.in_err-names.ensures.failed)

pub locals-returns-in_err-block-clause-failed : goal.locals-returns-in_err-block-clause-failed
locals-returns-in_err-block-clause-failed t c = failed_result (statements c.args.depth) c.args.cursor.now c.from_residual-in_err-block.result c.in_err-block.field-0.0 c.from_residual-in_err-block.ensures.1 (λ stack. fails (reads (takes (begins c.args.cursor.now) c.pass-word.ensures.steps c.pass-word.ensures.kind (λ limit high. some_locals (omega arith))) c.in_ok-names.ensures.read) c.in_err-block.ensures.failed)

pub locals-returns-clause-read : goal.locals-returns-clause-read
locals-returns-clause-read t c = record {
  leaves = leaves_whole (λ stack. with_effect (reads (reads (takes (begins c.args.cursor.now) c.pass-word.ensures.steps c.pass-word.ensures.kind (λ limit high. some_locals (omega arith))) c.in_ok-names.ensures.read) c.in_ok-block.ensures.read) (λ vs. ap (λ ys. v_statements (Tree.with_statement (Tree.with_locals c.in_ok-names.names.items ys) (the_statements (part1 vs))) ∷ after1 vs) (sym (statements_hidden c.in_ok-block.field-0))));
  shorter = strict c.pass-word.ensures.steps (reads (reads (begins c.pass-word.new.self {stack = binders C.Parameter ∷ block c.args.depth ∷ []}) c.in_ok-names.ensures.read) c.in_ok-block.ensures.read);
}

pub statement-returns-in_default-clause-read : goal.statement-returns-in_default-clause-read
statement-returns-in_default-clause-read t c = (refl, none_ahead c.args.cursor.now.rest.now (K.WordRequire ∷ K.WordAssume ∷ K.Lower ∷ K.WordIf ∷ K.WordLocal ∷ K.LeftOut ∷ []) (sym c.kind.ensures ∙ c.in_default.is))

pub statement-requirement-requires-clause-word : goal.statement-requirement-requires-clause-word
statement-requirement-requires-clause-word t c = inl refl

pub statement-requirement-requires-in-WordAssume-clause-word : goal.statement-requirement-requires-in-WordAssume-clause-word
statement-requirement-requires-in-WordAssume-clause-word t c = inr refl

pub statement-returns-in_err-requirement-in-WordRequire-clause-failed : goal.statement-returns-in_err-requirement-in-WordRequire-clause-failed
statement-returns-in_err-requirement-in-WordRequire-clause-failed t c = failed_result (statements c.args.depth) c.args.cursor.now c.from_residual.result c.in_err-requirement-in-WordRequire.field-0.0 c.from_residual.ensures.1 c.in_err-requirement-in-WordRequire.ensures.failed

pub statement-returns-in_err-requirement-in-WordAssume-clause-failed : goal.statement-returns-in_err-requirement-in-WordAssume-clause-failed
statement-returns-in_err-requirement-in-WordAssume-clause-failed t c = failed_result (statements c.args.depth) c.args.cursor.now c.from_residual-in_err-requirement-in-WordAssume.result c.in_err-requirement-in-WordAssume.field-0.0 c.from_residual-in_err-requirement-in-WordAssume.ensures.1 c.in_err-requirement-in-WordAssume.ensures.failed

pub statement-returns-in_err-assignment-in-Lower-clause-failed : goal.statement-returns-in_err-assignment-in-Lower-clause-failed
statement-returns-in_err-assignment-in-Lower-clause-failed t c = failed_result (statements c.args.depth) c.args.cursor.now c.from_residual-in_err-assignment-in-Lower.result c.in_err-assignment-in-Lower.field-0.0 c.from_residual-in_err-assignment-in-Lower.ensures.1 c.in_err-assignment-in-Lower.ensures.failed

pub statement-returns-in_err-conditional-in-WordIf-clause-failed : goal.statement-returns-in_err-conditional-in-WordIf-clause-failed
statement-returns-in_err-conditional-in-WordIf-clause-failed t c = failed_result (statements c.args.depth) c.args.cursor.now c.from_residual-in_err-conditional-in-WordIf.result c.in_err-conditional-in-WordIf.field-0.0 c.from_residual-in_err-conditional-in-WordIf.ensures.1 c.in_err-conditional-in-WordIf.ensures.failed

pub statement-returns-in_err-locals-in-WordLocal-clause-failed : goal.statement-returns-in_err-locals-in-WordLocal-clause-failed
statement-returns-in_err-locals-in-WordLocal-clause-failed t c = failed_result (statements c.args.depth) c.args.cursor.now c.from_residual-in_err-locals-in-WordLocal.result c.in_err-locals-in-WordLocal.field-0.0 c.from_residual-in_err-locals-in-WordLocal.ensures.1 c.in_err-locals-in-WordLocal.ensures.failed

pub statement-returns-in-LeftOut-clause-failed : goal.statement-returns-in-LeftOut-clause-failed
statement-returns-in-LeftOut-clause-failed t c = λ stack. is_stuck c.left_out.result LeftOut (begins c.args.cursor.now) c.left_out.ensures (left_out_at_statement c.args.cursor.now.bytes.now c.args.depth stack c.args.cursor.now.rest.now (sym c.kind.ensures ∙ (c.in-Some.is ∙ ap (λ k. Some k) c.in-LeftOut.is)))

pub statement-returns-in_default-kind : goal.statement-returns-in_default-kind
statement-returns-in_default-kind t c = record { read = (refl, other_ahead c.args.cursor.now.rest.now (K.WordRequire ∷ K.WordAssume ∷ K.Lower ∷ K.WordIf ∷ K.WordLocal ∷ K.LeftOut ∷ []) c.in-Some.kind (sym c.kind.ensures ∙ c.in-Some.is) (c.in_default-kind.not-WordRequire, (c.in_default-kind.not-WordAssume, (c.in_default-kind.not-Lower, (c.in_default-kind.not-WordIf, (c.in_default-kind.not-WordLocal, (c.in_default-kind.not-LeftOut, tt))))))); failed = tt }

pub statements-loop-body-init : goal.statements-loop-body-init
statements-loop-body-init t c = λ stack. gathers_none c.args.cursor.now c.new-body.result.items c.new-body.ensures.items

pub statements-returns-in_err-next-clause-failed : goal.statements-returns-in_err-next-clause-failed
statements-returns-in_err-next-clause-failed t c = failed_result (statements c.args.depth) c.args.cursor.now c.from_residual.result c.in_err-next.field-0.0 c.from_residual.ensures.1 (λ stack. fails (c.loop-body.invariant stack).path c.in_err-next.ensures.failed)

pub statements-returns-in_default-clause-read : goal.statements-returns-in_default-clause-read
statements-returns-in_default-clause-read t c =
    let h = no_next_statement c.args.depth c.loop-body.cursor c.statement.new.cursor c.in_ok-next.field-0 c.in_ok-next.ensures.read c.in_default.is in
    reads_whole (λ stack. gathers_end (c.loop-body.invariant stack) h.1 h.0)

pub statements-returns-in_err-push-clause-failed : goal.statements-returns-in_err-push-clause-failed
statements-returns-in_err-push-clause-failed t c = spent_result (statements c.args.depth) c.args.cursor.now c.from_residual-in_err-push.result c.from_residual-in_err-push.ensures.1

pub statements-loop-body-smaller-then-take : goal.statements-loop-body-smaller-then-take
statements-loop-body-smaller-then-take t c =
    let r = next_statement c.args.depth c.loop-body.cursor c.statement.new.cursor c.in_ok-next.field-0 c.in-Some.next c.in_ok-next.ensures.read c.in-Some.is in
    falls_after c.loop-body.cursor r.shorter (c.take.ensures.yes c.if-take.true)

pub statements-loop-body-preserved-then-take : goal.statements-loop-body-preserved-then-take
statements-loop-body-preserved-then-take t c =
    let r = next_statement c.args.depth c.loop-body.cursor c.statement.new.cursor c.in_ok-next.field-0 c.in-Some.next c.in_ok-next.ensures.read c.in-Some.is in
    λ stack. gathers_semicolon (statement_of c.in-Some.next) (gathers_more c.in-Some.next (c.loop-body.invariant stack) r.leaves c.in_ok-push.ensures.items) (c.take.ensures.yes c.if-take.true)

pub statements-returns-then-not-is_block-clause-read : goal.statements-returns-then-not-is_block-clause-read
statements-returns-then-not-is_block-clause-read t c =
    let r = next_statement c.args.depth c.loop-body.cursor c.statement.new.cursor c.in_ok-next.field-0 c.in-Some.next c.in_ok-next.ensures.read c.in-Some.is in
    let no_ = c.take.ensures.no c.if-take.false in
    reads_whole (λ stack. gathers_last (statement_of c.in-Some.next) (c.ends_with_block-is_block.ensures.no c.args.depth c.if-not-is_block.true) (gathers_more c.in-Some.next (c.loop-body.invariant stack) r.leaves c.in_ok-push.ensures.items) no_.0 no_.1)

pub statements-loop-body-smaller : goal.statements-loop-body-smaller
statements-loop-body-smaller t c =
    let r = next_statement c.args.depth c.loop-body.cursor c.statement.new.cursor c.in_ok-next.field-0 c.in-Some.next c.in_ok-next.ensures.read c.in-Some.is in
    let no_ = c.take.ensures.no c.if-take.false in
    falls_same c.loop-body.cursor r.shorter no_.1

pub statements-loop-body-preserved : goal.statements-loop-body-preserved
statements-loop-body-preserved t c =
    let r = next_statement c.args.depth c.loop-body.cursor c.statement.new.cursor c.in_ok-next.field-0 c.in-Some.next c.in_ok-next.ensures.read c.in-Some.is in
    let no_ = c.take.ensures.no c.if-take.false in
    λ stack. gathers_block (statement_of c.in-Some.next) (c.ends_with_block-is_block.ensures.yes c.args.depth c.if-not-is_block.false) (gathers_more c.in-Some.next (c.loop-body.invariant stack) r.leaves c.in_ok-push.ensures.items) no_.0 no_.1
