use Rattle.std.proofs.Common.{◌≡◌, [], ◌∷◌, ◌++◌, sym, ◌∙◌, ap}
use Rattle.dai_lex.specs.declared.token.Kind.TheVariants as K
use Rattle.dai_syntax.specs.Symbols.{binders, v_binders, the_binders, part1, after1}
use Rattle.dai_syntax.specs.Grammar.{further_binders, some_of_class, last_binder}
use Rattle.dai_syntax.proofs.Stuck.{sees_none, sees_any}
use Rattle.dai_syntax.proofs.Paths.{begins, skips, reads, reads_whole, fails, spent_result, failed_result, with_effect, at_same, takes_kind, falls, grown, ended}
use Rattle.dai_syntax.proofs.binders.binders.Goals as goal

pub returns-in_err-binder-clause-failed : goal.returns-in_err-binder-clause-failed
returns-in_err-binder-clause-failed c = failed_result (binders c.args.class) c.args.cursor.now c.from_residual.result c.in_err-binder.field-0.0 c.from_residual.ensures.1 (λ stack. fails (skips (begins c.args.cursor.now) some_of_class (sees_any c.args.cursor.now.rest.now)) c.in_err-binder.ensures.failed)

pub returns-in_err-push-clause-failed : goal.returns-in_err-push-clause-failed
returns-in_err-push-clause-failed c = spent_result (binders c.args.class) c.args.cursor.now c.from_residual-in_err-push.result c.from_residual-in_err-push.ensures.1

pub loop-class-init : goal.loop-class-init
loop-class-init c = λ stack.
    let e : c.push.new.self.items ≡ c.in_ok-binder.field-0 ∷ [] = c.in_ok-push.ensures.items ∙ ap (λ xs. xs ++ c.in_ok-binder.field-0 ∷ []) c.new-list.ensures.items in
    with_effect (reads (skips (begins c.args.cursor.now) some_of_class (sees_any c.args.cursor.now.rest.now)) c.in_ok-binder.ensures.read) (λ vs. ap (λ xs. v_binders (xs ++ the_binders (part1 vs)) ∷ after1 vs) (sym e))

pub returns-in_err-binder-2-clause-failed : goal.returns-in_err-binder-2-clause-failed
returns-in_err-binder-2-clause-failed c = failed_result (binders c.args.class) c.args.cursor.now c.from_residual-in_err-binder-2.result c.in_err-binder-2.field-0.0 c.from_residual-in_err-binder-2.ensures.1 (λ stack. fails (takes_kind (c.loop-class.invariant stack) (c.take.ensures.yes c.loop-class-test.true) (λ limit high. further_binders)) c.in_err-binder-2.ensures.failed)

pub loop-class-smaller : goal.loop-class-smaller
loop-class-smaller c = falls (c.take.ensures.yes c.loop-class-test.true) c.in_ok-binder-2.ensures.read

pub loop-class-preserved : goal.loop-class-preserved
loop-class-preserved c = λ stack.
    with_effect (reads (takes_kind (c.loop-class.invariant stack) (c.take.ensures.yes c.loop-class-test.true) (λ limit high. further_binders)) c.in_ok-binder-2.ensures.read) (λ vs. ap (λ xs. v_binders xs ∷ after1 vs) (grown c.loop-class.list.items c.push-in-loop-class.new.self.items (the_binders (part1 vs)) c.in_ok-binder-2.field-0 c.in_ok-push-2.ensures.items))

pub returns-in_err-push-2-clause-failed : goal.returns-in_err-push-2-clause-failed
returns-in_err-push-2-clause-failed c = spent_result (binders c.args.class) c.args.cursor.now c.from_residual-in_err-push-2.result c.from_residual-in_err-push-2.ensures.1

pub returns-clause-read : goal.returns-clause-read
returns-clause-read c =
    let no = c.take.ensures.no c.loop-class-test.false in
    reads_whole (λ stack. at_same (with_effect (skips (c.loop-class.invariant stack) last_binder (sees_none c.loop-class.cursor.rest.now (K.Comma ∷ []) (no.0, tt))) (λ vs. ap (λ xs. v_binders xs ∷ vs) (ended c.loop-class.list.items))) no.1)
