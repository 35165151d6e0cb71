use Rattle.std.proofs.Common.{◌≡◌, [], ◌∷◌, ◌++◌, sym, ◌∙◌, ap}
use Rattle.dai_lex.specs.declared.token.Kind.TheVariants as K
use Rattle.dai_syntax.specs.Symbols.{terms, v_terms, the_terms, part1, after1}
use Rattle.dai_syntax.specs.Grammar.{further_terms, the_terms_of, last_term}
use Rattle.dai_syntax.proofs.Stuck.{sees_none, sees_any}
use Rattle.dai_syntax.proofs.Paths.{begins, skips, reads, reads_whole, fails, spent_result, failed_result, with_effect, at_same, takes_kind, falls, grown, ended}
use Rattle.dai_syntax.proofs.terms.terms.Goals as goal

pub returns-in_err-list-clause-failed : goal.returns-in_err-list-clause-failed
returns-in_err-list-clause-failed c = spent_result terms c.args.cursor.now c.from_residual.result c.from_residual.ensures.1

pub returns-in_err-term-clause-failed : goal.returns-in_err-term-clause-failed
returns-in_err-term-clause-failed c = failed_result terms c.args.cursor.now c.from_residual-in_err-term.result c.in_err-term.field-0.0 c.from_residual-in_err-term.ensures.1 (λ stack. fails (skips (begins c.args.cursor.now) the_terms_of (sees_any c.args.cursor.now.rest.now)) c.in_err-term.ensures.failed)

pub returns-in_err-push-clause-failed : goal.returns-in_err-push-clause-failed
returns-in_err-push-clause-failed c = spent_result terms c.args.cursor.now c.from_residual-in_err-push.result c.from_residual-in_err-push.ensures.1

pub loop-list-init : goal.loop-list-init
loop-list-init c = λ stack.
    let e : c.push.new.self.items ≡ c.in_ok-term.field-0 ∷ [] = c.in_ok-push.ensures.items ∙ ap (λ xs. xs ++ c.in_ok-term.field-0 ∷ []) c.in_ok-list.ensures.items in
    with_effect (reads (skips (begins c.args.cursor.now) the_terms_of (sees_any c.args.cursor.now.rest.now)) c.in_ok-term.ensures.read) (λ vs. ap (λ xs. v_terms (xs ++ the_terms (part1 vs)) ∷ after1 vs) (sym e))

pub returns-in_err-term-2-clause-failed : goal.returns-in_err-term-2-clause-failed
returns-in_err-term-2-clause-failed c = failed_result terms c.args.cursor.now c.from_residual-in_err-term-2.result c.in_err-term-2.field-0.0 c.from_residual-in_err-term-2.ensures.1 (λ stack. fails (takes_kind (c.loop-list.invariant stack) (c.take.ensures.yes c.loop-list-test.true) (λ limit high. further_terms)) c.in_err-term-2.ensures.failed)

pub loop-list-smaller : goal.loop-list-smaller
loop-list-smaller c = falls (c.take.ensures.yes c.loop-list-test.true) c.in_ok-term-2.ensures.read

pub loop-list-preserved : goal.loop-list-preserved
loop-list-preserved c = λ stack.
    with_effect (reads (takes_kind (c.loop-list.invariant stack) (c.take.ensures.yes c.loop-list-test.true) (λ limit high. further_terms)) c.in_ok-term-2.ensures.read) (λ vs. ap (λ xs. v_terms xs ∷ after1 vs) (grown c.loop-list.list.items c.push-in-loop-list.new.self.items (the_terms (part1 vs)) c.in_ok-term-2.field-0 c.in_ok-push-2.ensures.items))

pub returns-in_err-push-2-clause-failed : goal.returns-in_err-push-2-clause-failed
returns-in_err-push-2-clause-failed c = spent_result terms c.args.cursor.now c.from_residual-in_err-push-2.result c.from_residual-in_err-push-2.ensures.1

pub returns-clause-read : goal.returns-clause-read
returns-clause-read c =
    let no = c.take.ensures.no c.loop-list-test.false in
    reads_whole (λ stack. at_same (with_effect (skips (c.loop-list.invariant stack) last_term (sees_none c.loop-list.cursor.rest.now (K.Comma ∷ []) (no.0, tt))) (λ vs. ap (λ xs. v_terms xs ∷ vs) (ended c.loop-list.list.items))) no.1)
