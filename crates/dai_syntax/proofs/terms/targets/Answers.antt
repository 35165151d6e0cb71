use Rattle.std.proofs.Common.{List, [], ◌∷◌, sym, subst}
use Rattle.dai_lex.specs.declared.token.Kind.TheVariants as K
use Rattle.dai_syntax.specs.Symbols.{targets, v_terms}
use Rattle.dai_syntax.specs.Grammar.{some_targets, no_targets}
use Rattle.dai_syntax.specs.Reading.{Reads}
use Rattle.dai_syntax.proofs.Stuck.{sees_none}
use Rattle.dai_syntax.proofs.Paths.{begins, skips, reads, passes, reads_whole, fails, failed_result, at_same, takes_kind}
use Rattle.dai_syntax.proofs.terms.targets.Goals as goal

pub returns-then-not-take-clause-read : goal.returns-then-not-take-clause-read
returns-then-not-take-clause-read c =
    let no = c.take.ensures.no c.if-not-take.true in
    let P : List _ → Type 0 = λ xs. Reads targets c.args.cursor.now (v_terms xs) c.take.new.self in
    subst P (sym c.new.ensures.items) (reads_whole (λ stack. at_same (skips (begins c.args.cursor.now) no_targets (sees_none c.args.cursor.now.rest.now (K.OpenRound ∷ []) (no.0, tt))) no.1))

pub returns-in_err-list-clause-failed : goal.returns-in_err-list-clause-failed
returns-in_err-list-clause-failed c = failed_result targets c.args.cursor.now c.from_residual.result c.in_err-list.field-0.0 c.from_residual.ensures.1 (λ stack. fails (takes_kind (begins c.args.cursor.now) (c.take.ensures.yes c.if-not-take.false) (λ limit high. some_targets)) c.in_err-list.ensures.failed)

pub returns-in_err-expect-clause-failed : goal.returns-in_err-expect-clause-failed
returns-in_err-expect-clause-failed c = failed_result targets c.args.cursor.now c.from_residual-in_err-expect.result c.in_err-expect.field-0.0 c.from_residual-in_err-expect.ensures.1 (λ stack. fails (reads (takes_kind (begins c.args.cursor.now) (c.take.ensures.yes c.if-not-take.false) (λ limit high. some_targets)) c.in_ok-list.ensures.read) c.in_err-expect.ensures.failed)

pub returns-clause-read : goal.returns-clause-read
returns-clause-read c = reads_whole (λ stack. passes (reads (takes_kind (begins c.args.cursor.now) (c.take.ensures.yes c.if-not-take.false) (λ limit high. some_targets)) c.in_ok-list.ensures.read) c.in_ok-expect.ensures.passed)
