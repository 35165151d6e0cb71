use Rattle.dai_syntax.specs.Symbols.{atom_rest}
use Rattle.dai_syntax.specs.Grammar.{some_terms}
use Rattle.dai_syntax.proofs.Paths.{begins, takes, reads, passes, reads_whole, fails, failed_result}
use Rattle.dai_syntax.proofs.terms.applied.Goals as goal

pub returns-in_err-list-clause-failed : goal.returns-in_err-list-clause-failed
returns-in_err-list-clause-failed c = failed_result atom_rest c.args.cursor.now c.from_residual.result c.in_err-list.field-0.0 c.from_residual.ensures.1 (λ stack. fails (takes (begins c.args.cursor.now) c.pass-sign.ensures.steps c.pass-sign.ensures.kind (λ limit high. some_terms)) c.in_err-list.ensures.failed)

pub returns-in_err-expect-clause-failed : goal.returns-in_err-expect-clause-failed
returns-in_err-expect-clause-failed c = failed_result atom_rest c.args.cursor.now c.from_residual-in_err-expect.result c.in_err-expect.field-0.0 c.from_residual-in_err-expect.ensures.1 (λ stack. fails (reads (takes (begins c.args.cursor.now) c.pass-sign.ensures.steps c.pass-sign.ensures.kind (λ limit high. some_terms)) c.in_ok-list.ensures.read) c.in_err-expect.ensures.failed)

pub returns-clause-read : goal.returns-clause-read
returns-clause-read c = reads_whole (λ stack. passes (reads (takes (begins c.args.cursor.now) c.pass-sign.ensures.steps c.pass-sign.ensures.kind (λ limit high. some_terms)) c.in_ok-list.ensures.read) c.in_ok-expect.ensures.passed)
