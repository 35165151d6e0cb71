use Rattle.dai_syntax.specs.Symbols.{declaration}
use Rattle.dai_syntax.specs.Grammar.{an_ordered_type}
use Rattle.dai_syntax.proofs.Paths.{begins, takes, reads, passes, reads_whole, fails, failed_result}
use Rattle.dai_syntax.proofs.declarations.ordered_sort.Goals as goal

pub returns-in_err-expect-clause-failed : goal.returns-in_err-expect-clause-failed
returns-in_err-expect-clause-failed c = failed_result declaration c.args.cursor.now c.from_residual.result c.in_err-expect.field-0.0 c.from_residual.ensures.1 (λ stack. fails (takes (begins c.args.cursor.now) c.pass-word.ensures.steps c.pass-word.ensures.kind (λ limit high. an_ordered_type)) c.in_err-expect.ensures.failed)

pub returns-in_err-name-clause-failed : goal.returns-in_err-name-clause-failed
returns-in_err-name-clause-failed c = failed_result declaration c.args.cursor.now c.from_residual-in_err-name.result c.in_err-name.field-0.0 c.from_residual-in_err-name.ensures.1 (λ stack. fails (passes (takes (begins c.args.cursor.now) c.pass-word.ensures.steps c.pass-word.ensures.kind (λ limit high. an_ordered_type)) c.in_ok-expect.ensures.passed) c.in_err-name.ensures.failed)

pub returns-clause-read : goal.returns-clause-read
returns-clause-read c = reads_whole (λ stack. (reads (passes (takes (begins c.args.cursor.now) c.pass-word.ensures.steps c.pass-word.ensures.kind (λ limit high. an_ordered_type)) c.in_ok-expect.ensures.passed) c.in_ok-name.ensures.read))
