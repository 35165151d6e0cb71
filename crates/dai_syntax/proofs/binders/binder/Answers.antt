use Rattle.dai_syntax.specs.Symbols.{binder}
use Rattle.dai_syntax.proofs.Paths.{begins, reads, reads_whole, fails, failed_result, leaves}
use Rattle.dai_syntax.proofs.binders.binder.Goals as goal

pub returns-in_err-name-clause-failed : goal.returns-in_err-name-clause-failed
returns-in_err-name-clause-failed c = failed_result (binder c.args.class) c.args.cursor.now c.from_residual.result c.in_err-name.field-0.0 c.from_residual.ensures.1 c.in_err-name.ensures.failed

pub returns-in_err-sort-clause-failed : goal.returns-in_err-sort-clause-failed
returns-in_err-sort-clause-failed c = failed_result (binder c.args.class) c.args.cursor.now c.from_residual-in_err-sort.result c.in_err-sort.field-0.0 c.from_residual-in_err-sort.ensures.1 (λ stack. fails (leaves (begins c.args.cursor.now) c.in_ok-name.ensures.read) c.in_err-sort.ensures.failed)

pub returns-clause-read : goal.returns-clause-read
returns-clause-read c = reads_whole (λ stack. reads (leaves (begins c.args.cursor.now) c.in_ok-name.ensures.read) c.in_ok-sort.ensures.read)
