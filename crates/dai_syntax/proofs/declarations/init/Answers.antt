use Rattle.dai_syntax.specs.Symbols.{declaration}
use Rattle.dai_syntax.specs.Grammar.{an_init}
use Rattle.dai_syntax.proofs.Paths.{begins, takes, reads, passes, reads_whole, fails, failed_result}
use Rattle.dai_syntax.proofs.declarations.init.Goals as goal

pub returns-in_err-expect-clause-failed : goal.returns-in_err-expect-clause-failed
returns-in_err-expect-clause-failed c = failed_result declaration c.args.cursor.now c.from_residual.result c.in_err-expect.field-0.0 c.from_residual.ensures.1 (λ stack. fails (takes (begins c.args.cursor.now) c.pass-word.ensures.steps c.pass-word.ensures.kind (λ limit high. an_init)) c.in_err-expect.ensures.failed)

pub returns-in_err-block-clause-failed : goal.returns-in_err-block-clause-failed
returns-in_err-block-clause-failed c = failed_result declaration c.args.cursor.now c.from_residual-in_err-block.result c.in_err-block.field-0.0 c.from_residual-in_err-block.ensures.1 (λ stack. fails (passes (takes (begins c.args.cursor.now) c.pass-word.ensures.steps c.pass-word.ensures.kind (λ limit high. an_init)) c.in_ok-expect.ensures.passed) c.in_err-block.ensures.failed)

pub returns-clause-read : goal.returns-clause-read
returns-clause-read c = reads_whole (λ stack. (reads (passes (takes (begins c.args.cursor.now) c.pass-word.ensures.steps c.pass-word.ensures.kind (λ limit high. an_init)) c.in_ok-expect.ensures.passed) c.in_ok-block.ensures.read))
