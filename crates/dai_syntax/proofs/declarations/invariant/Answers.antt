use Rattle.dai_syntax.specs.Symbols.{declaration}
use Rattle.dai_syntax.proofs.Paths.{begins, takes, reads, reads_whole, fails, failed_result}
use Rattle.dai_syntax.proofs.Words.{by_invariant}
use Rattle.dai_syntax.proofs.declarations.invariant.Goals as goal

pub returns-in_err-label-clause-failed : goal.returns-in_err-label-clause-failed
returns-in_err-label-clause-failed c = failed_result declaration c.args.cursor.now c.from_residual.result c.in_err-label.field-0.0 c.from_residual.ensures.1 (λ stack. fails (takes (begins c.args.cursor.now) c.pass-token.ensures.steps c.pass-token.ensures.kind (λ limit high. by_invariant c.args.word c.requires.word)) c.in_err-label.ensures.failed)

pub returns-in_err-formula-clause-failed : goal.returns-in_err-formula-clause-failed
returns-in_err-formula-clause-failed c = failed_result declaration c.args.cursor.now c.from_residual-in_err-formula.result c.in_err-formula.field-0.0 c.from_residual-in_err-formula.ensures.1 (λ stack. fails (reads (takes (begins c.args.cursor.now) c.pass-token.ensures.steps c.pass-token.ensures.kind (λ limit high. by_invariant c.args.word c.requires.word)) c.in_ok-label.ensures.read) c.in_err-formula.ensures.failed)

pub returns-clause-read : goal.returns-clause-read
returns-clause-read c = reads_whole (λ stack. (reads (reads (takes (begins c.args.cursor.now) c.pass-token.ensures.steps c.pass-token.ensures.kind (λ limit high. by_invariant c.args.word c.requires.word)) c.in_ok-label.ensures.read) c.in_ok-formula.ensures.read))
