use Rattle.std.proofs.Common.{◌∙◌}
use Rattle.dai_syntax.specs.Symbols.{atom_rest}
use Rattle.dai_syntax.proofs.Paths.{begins, takes, reads, reads_whole, fails, failed_result}
use Rattle.dai_syntax.proofs.Words.{compares}
use Rattle.dai_syntax.proofs.terms.compared.Goals as goal

pub returns-in_err-term-clause-failed : goal.returns-in_err-term-clause-failed
returns-in_err-term-clause-failed c = failed_result atom_rest c.args.cursor.now c.from_residual.result c.in_err-term.field-0.0 c.from_residual.ensures.1 (λ stack. fails (takes (begins c.args.cursor.now) c.pass-token.ensures.steps (c.pass-token.ensures.kind ∙ c.requires.sign) (λ limit high. compares c.args.op)) c.in_err-term.ensures.failed)

pub returns-clause-read : goal.returns-clause-read
returns-clause-read c = reads_whole (λ stack. reads (takes (begins c.args.cursor.now) c.pass-token.ensures.steps (c.pass-token.ensures.kind ∙ c.requires.sign) (λ limit high. compares c.args.op)) c.in_ok-term.ensures.read)
