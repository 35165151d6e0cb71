use Rattle.std.proofs.Common.{[], ◌∷◌}
use Rattle.dai_syntax.specs.Symbols.{statements, formula}
use Rattle.dai_syntax.proofs.Paths.{begins, takes, reads, fails, failed_result, leaves_whole}
use Rattle.dai_syntax.proofs.Blocks.{by_requirement, strict}
use Rattle.dai_syntax.proofs.statements.requirement.Goals as goal

pub returns-in_err-formula-clause-failed : goal.returns-in_err-formula-clause-failed
returns-in_err-formula-clause-failed c = failed_result (statements c.args.depth) c.args.cursor.now c.from_residual.result c.in_err-formula.field-0.0 c.from_residual.ensures.1 (λ stack. fails (takes (begins c.args.cursor.now) c.pass-word.ensures.steps c.pass-word.ensures.kind (λ limit high. by_requirement c.args.word c.requires.word)) c.in_err-formula.ensures.failed)

pub returns-clause-read : goal.returns-clause-read
returns-clause-read c = record { leaves = leaves_whole (λ stack. reads (takes (begins c.args.cursor.now) c.pass-word.ensures.steps c.pass-word.ensures.kind (λ limit high. by_requirement c.args.word c.requires.word)) c.in_ok-formula.ensures.read); shorter = strict c.pass-word.ensures.steps (reads (begins c.pass-word.new.self {stack = formula c.args.depth ∷ []}) c.in_ok-formula.ensures.read) }
