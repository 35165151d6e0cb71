use Rattle.std.proofs.Common.{[], ◌∷◌}
use Rattle.dai_lex.specs.declared.token.Kind.TheVariants as K
use Rattle.dai_syntax.specs.declared.error.SyntaxError.TheVariants.{LeftOut}
use Rattle.dai_syntax.specs.Symbols.{right_side}
use Rattle.dai_syntax.specs.Grammar.{a_right_side}
use Rattle.dai_syntax.proofs.Stuck.{sees_none}
use Rattle.dai_syntax.proofs.Paths.{begins, skips, reads, reads_whole, fails, is_stuck, failed_result}
use Rattle.dai_syntax.proofs.Blocks.{left_out_at_right_side}
use Rattle.dai_syntax.proofs.statements.right_side.Goals as goal

pub returns-then-is_at-clause-failed : goal.returns-then-is_at-clause-failed
returns-then-is_at-clause-failed c = λ stack. is_stuck c.left_out.result LeftOut (begins c.args.cursor.now) c.left_out.ensures (left_out_at_right_side c.args.cursor.now.bytes.now c.args.depth stack c.args.cursor.now.rest.now (c.is_at.ensures.yes c.if-is_at.true))

pub returns-in_err-formula-clause-failed : goal.returns-in_err-formula-clause-failed
returns-in_err-formula-clause-failed c = failed_result (right_side c.args.depth) c.args.cursor.now c.from_residual.result c.in_err-formula.field-0.0 c.from_residual.ensures.1 (λ stack. fails (skips (begins c.args.cursor.now) a_right_side (sees_none _ (K.Asterisk ∷ []) (c.is_at.ensures.no c.if-is_at.false, tt))) c.in_err-formula.ensures.failed)

pub returns-clause-read : goal.returns-clause-read
returns-clause-read c = reads_whole (λ stack. reads (skips (begins c.args.cursor.now) a_right_side (sees_none _ (K.Asterisk ∷ []) (c.is_at.ensures.no c.if-is_at.false, tt))) c.in_ok-formula.ensures.read)
