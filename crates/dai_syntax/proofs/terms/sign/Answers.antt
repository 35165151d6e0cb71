use Rattle.std.proofs.Common.{◌∙◌}
use Rattle.dai_syntax.proofs.Paths.{begins, takes, reads_whole}
use Rattle.dai_syntax.proofs.Words.{by_sign}
use Rattle.dai_syntax.proofs.terms.sign.Goals as goal

pub returns : goal.returns
returns c = reads_whole (λ stack. takes (begins c.args.cursor.now) c.pass-token.ensures.steps (c.pass-token.ensures.kind ∙ c.requires.sign) (λ limit high. by_sign c.args.op))
