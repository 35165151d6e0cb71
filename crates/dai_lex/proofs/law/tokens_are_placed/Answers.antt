use Rattle.dai_lex.proofs.Order.{placed}
use Rattle.dai_lex.proofs.law.tokens_are_placed.Goals as goal

pub returns : goal.returns
returns c = placed
