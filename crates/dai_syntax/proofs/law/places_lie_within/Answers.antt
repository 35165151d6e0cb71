use Rattle.dai_syntax.proofs.Within.{declared_within}
use Rattle.dai_syntax.proofs.law.places_lie_within.Goals as goal

pub returns : goal.returns
returns c = λ bytes tokens ds lexed file. declared_within bytes 200 ds (c.tokens_are_placed.ensures bytes tokens lexed).each file
