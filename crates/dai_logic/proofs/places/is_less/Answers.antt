use Rattle.std.specs.Prelude.{nat_lt}
use Rattle.dai_logic.proofs.places.is_less.Goals as goal

pub returns : goal.returns
returns c = λ P. λ i. nat_lt (c.element_of.ensures P i) (c.element_of-2.ensures P i)
