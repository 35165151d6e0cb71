use Rattle.std.specs.Prelude.{nat_le}
use Rattle.dai_logic.proofs.places.is_at_most.Goals as goal

pub returns : goal.returns
returns c = λ P. λ i. nat_le (c.element_of.ensures P i) (c.element_of-2.ensures P i)
