use Rattle.std.specs.Prelude.{nat_eq}
use Rattle.dai_logic.proofs.places.is_same.Goals as goal

pub returns : goal.returns
returns c = λ P. λ i. nat_eq (c.element_of.ensures P i) (c.element_of-2.ensures P i)
