use Rattle.std.proofs.Common.{[], ◌∷◌, ◌++◌, refl, inr}
use Rattle.dai_dimacs.proofs.read.ending.Goals as goal

pub returns-in-None : goal.returns-in-None
returns-in-None c = λ front line counted begins h. record {
  front = front;
  line = line;
  rest = [];
  splits = refl;
  counted = counted;
  begins = begins;
  wrong = inr (refl, c.in-None.ensures (front ++ line ∷ []) h);
}
