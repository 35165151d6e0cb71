use Rattle.std.proofs.Common.{refl, arith}
use Rattle.dai_order.proofs.Larger.{fours_at}
use Rattle.dai_order.proofs.variables.insertion.Goals as goal

pub loop-number-init : goal.loop-number-init
loop-number-init c = record {
  long = refl;
  from = omega arith;
  later = λ i a b small. absurd (omega (arith, a, b));
  others = λ t i known small _. fours_at 8 t i known small;
}
