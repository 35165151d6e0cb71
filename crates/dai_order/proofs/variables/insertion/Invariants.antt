-- the numbers from the place on and below this one are one higher, and the others stay
use Rattle.std.proofs.Common.{◌≡◌, ◌<◌, ◌≤◌, ◌+◌, ◌*◌, ℕ, length, get_or}
use Rattle.dai_order.proofs.variables.insertion.Given as goal

abbrev pub invariant-loop-number : goal.invariant-loop-number
invariant-loop-number l = record {
  long : length l.to ≡ 32;
  from : l.place ≤ l.number;
  later : (i : ℕ) → l.place ≤ i → i < l.number → i < 4 → get_or l.to (4 * l.sort + i) 0 ≡ i + 1;
  others : (t i : ℕ) → t < 8 → i < 4 → (t ≡ l.sort → l.place ≤ i → l.number ≤ i) → get_or l.to (4 * t + i) 0 ≡ i;
}
