use Rattle.std.proofs.Common.{◌≡◌, ◌<◌, vec_len}
use Rattle.dai_sat.proofs.order.Order.lift.Given as goal

abbrev pub invariant-loop-place : goal.invariant-loop-place
invariant-loop-place l = record {
  entries : vec_len l.self.entries ≡ vec_len l.initial.self.entries;
  heap : vec_len l.self.heap ≡ vec_len l.initial.self.heap;
  within : l.place < vec_len l.self.heap;
}

abbrev pub decreases-loop-place : goal.decreases-loop-place
decreases-loop-place l = l.place
