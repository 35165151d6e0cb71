use Rattle.std.proofs.Common.{◌≡◌, ◌<◌, ◌-◌, vec_len}
use Rattle.dai_sat.proofs.order.Order.sink.Given as goal

abbrev pub invariant-loop-child : goal.invariant-loop-child
invariant-loop-child l = record {
  entries : vec_len l.self.entries ≡ vec_len l.initial.self.entries;
  heap : vec_len l.self.heap ≡ vec_len l.initial.self.heap;
  within : l.place < vec_len l.self.heap;
}

abbrev pub decreases-loop-child : goal.decreases-loop-child
decreases-loop-child l = vec_len l.self.heap - l.place
