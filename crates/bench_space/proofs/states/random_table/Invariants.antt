-- as many values as were made
use Rattle.std.proofs.Common.{◌≡◌, length}
use Rattle.bench_space.proofs.states.random_table.Given as goal

abbrev pub invariant-loop : goal.invariant-loop
invariant-loop l = length l.table.items ≡ l.counter
