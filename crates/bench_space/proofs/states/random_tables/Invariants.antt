-- the tables of the relations so far
use Rattle.std.proofs.Common.{◌≡◌, map, take}
use Rattle.dai_logic.specs.Counts.{tuple_count}
use Rattle.dai_logic.specs.Strides.{rows_of}
use Rattle.bench_space.specs.Trials.{table_lengths}
use Rattle.bench_space.proofs.states.random_tables.Given as goal

abbrev pub invariant-loop-relation : goal.invariant-loop-relation
invariant-loop-relation l = table_lengths l.tables ≡ map (tuple_count l.layout.sizes.items) (take l.relation (rows_of l.layout.sorts))
