-- the structures so far fit
use Rattle.std.specs.List.{All}
use Rattle.dai_logic.specs.Protocols.{protocol_of}
use Rattle.dai_logic.specs.Tables.{Fits}
use Rattle.bench_space.proofs.states.random_states.Given as goal

abbrev pub invariant-loop : goal.invariant-loop
invariant-loop l = All (Fits (protocol_of l.protocol)) l.states.items
