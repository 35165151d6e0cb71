use Rattle.std.proofs.Common.{drop}
use Rattle.dai_logic.specs.Protocols.{protocol_of}
use Rattle.dai_table.specs.Steps.{AreStatesSoFar, flags_in}
use Rattle.dai_table.proofs.table.states_of.Given as goal

-- those of the lists so far that meet the axioms
abbrev pub invariant-loop-flags : goal.invariant-loop-flags
invariant-loop-flags l = AreStatesSoFar (protocol_of l.protocol) (flags_in l.flags-items) (flags_in (drop l.flags-index l.flags-items)) (flags_in l.states.items)
