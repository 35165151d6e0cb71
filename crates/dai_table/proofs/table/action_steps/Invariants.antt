use Rattle.dai_logic.specs.Protocols.{protocol_of}
use Rattle.dai_table.specs.Steps.{AreActionSteps, flags_in, lists_in}
use Rattle.dai_table.proofs.table.action_steps.Given as goal

-- the steps by the actions so far
abbrev pub invariant-loop-number : goal.invariant-loop-number
invariant-loop-number l = AreActionSteps (protocol_of l.protocol) (flags_in l.states) l.number (lists_in l.actions.items)
