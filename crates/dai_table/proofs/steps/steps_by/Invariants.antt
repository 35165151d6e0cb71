use Rattle.std.proofs.Common.{◌≡◌, Some}
use Rattle.dai_model.specs.Protocol.{Block}
use Rattle.dai_logic.specs.Protocols.{protocol_of, block_named}
use Rattle.dai_table.specs.Steps.{AreSteps, flags_in}
use Rattle.dai_table.proofs.steps.steps_by.Given as goal

-- the steps from the states so far
abbrev pub invariant-loop-from : goal.invariant-loop-from
invariant-loop-from l = (b : Block) → block_named (protocol_of l.protocol) l.block ≡ Some b → AreSteps (protocol_of l.protocol) b (flags_in l.states) l.from l.steps.items
