-- the moves so far with those of the rest are all, at most 2^96 for each action
use Rattle.std.proofs.Common.{◌≡◌, ◌≤◌, ◌+◌, ◌*◌, ◌^◌, drop}
use Rattle.std.specs.Prelude.{sum_by}
use Rattle.dai_model.specs.Limits.{moves_of, move_count}
use Rattle.dai_logic.specs.declared.protocol.Action.{Action}
use Rattle.dai_logic.specs.Parts.{action_of}
use Rattle.dai_logic.specs.Protocols.{protocol_of}
use Rattle.dai_query.proofs.limits.moves.Given as goal

abbrev pub invariant-loop-action : goal.invariant-loop-action
invariant-loop-action l = record {
  whole : l.total + sum_by (λ (a : Action). moves_of l.size (action_of a)) (drop l.action-index l.action-items) ≡ move_count (protocol_of l.protocol) l.size;
  fits : l.total ≤ l.action-index * 2 ^ 96;
}
