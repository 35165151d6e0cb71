-- the greatest so far with the rest is the greatest of all
use Rattle.std.proofs.Common.{◌≡◌, ◌≤◌, drop, map}
use Rattle.std.specs.Prelude.{max}
use Rattle.dai_model.specs.Sizes.{greatest, block_count, most_in_a_block}
use Rattle.dai_logic.specs.declared.protocol.Action.{Action}
use Rattle.dai_logic.specs.Parts.{block_of}
use Rattle.dai_logic.specs.Protocols.{protocol_of}
use Rattle.dai_query.proofs.sizes.in_a_block.Given as goal

abbrev pub invariant-loop-action : goal.invariant-loop-action
invariant-loop-action l = record {
  whole : max l.most (greatest (map (λ (a : Action). block_count l.sort (block_of a.block)) (drop l.action-index l.action-items))) ≡ most_in_a_block (protocol_of l.protocol) l.sort;
  few : l.most ≤ 28;
}
