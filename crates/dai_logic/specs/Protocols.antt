-- The protocol of the model that the program's one stands for.
use Rattle.std.specs.Prelude.{ℕ, List, map, Option, Some, slice_get}
use Rattle.std.specs.Option.{option_map}
use Rattle.dai_model.specs.Protocol as Model
use Rattle.dai_logic.specs.declared.protocol.Protocol.{Protocol}
use Rattle.dai_logic.specs.declared.structure.BlockId.{BlockId}
use Rattle.dai_logic.specs.declared.structure.BlockId.TheVariants.{Init, Act}
pub use Rattle.dai_logic.specs.Parts.{block_of, sort_of, relation_of, individual_of, action_of, invariant_of, protocol_of_parts, AreAccepted}

abbrev pub protocol_of : Protocol → Model.Protocol
protocol_of p = protocol_of_parts p.sorts.items p.relations.items p.individuals.items p.axioms.items p.init p.actions.items p.invariants.items

-- the block of this name, if the protocol has it
abbrev pub block_named : Model.Protocol → BlockId → Option Model.Block
block_named P Init = Some P.init
block_named P (Act a) = option_map (λ (b : Model.Action). b.block) (slice_get P.actions a)

-- the types of each relation's arguments
abbrev pub arguments_in : Model.Protocol → List (List ℕ)
arguments_in P = map (λ (R : Model.Relation). R.arguments) P.relations
