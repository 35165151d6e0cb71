-- Initial states, steps and reachable states.
use Rattle.std.specs.Prelude.{◌≡◌, ℕ, List, [], Some, IsTrue}
use Rattle.std.specs.List.{Contains}
use Rattle.dai_model.specs.Protocol.{Protocol, Block, Action}
use Rattle.dai_model.specs.Structure.{Structure, IsStructure, is_tuple}
use Rattle.dai_model.specs.Value.{SatisfiesAxioms}
use Rattle.dai_model.specs.Execution.{executes}

-- one element of each of these types of the structure, in order
abbrev pub AreElements : Structure → List ℕ → List ℕ → Type 0
AreElements s sorts es = IsTrue (is_tuple s.sizes sorts es)

-- what init leaves, from any structure that meets the axioms and with any choices
pub record IsInitial (P : Protocol) (after : Structure) : Type 0 where
  pub before : Structure
  pub choices : List ℕ
  pub structure : IsStructure P before
  pub axioms : SatisfiesAxioms P before
  pub chosen : AreElements before P.init.choices choices
  pub leaves : executes P P.init before [] choices ≡ Some after

-- what the block leaves, with some arguments and choices
pub record IsStepOf (P : Protocol) (block : Block) (before after : Structure) : Type 0 where
  pub arguments : List ℕ
  pub choices : List ℕ
  pub given : AreElements before block.parameters arguments
  pub chosen : AreElements before block.choices choices
  pub leaves : executes P block before arguments choices ≡ Some after

-- what some exported action leaves
pub record IsStep (P : Protocol) (before after : Structure) : Type 0 where
  pub action : Action
  pub exported : Contains P.actions action
  pub step : IsStepOf P action.block before after

-- the least set with every initial state and every state that a step leads to from a state of the set
pub data IsReachable (P : Protocol) : Structure → Type 0 where
  initially : {s : Structure} → IsInitial P s → IsReachable P s
  by_step : {s t : Structure} → IsReachable P s → IsStep P s t → IsReachable P t
