-- The table of a protocol of flags: its states, and the steps from them.
use Rattle.std.specs.Prelude.{◌≡◌, ◌⊎◌, ℕ, ◌<◌, Bool, List, [], ◌∷◌, ◌++◌, length, map, Some, None, Vec, slice_get, slice_index_or}
use Rattle.std.specs.declared.alloc.Global.{Global}
use Rattle.std.specs.List.{Contains}
use Rattle.dai_model.specs.Protocol.{Protocol, Block, Action}
use Rattle.dai_model.specs.Structure.{Structure}
use Rattle.dai_model.specs.Value.{SatisfiesAxioms}
use Rattle.dai_model.specs.WellSorted.{IsProtocol}
use Rattle.dai_model.specs.Execution.{executes}
use Rattle.dai_logic.specs.declared.structure.BlockId.{BlockId}
use Rattle.dai_logic.specs.Protocols.{block_named}
use Rattle.dai_table.specs.declared.steps.Step.{Step}
use Rattle.dai_table.specs.Flags.{IsTableOf, state}

abbrev pub flags_in : List (Vec Bool Global) → List (List Bool)
flags_in vs = map (λ (v : Vec Bool Global). v.items) vs

abbrev pub state_at : Protocol → List (List Bool) → ℕ → Structure
state_at P states k = state P (slice_index_or states k [])

-- each gives every flag a value
abbrev pub AreStates : Protocol → List (List Bool) → Type 0
AreStates P states = (k : ℕ) → k < length states → length (slice_index_or states k []) ≡ length P.relations

pub record IsBlockOf (P : Protocol) (block : BlockId) : Type 0 where
  pub named : Block
  pub is : block_named P block ≡ Some named

-- a step by the block from one of the first so many states
pub record IsStepAt (P : Protocol) (b : Block) (states : List (List Bool)) (n : ℕ) (step : Step) : Type 0 where
  pub inside : step.from < n
  pub long : length step.after.items ≡ length P.relations
  pub leaves : executes P b (state_at P states step.from) [] [] ≡ Some (state P step.after.items)

-- a listed step from a state to another one
pub record IsListed (P : Protocol) (steps : List Step) (from : ℕ) (t : Structure) : Type 0 where
  pub step : Step
  pub listed : Contains steps step
  pub from_it : step.from ≡ from
  pub to_it : state P step.after.items ≡ t

-- exactly the steps by the block from the first so many states
pub record AreSteps (P : Protocol) (b : Block) (states : List (List Bool)) (n : ℕ) (steps : List Step) : Type 0 where
  pub sound : (step : Step) → Contains steps step → IsStepAt P b states n step
  pub complete : (k : ℕ) → k < n → (t : Structure) → executes P b (state_at P states k) [] [] ≡ Some t → IsListed P steps k t

-- the step from one state, if there is one
pub data AddsStep (P : Protocol) (b : Block) (from : ℕ) (before : List Bool) (old new : List Step) : Type 0 where
  none_added : new ≡ old → executes P b (state P before) [] [] ≡ None → AddsStep P b from before old new
  one_added : (step : Step) → new ≡ old ++ step ∷ [] → step.from ≡ from → length step.after.items ≡ length P.relations → executes P b (state P before) [] [] ≡ Some (state P step.after.items) → AddsStep P b from before old new

abbrev pub lists_in : List (Vec Step Global) → List (List Step)
lists_in vs = map (λ (v : Vec Step Global). v.items) vs

-- exactly the states that meet the axioms
pub record AreStatesOf (P : Protocol) (states : List (List Bool)) : Type 0 where
  pub are_states : AreStates P states
  pub axioms : (k : ℕ) → k < length states → SatisfiesAxioms P (state_at P states k)
  pub all_states : (flags : List Bool) → length flags ≡ length P.relations → SatisfiesAxioms P (state P flags) → Contains states flags

-- the same of the lists but for the rest of them
pub record AreStatesSoFar (P : Protocol) (all rest states : List (List Bool)) : Type 0 where
  pub are_states : AreStates P states
  pub axioms : (k : ℕ) → k < length states → SatisfiesAxioms P (state_at P states k)
  pub complete : (flags : List Bool) → Contains all flags → SatisfiesAxioms P (state P flags) → Contains states flags ⊎ Contains rest flags

-- the state comes to the others where it meets the axioms
pub data AddsState (P : Protocol) (flags : List Bool) (old new : List (List Bool)) : Type 0 where
  left_out : new ≡ old → (SatisfiesAxioms P (state P flags) → ⊥) → AddsState P flags old new
  put_in : new ≡ old ++ flags ∷ [] → SatisfiesAxioms P (state P flags) → AddsState P flags old new

-- the steps by each of the first so many actions
pub record AreActionSteps (P : Protocol) (states : List (List Bool)) (n : ℕ) (actions : List (List Step)) : Type 0 where
  pub as_many : length actions ≡ n
  pub each : (k : ℕ) (a : Action) → k < n → slice_get P.actions k ≡ Some a → AreSteps P a.block states (length states) (slice_index_or actions k [])

-- The states that meet the axioms, and the steps by init and by each action from them.
pub record IsTable (P : Protocol) (states : List (List Bool)) (init : List Step) (actions : List (List Step)) : Type 0 where
  pub flags : IsTableOf P
  pub protocol : IsProtocol P
  pub states_of : AreStatesOf P states
  pub init_steps : AreSteps P P.init states (length states) init
  pub action_steps : AreActionSteps P states (length P.actions) actions
