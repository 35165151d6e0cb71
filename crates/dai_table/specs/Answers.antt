-- What the table's answers rest on.
use Rattle.std.specs.Prelude.{◌≡◌, ◌↔◌, ℕ, ◌<◌, Bool, true, false, List, length, Option, Some, None, slice_index_or}
use Rattle.std.specs.List.{list_any, Contains}
use Rattle.dai_template.specs.declared.clause.Clause.{Clause}
use Rattle.dai_table.specs.declared.steps.Step.{Step}
use Rattle.dai_model.specs.Protocol.{Protocol, Block}
use Rattle.dai_model.specs.Clause as Model
use Rattle.dai_model.specs.Clause.{MeetsEach}
use Rattle.dai_logic.specs.declared.structure.BlockId.{BlockId}
use Rattle.dai_logic.specs.Protocols.{block_named}
use Rattle.dai_table.specs.declared.table.TruthTable.{TruthTable}
use Rattle.dai_table.specs.Steps.{IsTable, IsStepAt, state_at, flags_in, lists_in}
use Rattle.dai_table.specs.Flags.{holds_in, IsWithin}

-- each clause has a true literal
abbrev pub MeetEach : List Bool → List Clause → Type 0
MeetEach flags clauses = (c : Clause) → Contains clauses c → list_any (holds_in flags) c.lits.items ≡ true

-- the steps are from so many states, and the literals of the clause are of their flags
pub record AreFrom (steps : List Step) (n : ℕ) (c : Clause) : Type 0 where
  pub inside : (s : Step) → Contains steps s → s.from < n
  pub within : (s : Step) → Contains steps s → IsWithin (length s.after.items) c

-- no step from a state that is met breaks the clause
abbrev pub NoneBreaks : List Step → List Bool → Clause → Type 0
NoneBreaks steps met c = (s : Step) → Contains steps s → slice_index_or met s.from false ≡ true → list_any (holds_in s.after.items) c.lits.items ≡ true

-- a step from a state that is met breaks the clause
pub record Breaks (steps : List Step) (met : List Bool) (c : Clause) (place : ℕ) : Type 0 where
  pub step : Step
  pub inside : place < length steps
  pub is : slice_index_or steps place step ≡ step
  pub met_before : slice_index_or met step.from false ≡ true
  pub broken : list_any (holds_in step.after.items) c.lits.items ≡ false

abbrev pub IsFirstBroken : List Step → List Bool → Clause → Option ℕ → Type 0
IsFirstBroken steps met c None = NoneBreaks steps met c
IsFirstBroken steps met c (Some place) = Breaks steps met c place

-- the table is that of the protocol
abbrev pub IsTableFor : Protocol → TruthTable → Type 0
IsTableFor P table = IsTable P (flags_in table.states.items) table.init.items (lists_in table.actions.items)

-- which of the states meet the clauses of the model
pub record ArePreparedFor (P : Protocol) (states : List (List Bool)) (met : List Bool) (I : List Model.Clause) : Type 0 where
  pub long : length met ≡ length states
  pub exact : (k : ℕ) → k < length states → (slice_index_or met k false ≡ true) ↔ MeetsEach P (state_at P states k) I

-- a step by the block of this name from one of the states
pub record IsStepOf (P : Protocol) (block : BlockId) (states : List (List Bool)) (step : Step) : Type 0 where
  pub named : Block
  pub is : block_named P block ≡ Some named
  pub step_is : IsStepAt P named states (length states) step
