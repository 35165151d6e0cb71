-- What execution asks of its caller and answers.
use Rattle.std.specs.Prelude.{◌≡◌, ℕ, ◌≤◌, Bool, true, List, length, drop, Option, Some, None, IfSome, IsTrue, if◌then◌else◌}
use Rattle.std.specs.Option.{option_map}
use Rattle.dai_model.specs.Protocol.{Protocol, Block}
use Rattle.dai_model.specs.Structure.{is_tuple}
use Rattle.dai_model.specs.Value.{environment_of as block_environment}
use Rattle.dai_model.specs.Execution.{after_statements, executes}
use Rattle.dai_logic.specs.declared.protocol.Step.{Step}
use Rattle.dai_logic.specs.declared.structure.BlockId.{BlockId}
use Rattle.dai_logic.specs.declared.structure.Structure.{Structure}
use Rattle.dai_logic.specs.declared.workspace.Workspace.{Workspace}
use Rattle.dai_logic.specs.Protocols.{block_named}
use Rattle.dai_logic.specs.Trees.{statements_of}
use Rattle.dai_logic.specs.Tables.{structure_of, tables_of, bits_of, Fits, IsRunnable, IsAlike, AreAsLong}
use Rattle.dai_logic.specs.Environments.{EnvironmentTables, environment_of}

-- the block is one of the protocol, and each argument and choice is an element of its type
pub record IsCall (P : Protocol) (block : BlockId) (s : Structure) (arguments choices : List ℕ) : Type 0 where
  pub called : Block
  pub named : block_named P block ≡ Some called
  pub given : IsTrue (is_tuple s.sizes.items called.parameters arguments)
  pub chosen : IsTrue (is_tuple s.sizes.items called.choices choices)

-- the same of an environment in which no variable is bound
pub record IsEntered (P : Protocol) (block : BlockId) (s : Structure) (env : EnvironmentTables) : Type 0 where
  pub call : IsCall P block s env.arguments env.choices
  pub blank : environment_of env ≡ block_environment env.arguments env.choices

-- the answer is the structure that the block leaves, or none where a requirement that is executed is false
pub record IsLeft (P : Protocol) (block : BlockId) (s : Structure) (arguments choices : List ℕ) (answer : Option Structure) : Type 0 where
  pub left : (called : Block) → block_named P block ≡ Some called → option_map (structure_of P) answer ≡ executes P called (structure_of P s) arguments choices
  pub fits : IfSome answer (Fits P)

-- a structure and spare tables in which blocks can be executed from this structure
pub record IsRoom (s : Structure) (work : Workspace) : Type 0 where
  pub after : IsAlike s work.after
  pub spare : AreAsLong (bits_of work.spare) (tables_of s)

-- whether there is a structure after, and that this is the one
pub record IsStepped (P : Protocol) (block : BlockId) (s : Structure) (env : EnvironmentTables) (after : Structure) (answer : Bool) : Type 0 where
  pub left : (called : Block) → block_named P block ≡ Some called → executes P called (structure_of P s) env.arguments env.choices ≡ (if answer then Some (structure_of P after) else None)
  pub fits : answer ≡ true → Fits P after

-- what so many requirements at the front leave, all of which are true
pub record IsPassed (P : Protocol) (s : Structure) (env : EnvironmentTables) (code : List Step) (front : ℕ) : Type 0 where
  pub within : front ≤ length code
  pub runnable : IsRunnable P s.sizes.items (environment_of env) (statements_of (drop front code))
  pub same : after_statements P (environment_of env) (statements_of code) (structure_of P s) ≡ after_statements P (environment_of env) (statements_of (drop front code)) (structure_of P s)
