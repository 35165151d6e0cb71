-- What statements leave in a picture. A picture with a bit shows an outcome: no structure where the bit is false, and
-- where it is true the structure that the picture shows.
use Rattle.std.specs.Prelude.{◌≡◌, ℕ, Bool, true, false, List, [], Option, None, Some, replicate}
use Rattle.std.specs.Option.{option_and_then}
use Rattle.dai_model.specs.Protocol.{Protocol}
use Rattle.dai_model.specs.Structure.{Structure}
use Rattle.dai_model.specs.Formula.{Term, variable, individual, parameter, choice, Statement, Statements}
use Rattle.dai_model.specs.Value.{Environment, environment_of}
use Rattle.dai_model.specs.Execution.{after_statement, after_statements}
use Rattle.dai_model.specs.WellSorted.{Scope, HasSort, IsWellSortedStatement, IsWellSortedCode}
use Rattle.dai_trail.specs.Formula.{Formula, AreMetBy}
use Rattle.dai_circuit.specs.declared.bit.Bit.{Bit}
use Rattle.dai_circuit.specs.Circuits.{bit_value, IsBitBelow}
use Rattle.dai_picture.specs.declared.picture.Frame.{Frame}
use Rattle.dai_picture.specs.declared.picture.Picture.{Picture}
use Rattle.dai_picture.specs.Pictures.{IsPicture, rows_of, row_at}
use Rattle.dai_ground.specs.Grounding.{IsPlaced, Sees}

-- every variable stands for the first slot
abbrev pub no_binding : List ℕ
no_binding = replicate 256 0

-- no variable is in scope
abbrev pub IsFree : Scope → Type 0
IsFree scope = (v : ℕ) → scope.variables v ≡ None

-- well-sorted code, or a statement, in which no variable of the block is bound
pub record IsCodeIn (P : Protocol) (frame : Frame) (picture : Picture) (count : ℕ) (cs : Statements) : Type 0 where
  pub scope : Scope
  pub free : IsFree scope
  pub placed : IsPlaced P frame picture count no_binding scope
  pub sorted : IsWellSortedCode P scope cs

pub record IsStatementIn (P : Protocol) (frame : Frame) (picture : Picture) (count : ℕ) (c : Statement) : Type 0 where
  pub scope : Scope
  pub free : IsFree scope
  pub placed : IsPlaced P frame picture count no_binding scope
  pub sorted : IsWellSortedStatement P scope c

-- in this assignment the picture with the bit shows the outcome, and the frame names these arguments and choices
abbrev pub SeesOutcome : Protocol → Frame → Picture → Bit → List Bool → Scope → List ℕ → List ℕ → Option Structure → Type 0
SeesOutcome P frame picture ok bits scope arguments choices None = bit_value bits ok ≡ false
SeesOutcome P frame picture ok bits scope arguments choices (Some s) = (bit_value bits ok ≡ true) × Sees P frame picture bits scope s (environment_of arguments choices)

-- in each assignment that meets the clauses, the new picture and bit show what execution leaves of each outcome that
-- the old ones show
pub record IsLeft (P : Protocol) (frame : Frame) (IsSorted : Scope → Type 0) (after : Environment → Structure → Option Structure) (old : Picture) (ok : Bit) (clauses : Formula) (new : Picture) (answer : Bit) : Type 0 where
  pub below : IsBitBelow clauses.vars answer
  pub pictured : IsPicture P frame.slots.items clauses.vars new
  pub shows : (bits : List Bool) (scope : Scope) (arguments choices : List ℕ) (outcome : Option Structure) → AreMetBy clauses bits → IsFree scope → IsSorted scope → SeesOutcome P frame old ok bits scope arguments choices outcome → SeesOutcome P frame new answer bits scope arguments choices (option_and_then (after (environment_of arguments choices)) outcome)

abbrev pub LeavesCode : Protocol → Frame → Statements → Picture → Bit → Formula → Picture → Bit → Type 0
LeavesCode P frame cs old ok clauses new answer = IsLeft P frame (λ scope. IsWellSortedCode P scope cs) (λ env s. after_statements P env cs s) old ok clauses new answer

abbrev pub LeavesStatement : Protocol → Frame → Statement → Picture → Bit → Formula → Picture → Bit → Type 0
LeavesStatement P frame c old ok clauses new answer = IsLeft P frame (λ scope. IsWellSortedStatement P scope c) (λ env s. after_statement P env c s) old ok clauses new answer

-- the row of what a term stands for that is no variable
abbrev pub standing : Frame → Picture → Term → List Bit
standing frame picture (variable v) = []
standing frame picture (individual i) = row_at (rows_of picture.values) i
standing frame picture (parameter p) = row_at (rows_of frame.arguments) p
standing frame picture (choice c) = row_at (rows_of frame.choices) c

-- a term that stands for one element whatever is bound
abbrev pub IsFixed : Term → Type 0
IsFixed t = (v : ℕ) → t ≡ variable v → ⊥

-- the term has a type over a scope of the frame and the picture, and is no variable
pub record IsFixedIn (P : Protocol) (frame : Frame) (picture : Picture) (count : ℕ) (t : Term) (sort : ℕ) : Type 0 where
  pub binding : List ℕ
  pub scope : Scope
  pub placed : IsPlaced P frame picture count binding scope
  pub sorted : HasSort P scope t sort
  pub fixed : IsFixed t
