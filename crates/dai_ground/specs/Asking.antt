-- Questions: what is asked of a structure with arguments and choices, and clauses that ask it.
use Rattle.std.specs.Prelude.{◌≡◌, ℕ, ◌<◌, ◌≤◌, Bool, false, List, [], Option, None, Some, IsSome}
use Rattle.std.specs.Option.{option_map}
use Rattle.std.specs.List.{All}
use Rattle.dai_model.specs.Formula.{Formula}
use Rattle.dai_model.specs.Protocol.{Protocol, Block}
use Rattle.dai_model.specs.Structure.{Structure}
use Rattle.dai_model.specs.Value.{value_of, empty_environment, Satisfies, SatisfiesAxioms}
use Rattle.dai_model.specs.Execution.{executes}
use Rattle.dai_model.specs.WellSorted.{IsWellSorted, closed_scope}
use Rattle.dai_logic.specs.declared.structure.BlockId.{BlockId}
use Rattle.dai_logic.specs.declared.protocol.Formula as Source
use Rattle.dai_logic.specs.Protocols.{block_named}
use Rattle.dai_logic.specs.Trees.{formula_of}
use Rattle.dai_trail.specs.Formula as Clauses
use Rattle.dai_trail.specs.Formula.{AreMetBy, value_at}
use Rattle.dai_picture.specs.declared.picture.Frame.{Frame}
use Rattle.dai_picture.specs.declared.picture.Picture.{Picture}
use Rattle.dai_picture.specs.Pictures.{Shows, IsFrame, IsPicture}
use Rattle.dai_picture.specs.Worlds.{World, IsWorld, ShowsWorld}

-- what the block leaves; without a block, the structure itself
abbrev pub outcome_of : Protocol → Option Block → World → Option Structure
outcome_of P None w = Some w.structure
outcome_of P (Some block) w = executes P block w.structure w.arguments w.choices

-- the formula, if there is one, is false in the structure
abbrev pub IsBroken : Option Formula → Structure → Type 0
IsBroken None s = Unit {0}
IsBroken (Some f) s = value_of s empty_environment f ≡ false

-- the world's structure meets the axioms, and the block leads from it to a structure in which the formula is false
pub record Refutes (P : Protocol) (block : Option Block) (broken : Option Formula) (w : World) : Type 0 where
  pub axioms : SatisfiesAxioms P w.structure
  pub after : Structure
  pub leaves : outcome_of P block w ≡ Some after
  pub is_broken : IsBroken broken after

-- and its structure meets these formulas
abbrev pub RefutesFrom : Protocol → Option Block → List Formula → Option Formula → World → Type 0
RefutesFrom P block before broken w = Refutes P block broken w × All (Satisfies w.structure) before

-- the formula, if there is one, is well-sorted and closed
abbrev pub IsClosed : Protocol → Option Formula → Type 0
IsClosed P None = Unit {0}
IsClosed P (Some f) = IsWellSorted P closed_scope f

-- each assignment that meets the clauses shows a world of the one kind, and each world of the other kind is shown
pub record Asks (P : Protocol) (parameters choices : List ℕ) (exact : Bool) (Shown Each : World → Type 0) (clauses : Clauses.Formula) (frame : Frame) (picture : Picture) : Type 0 where
  pub shows : (bits : List Bool) → AreMetBy clauses bits → (w : World) × IsWorld P parameters choices exact frame.slots.items w × ShowsWorld P frame picture bits w × Shown w
  pub each : (w : World) → IsWorld P parameters choices exact frame.slots.items w → Each w → (bits : List Bool) × AreMetBy clauses bits × ShowsWorld P frame picture bits w

-- New variables, and clauses that say of the old ones what the old clauses say and besides that a condition holds. An
-- assignment in which the condition is given can be completed.
pub record Restricts (Holds Given : List Bool → Type 0) (old new : Clauses.Formula) : Type 0 where
  pub grows : old.vars ≤ new.vars
  pub keeps : (bits : List Bool) → AreMetBy new bits → AreMetBy old bits
  pub holds : (bits : List Bool) → AreMetBy new bits → Holds bits
  pub completes : (bits : List Bool) → AreMetBy old bits → Given bits → (more : List Bool) × AreMetBy new more × ((var : ℕ) → var < old.vars → value_at more var ≡ value_at bits var)

-- every structure, and some structure, that the picture shows in an assignment is such
abbrev pub EachShown : Protocol → Frame → Picture → (Structure → Type 0) → List Bool → Type 0
EachShown P frame picture Is bits = (s : Structure) → Shows P frame picture bits s → Is s

abbrev pub SomeShown : Protocol → Frame → Picture → (Structure → Type 0) → List Bool → Type 0
SomeShown P frame picture Is bits = (s : Structure) × Shows P frame picture bits s × Is s

-- clauses were added that only such structures are shown
abbrev pub RestrictsTo : Protocol → Frame → Picture → (Structure → Type 0) → Clauses.Formula → Clauses.Formula → Type 0
RestrictsTo P frame picture Is old new = Restricts (EachShown P frame picture Is) (SomeShown P frame picture Is) old new

-- the closed formula has the value
abbrev pub HasTruth : Formula → Bool → Structure → Type 0
HasTruth f value s = value_of s empty_environment f ≡ value

-- a frame and a picture of the protocol over so many variables
pub record IsScene (P : Protocol) (frame : Frame) (picture : Picture) (count : ℕ) : Type 0 where
  pub parameters : List ℕ
  pub choices : List ℕ
  pub drawn : IsFrame P parameters choices count frame
  pub pictured : IsPicture P frame.slots.items count picture

-- the block leads from the world's structure, with its arguments and choices, to one in which the formula, if there is
-- one, is false
pub record Leads (P : Protocol) (block : Block) (broken : Option Formula) (w : World) : Type 0 where
  pub after : Structure
  pub leaves : executes P block w.structure w.arguments w.choices ≡ Some after
  pub is_broken : IsBroken broken after

-- every world, and some world, that is shown in an assignment is such
abbrev pub EachWorld : Protocol → List ℕ → List ℕ → Bool → Frame → Picture → (World → Type 0) → List Bool → Type 0
EachWorld P parameters choices exact frame picture Is bits = (w : World) → IsWorld P parameters choices exact frame.slots.items w → ShowsWorld P frame picture bits w → Is w

abbrev pub SomeWorld : Protocol → List ℕ → List ℕ → Bool → Frame → Picture → (World → Type 0) → List Bool → Type 0
SomeWorld P parameters choices exact frame picture Is bits = (w : World) × IsWorld P parameters choices exact frame.slots.items w × ShowsWorld P frame picture bits w × Is w

-- what a question is of: the block of this name, if there is one
abbrev pub block_asked : Protocol → Option BlockId → Option Block
block_asked P None = None
block_asked P (Some block) = block_named P block

-- no block, or one of the protocol
abbrev pub IsKnown : Protocol → Option BlockId → Type 0
IsKnown P None = Unit {0}
IsKnown P (Some block) = IsSome (block_named P block)

abbrev pub parameters_asked : Option Block → List ℕ
parameters_asked None = []
parameters_asked (Some block) = block.parameters

abbrev pub choices_asked : Option Block → List ℕ
choices_asked None = []
choices_asked (Some block) = block.choices

-- the formula of the model, if there is one
abbrev pub formula_asked : Option Source.Formula → Option Formula
formula_asked broken = option_map formula_of broken
