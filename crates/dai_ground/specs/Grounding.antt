-- What it means that a bit is the value of a formula in what a picture shows.
use Rattle.std.specs.Prelude.{◌≡◌, ℕ, ◌<◌, ◌&&◌, Bool, List, [], ◌∷◌, Some, Result, slice_get, slice_index, length, map, nat_lt, if◌then◌else◌}
use Rattle.std.specs.List.{All, list_any}
use Rattle.dai_base.specs.declared.memory.Spent.{Spent}
use Rattle.dai_model.specs.Protocol.{Protocol}
use Rattle.dai_model.specs.Structure.{Structure, size_of}
use Rattle.dai_model.specs.Formula.{Term, Formula, Formulas, no_formulas, with_formula}
use Rattle.dai_model.specs.Value.{Environment, bind, value_of, value_of_term}
use Rattle.dai_model.specs.Clause.{numbers_below}
use Rattle.dai_model.specs.WellSorted.{Scope, with_variable, HasSort, HaveSorts, EnvironmentFits, IsWellSorted, AreWellSorted}
use Rattle.dai_trail.specs.Formula as Clauses
use Rattle.dai_circuit.specs.declared.bit.Bit.{Bit}
use Rattle.dai_circuit.specs.Circuits.{bit_value, IsBitBelow}
use Rattle.dai_ground.specs.Findings.{Finds}
use Rattle.dai_picture.specs.declared.picture.Frame.{Frame}
use Rattle.dai_picture.specs.declared.picture.Picture.{Picture}
use Rattle.dai_picture.specs.Pictures.{Marks, Shows, IsFrame, IsPicture, rows_of, row_at}
use Rattle.dai_ground.specs.declared.candidates.Candidate.{Candidate}

-- variables stand for these slots, parameters and choices for these elements
abbrev pub environment : List ℕ → List ℕ → List ℕ → Environment
environment binding arguments choices = record { variables = λ v. slice_index binding v; parameters = arguments; choices = choices }

-- the parameters and choices in scope have rows in a frame, and the variables in scope stand for slots of their types
pub record IsPlaced (P : Protocol) (frame : Frame) (picture : Picture) (count : ℕ) (binding : List ℕ) (scope : Scope) : Type 0 where
  pub parameters : List ℕ
  pub choices : List ℕ
  pub drawn : IsFrame P parameters choices count frame
  pub pictured : IsPicture P frame.slots.items count picture
  pub named : (p sort : ℕ) → slice_get scope.parameters p ≡ Some sort → slice_get parameters p ≡ Some sort
  pub chosen : (c sort : ℕ) → slice_get scope.choices c ≡ Some sort → slice_get choices c ≡ Some sort
  pub bound : (v sort : ℕ) → scope.variables v ≡ Some sort → slice_index binding v < slice_index frame.slots.items sort

-- a well-sorted term, formula or list of formulas over such a scope
pub record IsTermIn (P : Protocol) (frame : Frame) (picture : Picture) (count : ℕ) (binding : List ℕ) (t : Term) (sort : ℕ) : Type 0 where
  pub scope : Scope
  pub placed : IsPlaced P frame picture count binding scope
  pub sorted : HasSort P scope t sort

pub record AreTermsIn (P : Protocol) (frame : Frame) (picture : Picture) (count : ℕ) (binding : List ℕ) (ts : List Term) (sorts : List ℕ) : Type 0 where
  pub scope : Scope
  pub placed : IsPlaced P frame picture count binding scope
  pub sorted : HaveSorts P scope ts sorts

pub record IsFormulaIn (P : Protocol) (frame : Frame) (picture : Picture) (count : ℕ) (binding : List ℕ) (f : Formula) : Type 0 where
  pub scope : Scope
  pub placed : IsPlaced P frame picture count binding scope
  pub sorted : IsWellSorted P scope f

-- a formula in which a variable of this type is bound
pub record IsBodyIn (P : Protocol) (frame : Frame) (picture : Picture) (count : ℕ) (binding : List ℕ) (v sort : ℕ) (f : Formula) : Type 0 where
  pub scope : Scope
  pub placed : IsPlaced P frame picture count binding scope
  pub known : sort < length P.sorts
  pub sorted : IsWellSorted P (with_variable scope v sort) f

pub record AreFormulasIn (P : Protocol) (frame : Frame) (picture : Picture) (count : ℕ) (binding : List ℕ) (fs : Formulas) : Type 0 where
  pub scope : Scope
  pub placed : IsPlaced P frame picture count binding scope
  pub sorted : AreWellSorted P scope fs

-- in this assignment the picture shows the structure, the frame names what the environment gives to the parameters
-- and choices in scope, and each name in scope stands for an element
pub record Sees (P : Protocol) (frame : Frame) (picture : Picture) (bits : List Bool) (scope : Scope) (s : Structure) (env : Environment) : Type 0 where
  pub shows : Shows P frame picture bits s
  pub parameters : (p sort : ℕ) → slice_get scope.parameters p ≡ Some sort → Marks bits (row_at (rows_of frame.arguments) p) (slice_index env.parameters p)
  pub choices : (c sort : ℕ) → slice_get scope.choices c ≡ Some sort → Marks bits (row_at (rows_of frame.choices) c) (slice_index env.choices c)
  pub fits : EnvironmentFits scope s.sizes env

-- the values of formulas, in order
abbrev pub value_of_each : Structure → Environment → Formulas → List Bool
value_of_each s env no_formulas = []
value_of_each s env (with_formula f fs) = value_of s env f ∷ value_of_each s env fs

-- the candidates stand for the element: a test passes for it exactly where it passes for one whose bit is true
abbrev pub StandFor : List Bool → List Candidate → ℕ → Type 0
StandFor bits candidates e = (test : ℕ → Bool) → list_any (λ c. bit_value bits c.bit && test c.slot) candidates ≡ test e

-- slots of the type that a term may stand for, each with the bit that it does
pub record AreCandidates (P : Protocol) (frame : Frame) (picture : Picture) (count : ℕ) (binding : List ℕ) (t : Term) (sort : ℕ) (candidates : List Candidate) : Type 0 where
  pub slots : All (λ c. c.slot < slice_index frame.slots.items sort) candidates
  pub below : All (λ c. IsBitBelow count c.bit) candidates
  pub stand : (bits : List Bool) (scope : Scope) (type : ℕ) (s : Structure) (arguments choices : List ℕ) → HasSort P scope t type → Sees P frame picture bits scope s (environment binding arguments choices) → StandFor bits candidates (value_of_term s (environment binding arguments choices) t)

-- the value of a formula in a structure that is seen in this assignment
pub record IsValue (P : Protocol) (frame : Frame) (picture : Picture) (binding : List ℕ) (f : Formula) (bits : List Bool) (value : Bool) : Type 0 where
  pub scope : Scope
  pub structure : Structure
  pub arguments : List ℕ
  pub choices : List ℕ
  pub sorted : IsWellSorted P scope f
  pub sees : Sees P frame picture bits scope structure (environment binding arguments choices)
  pub is : value ≡ value_of structure (environment binding arguments choices) f

-- the same of each formula
pub record AreValues (P : Protocol) (frame : Frame) (picture : Picture) (binding : List ℕ) (fs : Formulas) (bits : List Bool) (values : List Bool) : Type 0 where
  pub scope : Scope
  pub structure : Structure
  pub arguments : List ℕ
  pub choices : List ℕ
  pub sorted : AreWellSorted P scope fs
  pub sees : Sees P frame picture bits scope structure (environment binding arguments choices)
  pub are : values ≡ value_of_each structure (environment binding arguments choices) fs

-- the value of the formula where the variable stands for a slot that is used; of any other slot, what changes nothing
abbrev pub slot_value : Bool → ℕ → (ℕ → Bool) → ℕ → Bool
slot_value neutral size test slot = if nat_lt slot size then test slot else neutral

-- the values that a formula has as its variable stands for one slot of the type after another
pub record AreSlotValues (P : Protocol) (frame : Frame) (picture : Picture) (binding : List ℕ) (v sort : ℕ) (f : Formula) (neutral : Bool) (slots : ℕ) (bits : List Bool) (values : List Bool) : Type 0 where
  pub scope : Scope
  pub structure : Structure
  pub arguments : List ℕ
  pub choices : List ℕ
  pub known : sort < length P.sorts
  pub sorted : IsWellSorted P (with_variable scope v sort) f
  pub sees : Sees P frame picture bits scope structure (environment binding arguments choices)
  pub are : values ≡ map (slot_value neutral (size_of structure sort) (λ e. value_of structure (bind (environment binding arguments choices) v e) f)) (numbers_below slots)

-- the clauses were extended, and the answer is the bit of the formula
abbrev pub Grounds : Protocol → Frame → Picture → List ℕ → Formula → Clauses.Formula → Clauses.Formula → Result Bit Spent → Type 0
Grounds P frame picture binding f old new result = Finds (IsValue P frame picture binding f) old new result
