-- Updates of relations, tuple by tuple of slots.
use Rattle.std.specs.Prelude.{◌≡◌, ℕ, ◌<◌, Bool, true, List, [], ◌∷◌, length, slice_index, slice_index_or, IsTrue, if◌then◌else◌}
use Rattle.dai_model.specs.Protocol.{Protocol}
use Rattle.dai_model.specs.Structure.{Structure, is_tuple}
use Rattle.dai_model.specs.Formula.{Term, variable, individual, parameter, choice, Formula}
use Rattle.dai_model.specs.Value.{Environment, environment_of, value_of}
use Rattle.dai_model.specs.Execution.{matches, bind_target}
use Rattle.dai_model.specs.WellSorted.{Scope, HaveSorts, IsWellSorted, target_scope}
use Rattle.dai_trail.specs.Formula as Clauses
use Rattle.dai_circuit.specs.declared.bit.Bit.{Bit}
use Rattle.dai_circuit.specs.declared.bit.Bit.TheVariants.{Known}
use Rattle.dai_circuit.specs.Circuits.{bit_value, AreBitsBelow}
use Rattle.dai_logic.specs.Counts.{tuple_at, tuple_count}
use Rattle.dai_logic.specs.Strides.{rows_of}
use Rattle.dai_logic.specs.declared.layout.Layout.{Layout}
use Rattle.dai_picture.specs.declared.picture.Frame.{Frame}
use Rattle.dai_picture.specs.declared.picture.Picture.{Picture}
use Rattle.dai_picture.specs.Pictures.{bit_at}
use Rattle.dai_ground.specs.Grounding.{IsPlaced, Sees}
use Rattle.dai_ground.specs.Findings.{HasValue}
use Rattle.dai_ground.specs.Leaving.{no_binding, IsFree, IsFixed, IsFixedIn, standing}

-- a target with the types of its places and the formula of its update, where no other variable is bound
pub record IsUpdateIn (P : Protocol) (frame : Frame) (picture : Picture) (count : ℕ) (ts : List Term) (sorts : List ℕ) (f : Formula) : Type 0 where
  pub scope : Scope
  pub free : IsFree scope
  pub placed : IsPlaced P frame picture count no_binding scope
  pub terms : HaveSorts P (target_scope scope ts sorts) ts sorts
  pub body : IsWellSorted P (target_scope scope ts sorts) f

-- a term of a target, and a slot of its type
pub record IsTargetTerm (P : Protocol) (frame : Frame) (picture : Picture) (count : ℕ) (t : Term) (sort slot : ℕ) : Type 0 where
  pub fixed : IsFixed t → IsFixedIn P frame picture count t sort
  pub inside : slot < slice_index frame.slots.items sort

-- the bit that the term is a variable or stands for the slot, and the bits of each term of a target
abbrev pub match_bit : Frame → Picture → Term → ℕ → Bit
match_bit frame picture (variable v) slot = Known true
match_bit frame picture (individual i) slot = bit_at (standing frame picture (individual i)) slot
match_bit frame picture (parameter p) slot = bit_at (standing frame picture (parameter p)) slot
match_bit frame picture (choice c) slot = bit_at (standing frame picture (choice c)) slot

abbrev pub match_bits : Frame → Picture → List Term → List ℕ → List Bit
match_bits frame picture [] slots = []
match_bits frame picture (t ∷ ts) [] = []
match_bits frame picture (t ∷ ts) (slot ∷ slots) = match_bit frame picture t slot ∷ match_bits frame picture ts slots

-- a value that an update has at a tuple of elements, in a structure that is seen in this assignment
pub record IsSeenAt (P : Protocol) (frame : Frame) (picture : Picture) (ts : List Term) (sorts : List ℕ) (f : Formula) (es : List ℕ) (value_in : List Bool → Structure → Environment → Bool) (bits : List Bool) (value : Bool) : Type 0 where
  pub scope : Scope
  pub structure : Structure
  pub arguments : List ℕ
  pub choices : List ℕ
  pub free : IsFree scope
  pub terms : HaveSorts P (target_scope scope ts sorts) ts sorts
  pub body : IsWellSorted P (target_scope scope ts sorts) f
  pub sees : Sees P frame picture bits scope structure (environment_of arguments choices)
  pub tuple : IsTrue (is_tuple structure.sizes sorts es)
  pub is : value ≡ value_in bits structure (environment_of arguments choices)

-- whether the target matches the tuple, the value of the formula there, and what the relation holds afterwards where
-- the bit says what it held before
abbrev pub matches_at : List Term → List ℕ → List Bool → Structure → Environment → Bool
matches_at ts es bits s env = matches s env ts es

abbrev pub value_there : List Term → List ℕ → Formula → List Bool → Structure → Environment → Bool
value_there ts es f bits s env = value_of s (bind_target env ts es) f

abbrev pub updated_at : List Term → List ℕ → Formula → Bit → List Bool → Structure → Environment → Bool
updated_at ts es f old bits s env = if matches s env ts es then value_of s (bind_target env ts es) f else bit_value bits old

-- a table with the bit of each tuple of slots after the update
pub record IsUpdatedTable (P : Protocol) (frame : Frame) (picture : Picture) (ts : List Term) (sorts : List ℕ) (f : Formula) (old : List Bit) (clauses : Clauses.Formula) (table : List Bit) : Type 0 where
  pub below : AreBitsBelow clauses.vars table
  pub each : (place : ℕ) → place < length table → HasValue (IsSeenAt P frame picture ts sorts f (tuple_at frame.slots.items sorts place) (updated_at ts (tuple_at frame.slots.items sorts place) f (bit_at old place))) clauses (bit_at table place)

-- a table with a bit for each tuple of slots
pub record IsTable (slots sorts : List ℕ) (count : ℕ) (table : List Bit) : Type 0 where
  pub long : length table ≡ tuple_count slots sorts
  pub below : AreBitsBelow count table

-- a layout in which this relation has these types
pub record IsLaidOut (slots sorts : List ℕ) (layout : Layout) (rel : ℕ) : Type 0 where
  pub known : rel < length (rows_of layout.sorts)
  pub sizes : layout.sizes.items ≡ slots
  pub types : slice_index_or (rows_of layout.sorts) rel [] ≡ sorts
