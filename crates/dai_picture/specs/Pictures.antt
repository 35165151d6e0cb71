-- Pictures: structures whose truth values are bits of a propositional formula. Each type has slots, of which so
-- many at the front are used; a relation has a bit for each tuple of slots, and what an individual, a parameter or a
-- choice stands for is a row with a bit for each slot, one of which is true. In each assignment a picture shows a
-- structure.
use Rattle.std.specs.Prelude.{◌≡◌, ℕ, ◌<◌, ◌≤◌, Bool, false, List, [], length, map, Some, slice_get, slice_index, slice_index_or, nat_eq, nat_lt, IsTrue, Vec}
use Rattle.std.specs.declared.alloc.Global.{Global}
use Rattle.std.specs.List.{All}
use Rattle.dai_model.specs.Protocol.{Protocol, Relation, Individual}
use Rattle.dai_model.specs.Structure.{Structure, IsStructure, is_tuple}
use Rattle.dai_logic.specs.Counts.{tuple_count, tuple_place}
use Rattle.dai_logic.specs.Protocols.{arguments_in}
use Rattle.dai_circuit.specs.declared.bit.Bit.{Bit}
use Rattle.dai_circuit.specs.declared.bit.Bit.TheVariants.{Known}
use Rattle.dai_circuit.specs.Circuits.{bit_value, AreBitsBelow}
use Rattle.dai_picture.specs.declared.picture.Frame.{Frame}
use Rattle.dai_picture.specs.declared.picture.Picture.{Picture}

abbrev pub rows_of : Vec (Vec Bit Global) Global → List (List Bit)
rows_of rows = map (λ (row : Vec Bit Global). row.items) rows.items

abbrev pub row_at : List (List Bit) → ℕ → List Bit
row_at rows number = slice_index_or rows number []

abbrev pub bit_at : List Bit → ℕ → Bit
bit_at row place = slice_index_or row place (Known false)

-- one bit of the row is true, that of this element
pub record Marks (bits : List Bool) (row : List Bit) (e : ℕ) : Type 0 where
  pub inside : e < length row
  pub marks : (slot : ℕ) → slot < length row → bit_value bits (bit_at row slot) ≡ nat_eq slot e

-- each row marks the element at its place
pub record MarkEach (bits : List Bool) (rows : List (List Bit)) (es : List ℕ) : Type 0 where
  pub one_each : length es ≡ length rows
  pub each : (k : ℕ) → k < length rows → Marks bits (row_at rows k) (slice_index es k)

-- so many bits at the front are true, and no other
pub record Counts (bits : List Bool) (row : List Bit) (size : ℕ) : Type 0 where
  pub within : size ≤ length row
  pub front : (slot : ℕ) → slot < length row → bit_value bits (bit_at row slot) ≡ nat_lt slot size

-- in this assignment the picture shows the structure
pub record Shows (P : Protocol) (frame : Frame) (picture : Picture) (bits : List Bool) (s : Structure) : Type 0 where
  pub structure : IsStructure P s
  pub sizes : (sort : ℕ) → sort < length P.sorts → Counts bits (row_at (rows_of frame.used) sort) (slice_index s.sizes sort)
  pub relations : (r : ℕ) (R : Relation) (es : List ℕ) → slice_get P.relations r ≡ Some R → IsTrue (is_tuple s.sizes R.arguments es) → bit_value bits (bit_at (row_at (rows_of picture.tables) r) (tuple_place frame.slots.items R.arguments es)) ≡ s.holds r es
  pub individuals : (i : ℕ) → i < length P.individuals → Marks bits (row_at (rows_of picture.values) i) (s.element i)

-- and the frame names these arguments and choices
pub record Names (frame : Frame) (bits : List Bool) (arguments choices : List ℕ) : Type 0 where
  pub named : MarkEach bits (rows_of frame.arguments) arguments
  pub chosen : MarkEach bits (rows_of frame.choices) choices

-- rows of these lengths, whose bits' variables are below a count
pub record AreRows (count : ℕ) (lengths : List ℕ) (rows : List (List Bit)) : Type 0 where
  pub long : map (λ (row : List Bit). length row) rows ≡ lengths
  pub below : All (AreBitsBelow count) rows

-- as many slots as a list of types has at each place
abbrev pub slots_of_each : List ℕ → List ℕ → List ℕ
slots_of_each slots sorts = map (slice_index slots) sorts

-- a frame for parameters and choices of these types, over so many variables
pub record IsFrame (P : Protocol) (parameters choices : List ℕ) (count : ℕ) (frame : Frame) : Type 0 where
  pub one_each : length frame.slots.items ≡ length P.sorts
  pub inhabited : All (λ n. 0 < n) frame.slots.items
  pub used : AreRows count frame.slots.items (rows_of frame.used)
  pub named : AreRows count (slots_of_each frame.slots.items parameters) (rows_of frame.arguments)
  pub chosen : AreRows count (slots_of_each frame.slots.items choices) (rows_of frame.choices)

-- a picture of the protocol's structures with these slots, over so many variables
pub record IsPicture (P : Protocol) (slots : List ℕ) (count : ℕ) (picture : Picture) : Type 0 where
  pub tables : AreRows count (map (tuple_count slots) (arguments_in P)) (rows_of picture.tables)
  pub values : AreRows count (slots_of_each slots (map (λ (I : Individual). I.sort) P.individuals)) (rows_of picture.values)
