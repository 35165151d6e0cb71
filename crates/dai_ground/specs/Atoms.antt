-- What the bits of atoms are: of two terms that are compared, and of a tuple of terms that is looked up in a table.
use Rattle.std.specs.Prelude.{◌≡◌, ℕ, ◌+◌, ◌*◌, ◌^◌, ◌<◌, ◌≤◌, Bool, List, [], length, map, slice_index, slice_index_or, nat_eq, nat_lt, nat_le, Vec}
use Rattle.std.specs.declared.alloc.Global.{Global}
use Rattle.std.specs.List.{All, AllZip}
use Rattle.dai_model.specs.Protocol.{Protocol}
use Rattle.dai_model.specs.Formula.{Term, Formula, same, less, less_or_same, variable}
use Rattle.dai_circuit.specs.declared.bit.Bit.{Bit}
use Rattle.dai_circuit.specs.Circuits.{bit_value, IsBitBelow, AreBitsBelow}
use Rattle.dai_logic.specs.Counts.{tuple_count, tuple_place}
use Rattle.dai_picture.specs.Pictures.{bit_at}
use Rattle.dai_ground.specs.declared.candidates.Candidate.{Candidate}
use Rattle.dai_ground.specs.declared.comparing.Order.{Order}
use Rattle.dai_ground.specs.declared.comparing.Order.TheVariants.{Same, Less, LessOrSame}
use Rattle.dai_picture.specs.declared.picture.Frame.{Frame}
use Rattle.dai_picture.specs.declared.picture.Picture.{Picture}
use Rattle.dai_ground.specs.Grounding.{StandFor, AreCandidates}

abbrev pub compares : Order → ℕ → ℕ → Bool
compares Same a b = nat_eq a b
compares Less a b = nat_lt a b
compares LessOrSame a b = nat_le a b

-- the formula that two terms compare so
abbrev pub comparison_of : Order → Term → Term → Formula
comparison_of Same a b = same a b
comparison_of Less a b = less a b
comparison_of LessOrSame a b = less_or_same a b

-- bits over so many variables
abbrev pub AreOver : ℕ → List Candidate → Type 0
AreOver count candidates = All (λ c. IsBitBelow count c.bit) candidates

-- how this slot compares with the element that the candidates stand for
pub record IsComparedWith (order : Order) (slot : ℕ) (right : List Candidate) (bits : List Bool) (value : Bool) : Type 0 where
  pub element : ℕ
  pub stand : StandFor bits right element
  pub is : value ≡ compares order slot element

-- how the elements that two lists of candidates stand for compare
pub record IsComparison (order : Order) (left right : List Candidate) (bits : List Bool) (value : Bool) : Type 0 where
  pub first : ℕ
  pub second : ℕ
  pub first_stands : StandFor bits left first
  pub second_stands : StandFor bits right second
  pub is : value ≡ compares order first second

abbrev pub columns_of : List (Vec Candidate Global) → List (List Candidate)
columns_of columns = map (λ (column : Vec Candidate Global). column.items) columns

-- each column stands for the element at its place
abbrev pub StandForEach : List Bool → List (List Candidate) → List ℕ → Type 0
StandForEach bits columns es = AllZip (StandFor bits) columns es

-- slots of a type, with bits over so many variables
pub record IsColumn (count : ℕ) (slots : List ℕ) (sort : ℕ) (column : List Candidate) : Type 0 where
  pub inside : All (λ (c : Candidate). c.slot < slice_index slots sort) column
  pub over : AreOver count column

-- the tuples of a table that begin with elements of this place, and columns for their other elements
pub record IsLookup (count : ℕ) (slots sorts : List ℕ) (table : List Bit) (columns : List (List Candidate)) (first : ℕ) : Type 0 where
  pub known : All (λ sort. sort < length slots) sorts
  pub inhabited : All (λ n. 0 < n) slots
  pub each : AllZip (IsColumn count slots) sorts columns
  pub over : AreBitsBelow count table
  pub room : first * tuple_count slots sorts + tuple_count slots sorts ≤ length table
  pub short : length table < 2 ^ 64

-- the bit of the table at the tuple of the elements that the columns stand for
pub record IsLookedUp (slots sorts : List ℕ) (table : List Bit) (columns : List (List Candidate)) (first : ℕ) (bits : List Bool) (value : Bool) : Type 0 where
  pub elements : List ℕ
  pub stand : StandForEach bits columns elements
  pub is : value ≡ bit_value bits (bit_at table (first * tuple_count slots sorts + tuple_place slots sorts elements))

-- for each term the slots that it may stand for
pub record AreColumns (P : Protocol) (frame : Frame) (picture : Picture) (count : ℕ) (binding : List ℕ) (ts : List Term) (sorts : List ℕ) (columns : List (List Candidate)) : Type 0 where
  pub one_each : length columns ≡ length ts
  pub candidates : (k : ℕ) → k < length ts → AreCandidates P frame picture count binding (slice_index_or ts k (variable 0)) (slice_index sorts k) (slice_index_or columns k [])
