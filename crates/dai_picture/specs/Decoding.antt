-- The structure, arguments and choices that an assignment shows, as values.
use Rattle.std.specs.Prelude.{◌≡◌, ℕ, ◌<◌, ◌≤◌, ◌^◌, Bool, List, [], length, map, slice_index, slice_index_or}
use Rattle.std.specs.List.{All, range_with_len}
use Rattle.dai_model.specs.Protocol.{Protocol}
use Rattle.dai_logic.specs.declared.layout.Layout.{Layout}
use Rattle.dai_logic.specs.Counts.{tuple_count, tuple_place, tuple_at}
use Rattle.dai_logic.specs.Strides as Strides
use Rattle.dai_circuit.specs.declared.bit.Bit.{Bit}
use Rattle.dai_circuit.specs.Circuits.{bit_value}
use Rattle.dai_picture.specs.declared.picture.Frame.{Frame}
use Rattle.dai_picture.specs.declared.picture.Picture.{Picture}
use Rattle.dai_picture.specs.Pictures.{row_at, bit_at, Marks, Counts, IsFrame, IsPicture}
use Rattle.dai_picture.specs.Worlds.{World, ShowsWorld}

-- a frame and a picture over the variables of an assignment, which shows a world
pub record IsDecodable (P : Protocol) (over : Frame) (drawn : Picture) (bits : List Bool) : Type 0 where
  pub parameters : List ℕ
  pub locals : List ℕ
  pub frame : IsFrame P parameters locals (length bits) over
  pub picture : IsPicture P over.slots.items (length bits) drawn
  pub world : World
  pub shown : ShowsWorld P over drawn bits world

-- rows with fewer than 2^16 bits
abbrev pub AreShort : List (List Bit) → Type 0
AreShort rows = All (λ (row : List Bit). length row < 2 ^ 16) rows

-- a number for each row: the size that it counts, or the element that it marks
pub record AreCounted (bits : List Bool) (rows : List (List Bit)) (sizes : List ℕ) : Type 0 where
  pub long : length sizes ≡ length rows
  pub each : (k size : ℕ) → k < length rows → Counts bits (row_at rows k) size → slice_index sizes k ≡ size

pub record AreMarked (bits : List Bool) (rows : List (List Bit)) (es : List ℕ) : Type 0 where
  pub long : length es ≡ length rows
  pub each : (k e : ℕ) → k < length rows → Marks bits (row_at rows k) e → slice_index es k ≡ e

-- the truth values of the tuples of these sizes, from a row with a bit for each tuple of slots
abbrev pub table_shown : List Bool → List ℕ → List ℕ → List ℕ → List Bit → List Bool
table_shown bits sizes slots sorts row = map (λ place. bit_value bits (bit_at row (tuple_place slots sorts (tuple_at sizes sorts place)))) (range_with_len 0 (tuple_count sizes sorts))

-- the types of each relation's arguments in a layout
abbrev pub sorts_at : Layout → ℕ → List ℕ
sorts_at layout r = slice_index_or (Strides.rows_of layout.sorts) r []

abbrev pub tables_shown : List Bool → Layout → Layout → List (List Bit) → List (List Bool)
tables_shown bits small wide rows = map (λ r. table_shown bits small.sizes.items wide.sizes.items (sorts_at small r) (row_at rows r)) (range_with_len 0 (length rows))

-- a layout of sizes and one of slots, of which there are as many or more, for the same relations
pub record AreNested (small wide : Layout) : Type 0 where
  pub same : Strides.rows_of wide.sorts ≡ Strides.rows_of small.sorts
  pub fewer : (sort : ℕ) → slice_index small.sizes.items sort ≤ slice_index wide.sizes.items sort

-- a row for each relation, with a bit for each tuple of slots
pub record AreTables (wide : Layout) (rows : List (List Bit)) : Type 0 where
  pub one_each : length rows ≡ length (Strides.rows_of wide.sorts)
  pub few : length rows ≤ 64
  pub long : (r : ℕ) → r < length rows → length (row_at rows r) ≡ tuple_count wide.sizes.items (sorts_at wide r)
