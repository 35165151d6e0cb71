use Rattle.std.specs.Prelude.{ℕ, Bool, List, ◌≡◌, ◌+◌, ◌==◌, length, count_by}
use Rattle.std.specs.List.{after_last}
use Rattle.dai_base.specs.declared.fault.Place.{Place}

-- a byte is a line feed
abbrev pub is_line_feed : ℕ → Bool
is_line_feed byte = byte == 10

-- the place of the byte that comes after these: lines and columns are counted from 1
pub record IsPlaceAfter (before : List ℕ) (place : Place) : Type 0 where
  pub line : place.line ≡ 1 + count_by is_line_feed before
  pub column : place.column ≡ 1 + length (after_last is_line_feed before)
