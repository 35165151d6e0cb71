-- Bits, rows and tables that have the values of one or of another, as a condition is.
use Rattle.std.specs.Prelude.{◌≡◌, ℕ, Bool, List, length, map, Vec, if◌then◌else◌}
use Rattle.std.specs.declared.alloc.Global.{Global}
use Rattle.std.specs.List.{All}
use Rattle.dai_trail.specs.Formula.{Formula, AreMetBy}
use Rattle.dai_circuit.specs.declared.bit.Bit.{Bit}
use Rattle.dai_circuit.specs.Circuits.{bit_value, AreBitsBelow}
use Rattle.dai_picture.specs.declared.picture.Picture.{Picture}
use Rattle.dai_picture.specs.Pictures.{rows_of}

abbrev pub choice_value : Bit → Bit → Bit → List Bool → Bool
choice_value condition first second bits = if bit_value bits condition then bit_value bits first else bit_value bits second

abbrev pub row_values : List Bool → List Bit → List Bool
row_values bits row = map (bit_value bits) row

-- a row as long as another, over the clauses' variables, which has the values of one row where the condition is true
-- and else those of the other
pub record IsChosenRow (clauses : Formula) (condition : Bit) (first second row : List Bit) : Type 0 where
  pub long : length row ≡ length first
  pub below : AreBitsBelow clauses.vars row
  pub same : (bits : List Bool) → AreMetBy clauses bits → row_values bits row ≡ (if bit_value bits condition then row_values bits first else row_values bits second)

-- the same of rows of rows
pub record AreChosenRows (clauses : Formula) (condition : Bit) (first second rows : List (List Bit)) : Type 0 where
  pub long : map (λ (row : List Bit). length row) rows ≡ map (λ (row : List Bit). length row) first
  pub below : All (AreBitsBelow clauses.vars) rows
  pub same : (bits : List Bool) → AreMetBy clauses bits → map (row_values bits) rows ≡ (if bit_value bits condition then map (row_values bits) first else map (row_values bits) second)

-- the same of pictures
pub record IsChosenPicture (clauses : Formula) (condition : Bit) (first second picture : Picture) : Type 0 where
  pub tables : AreChosenRows clauses condition (rows_of first.tables) (rows_of second.tables) (rows_of picture.tables)
  pub values : AreChosenRows clauses condition (rows_of first.values) (rows_of second.values) (rows_of picture.values)

-- rows that are as long as others, each over so many variables
pub record AreAlike (count : ℕ) (first second : List (List Bit)) : Type 0 where
  pub long : map (λ (row : List Bit). length row) first ≡ map (λ (row : List Bit). length row) second
  pub first_below : All (AreBitsBelow count) first
  pub second_below : All (AreBitsBelow count) second

abbrev pub lists_of : List (Vec Bit Global) → List (List Bit)
lists_of rows = map (λ (row : Vec Bit Global). row.items) rows

-- the same bits
pub record IsCopy (picture copied : Picture) : Type 0 where
  pub tables : rows_of copied.tables ≡ rows_of picture.tables
  pub values : rows_of copied.values ≡ rows_of picture.values
