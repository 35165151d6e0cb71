-- What clauses say of the rows: the slots that are used are the first ones, and a row marks one slot, which is used.
use Rattle.std.specs.Prelude.{◌≡◌, ℕ, ◌+◌, ◌<◌, Bool, true, false, List, length, map, slice_index}
use Rattle.std.specs.List.{All}
use Rattle.dai_trail.specs.Formula.{Formula, AreMetBy}
use Rattle.dai_circuit.specs.declared.bit.Bit.{Bit}
use Rattle.dai_circuit.specs.declared.bit.Bit.TheVariants.{Known}
use Rattle.dai_circuit.specs.Circuits.{bit_value, AreBitsBelow}
use Rattle.dai_picture.specs.Pictures.{row_at, bit_at, Marks, Counts, AreRows, slots_of_each}

-- the new clauses are met exactly where the old ones are and a condition holds
pub record Constrains (old new : Formula) (condition : List Bool → Type 0) : Type 0 where
  pub vars : new.vars ≡ old.vars
  pub keeps : (bits : List Bool) → AreMetBy new bits → AreMetBy old bits
  pub holds : (bits : List Bool) → AreMetBy new bits → condition bits
  pub admits : (bits : List Bool) → AreMetBy old bits → condition bits → AreMetBy new bits

-- of the first so many bits, where one is true the one before it is
abbrev pub FallsBelow : ℕ → List Bit → List Bool → Type 0
FallsBelow count row bits = (slot : ℕ) → slot + 1 < count → bit_value bits (bit_at row (slot + 1)) ≡ true → bit_value bits (bit_at row slot) ≡ true

-- at least one slot is used, and the used ones are the first ones
abbrev pub IsUsedFront : List Bit → List Bool → Type 0
IsUsedFront row bits = (size : ℕ) × (0 < size) × Counts bits row size

abbrev pub AreUsedFronts : List (List Bit) → List Bool → Type 0
AreUsedFronts rows bits = (k : ℕ) → k < length rows → IsUsedFront (row_at rows k) bits

-- the first bit of each row is known to be true
abbrev pub AreBegun : List (List Bit) → Type 0
AreBegun rows = (k : ℕ) → k < length rows → bit_at (row_at rows k) 0 ≡ Known true

-- of the first so many slots, one that is true is used
abbrev pub AreUsedBelow : ℕ → List Bit → List Bit → List Bool → Type 0
AreUsedBelow count used row bits = (slot : ℕ) → slot < count → bit_value bits (bit_at row slot) ≡ true → bit_value bits (bit_at used slot) ≡ true

-- where this slot is true, the first so many aren't
abbrev pub IsApartFrom : ℕ → List Bit → ℕ → List Bool → Type 0
IsApartFrom count row slot bits = (other : ℕ) → other < count → bit_value bits (bit_at row slot) ≡ true → bit_value bits (bit_at row other) ≡ false

-- of the first so many slots, at most one is true
abbrev pub AreApartBelow : ℕ → List Bit → List Bool → Type 0
AreApartBelow count row bits = (slot : ℕ) → slot < count → IsApartFrom slot row slot bits

-- the row marks a slot that is used
abbrev pub MarksUsed : List Bit → List Bit → List Bool → Type 0
MarksUsed used row bits = (e : ℕ) × (bit_value bits (bit_at used e) ≡ true) × Marks bits row e

-- each row marks a slot of its type that is used
abbrev pub MarkUsed : List (List Bit) → List ℕ → List (List Bit) → List Bool → Type 0
MarkUsed used sorts rows bits = (k : ℕ) → k < length rows → MarksUsed (row_at used (slice_index sorts k)) (row_at rows k) bits

abbrev pub long_of : List (List Bit) → List ℕ
long_of rows = map (λ (row : List Bit). length row) rows

-- rows over the slots of these types
pub record AreOverUsed (count : ℕ) (slots : List (List Bit)) (sorts : List ℕ) (marks : List (List Bit)) : Type 0 where
  pub known : All (λ sort. sort < length slots) sorts
  pub used : All (AreBitsBelow count) slots
  pub rows : AreRows count (slots_of_each (long_of slots) sorts) marks
