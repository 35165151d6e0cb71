-- Rows of new bits that no clause speaks of, so that an assignment may give them any values.
use Rattle.std.specs.Prelude.{◌≡◌, ℕ, ◌+◌, ◌<◌, ◌≤◌, Bool, true, false, List, [], ◌∷◌, ◌++◌, length, nat_eq}
use Rattle.dai_trail.specs.Formula.{Formula, value_at}
use Rattle.dai_circuit.specs.declared.bit.Bit.{Bit}
use Rattle.dai_circuit.specs.declared.bit.Bit.TheVariants as Bits
use Rattle.dai_circuit.specs.Circuits.{bit_value, variable, IsBitBelow, AreBitsBelow}
use Rattle.dai_picture.specs.declared.rows.Known.{Known}
use Rattle.dai_picture.specs.declared.rows.Known.TheVariants.{Nowhere, First, Everywhere}
use Rattle.dai_picture.specs.Pictures.{row_at, bit_at, AreRows}

-- whether the bit at this place of a row is known to be true
abbrev pub is_known : Known → ℕ → Bool
is_known Nowhere slot = false
is_known First slot = nat_eq slot 0
is_known Everywhere slot = true

-- two assignments have the same values below a count
abbrev pub AgreeBelow : ℕ → List Bool → List Bool → Type 0
AgreeBelow count more bits = (var : ℕ) → var < count → value_at more var ≡ value_at bits var

-- an assignment gives the row's bits, and those of each row, these values
abbrev pub HasValues : List Bool → List Bit → (ℕ → Bool) → Type 0
HasValues bits row values = (slot : ℕ) → slot < length row → bit_value bits (bit_at row slot) ≡ values slot

abbrev pub HaveValues : List Bool → List (List Bit) → (ℕ → ℕ → Bool) → Type 0
HaveValues bits rows values = (k slot : ℕ) → k < length rows → slot < length (row_at rows k) → bit_value bits (bit_at (row_at rows k) slot) ≡ values k slot

-- the bits are those of new variables, one after another
abbrev pub NumberFrom : ℕ → ℕ → List Bit → Type 0
NumberFrom first past [] = first ≡ past
NumberFrom first past (bit ∷ bits) = (bit ≡ Bits.Is (variable first)) × NumberFrom (first + 1) past bits

-- the bits of all rows, one row after another
abbrev pub all_bits : List (List Bit) → List Bit
all_bits [] = []
all_bits (row ∷ rows) = row ++ all_bits rows

-- a bit that is known to be true, or free: with the old variables as before it may have each value
pub record IsFreeBit (old new : Formula) (fixed : Bool) (bit : Bit) : Type 0 where
  pub clauses : new.clauses ≡ old.clauses
  pub grows : old.vars ≤ new.vars
  pub below : IsBitBelow new.vars bit
  pub known : fixed ≡ true → bit ≡ Bits.Known true
  pub none : fixed ≡ true → new.vars ≡ old.vars
  pub numbered : fixed ≡ false → NumberFrom old.vars new.vars (bit ∷ [])
  pub free : (bits : List Bool) (value : Bool) → (fixed ≡ true → value ≡ true) → (more : List Bool) × AgreeBelow old.vars more bits × (bit_value more bit ≡ value)

-- a row of so many such bits
pub record IsFreeRow (old new : Formula) (which : Known) (many : ℕ) (row : List Bit) : Type 0 where
  pub clauses : new.clauses ≡ old.clauses
  pub grows : old.vars ≤ new.vars
  pub long : length row ≡ many
  pub below : AreBitsBelow new.vars row
  pub known : (slot : ℕ) → slot < length row → is_known which slot ≡ true → bit_at row slot ≡ Bits.Known true
  pub none : which ≡ Everywhere → new.vars ≡ old.vars
  pub numbered : which ≡ Nowhere → NumberFrom old.vars new.vars row
  pub free : (bits : List Bool) (values : ℕ → Bool) → ((slot : ℕ) → slot < length row → is_known which slot ≡ true → values slot ≡ true) → (more : List Bool) × AgreeBelow old.vars more bits × HasValues more row values

-- such rows of these lengths
pub record AreFreeRows (old new : Formula) (which : Known) (lengths : List ℕ) (all : List (List Bit)) : Type 0 where
  pub clauses : new.clauses ≡ old.clauses
  pub grows : old.vars ≤ new.vars
  pub rows : AreRows new.vars lengths all
  pub known : (k slot : ℕ) → k < length all → slot < length (row_at all k) → is_known which slot ≡ true → bit_at (row_at all k) slot ≡ Bits.Known true
  pub none : which ≡ Everywhere → new.vars ≡ old.vars
  pub numbered : which ≡ Nowhere → NumberFrom old.vars new.vars (all_bits all)
  pub free : (bits : List Bool) (values : ℕ → ℕ → Bool) → ((k slot : ℕ) → k < length all → slot < length (row_at all k) → is_known which slot ≡ true → values k slot ≡ true) → (more : List Bool) × AgreeBelow old.vars more bits × HaveValues more all values
