-- What is drawn: all rows first, and then the clauses about them.
use Rattle.std.specs.Prelude.{◌≡◌, ℕ, ◌<◌, ◌≤◌, Bool, true, false, List, ◌++◌, length, map}
use Rattle.dai_model.specs.Protocol.{Protocol, Individual}
use Rattle.dai_trail.specs.Formula.{Formula}
use Rattle.dai_circuit.specs.declared.bit.Bit.TheVariants as Bits
use Rattle.dai_picture.specs.declared.rows.Known.{Known}
use Rattle.dai_picture.specs.declared.rows.Known.TheVariants.{First, Everywhere}
use Rattle.dai_picture.specs.declared.picture.Frame.{Frame}
use Rattle.dai_picture.specs.declared.picture.Picture.{Picture}
use Rattle.dai_picture.specs.declared.draw.Drawing.{Drawing}
use Rattle.dai_picture.specs.Pictures.{row_at, bit_at, rows_of, AreRows, slots_of_each, IsFrame, IsPicture}
use Rattle.dai_picture.specs.Rows.{is_known, HaveValues, NumberFrom, all_bits}
use Rattle.dai_picture.specs.Rules.{AreUsedFronts, MarkUsed}

-- where all slots are used they are known to be; else the first one of each type is
abbrev pub known_of : Bool → Known
known_of true = Everywhere
known_of false = First

-- all rows but those of the parameters are over so many variables
pub record AreBefore (P : Protocol) (choices : List ℕ) (start : ℕ) (frame : Frame) (picture : Picture) : Type 0 where
  pub used : AreRows start frame.slots.items (rows_of frame.used)
  pub chosen : AreRows start (slots_of_each frame.slots.items choices) (rows_of frame.choices)
  pub shown : IsPicture P frame.slots.items start picture

-- the bits of the tables, values and choices are those of new variables, one after another
abbrev pub AreInOrder : ℕ → ℕ → Frame → Picture → Type 0
AreInOrder first past frame picture = NumberFrom first past (all_bits (rows_of picture.tables) ++ (all_bits (rows_of picture.values) ++ all_bits (rows_of frame.choices)))

-- new rows, which are free
pub record AreDrawn (P : Protocol) (parameters choices slots : List ℕ) (which : Known) (old new : Formula) (d : Drawing) : Type 0 where
  pub clauses : new.clauses ≡ old.clauses
  pub same : d.frame.slots.items ≡ slots
  pub frame : IsFrame P parameters choices new.vars d.frame
  pub picture : IsPicture P slots new.vars d.picture
  pub before : AreBefore P choices d.start d.frame d.picture
  pub within : d.start ≤ new.vars
  pub in_order : which ≡ Everywhere → AreInOrder old.vars d.start d.frame d.picture
  pub known : (k slot : ℕ) → k < length (rows_of d.frame.used) → slot < length (row_at (rows_of d.frame.used) k) → is_known which slot ≡ true → bit_at (row_at (rows_of d.frame.used) k) slot ≡ Bits.Known true
  pub free : (used tables values chosen given : ℕ → ℕ → Bool) → ((k slot : ℕ) → k < length (rows_of d.frame.used) → slot < length (row_at (rows_of d.frame.used) k) → is_known which slot ≡ true → used k slot ≡ true) → (bits : List Bool) × HaveValues bits (rows_of d.frame.used) used × HaveValues bits (rows_of d.picture.tables) tables × HaveValues bits (rows_of d.picture.values) values × HaveValues bits (rows_of d.frame.choices) chosen × HaveValues bits (rows_of d.frame.arguments) given

-- what the clauses say of the rows
pub record AreRuled (P : Protocol) (parameters choices : List ℕ) (frame : Frame) (picture : Picture) (bits : List Bool) : Type 0 where
  pub used : AreUsedFronts (rows_of frame.used) bits
  pub values : MarkUsed (rows_of frame.used) (map (λ (I : Individual). I.sort) P.individuals) (rows_of picture.values) bits
  pub chosen : MarkUsed (rows_of frame.used) choices (rows_of frame.choices) bits
  pub given : MarkUsed (rows_of frame.used) parameters (rows_of frame.arguments) bits
