-- Bits that have a value wherever clauses are met: the value that a relation gives there, if it gives one.
use Rattle.std.specs.Prelude.{◌≡◌, Bool, true, List, [], ◌∷◌, Result, IfOk, Vec, map}
use Rattle.std.specs.declared.alloc.Global.{Global}
use Rattle.dai_model.specs.Value.{agree}
use Rattle.dai_base.specs.declared.memory.Spent.{Spent}
use Rattle.dai_trail.specs.Formula.{Formula, AreMetBy}
use Rattle.dai_circuit.specs.declared.bit.Bit.{Bit}
use Rattle.dai_circuit.specs.Circuits.{bit_value, IsBitBelow, AreBitsBelow, Extends}

pub record HasValue (Is : List Bool → Bool → Type 0) (clauses : Formula) (bit : Bit) : Type 0 where
  pub below : IsBitBelow clauses.vars bit
  pub same : (bits : List Bool) (value : Bool) → AreMetBy clauses bits → Is bits value → bit_value bits bit ≡ value

-- the same of each bit
pub record HaveValues (Are : List Bool → List Bool → Type 0) (clauses : Formula) (parts : List Bit) : Type 0 where
  pub below : AreBitsBelow clauses.vars parts
  pub same : (bits values : List Bool) → AreMetBy clauses bits → Are bits values → map (bit_value bits) parts ≡ values

-- the clauses were extended, and the answer is such a bit, or such bits
pub record Finds (Is : List Bool → Bool → Type 0) (old new : Formula) (result : Result Bit Spent) : Type 0 where
  pub extends : Extends old new
  pub answer : IfOk result (HasValue Is new)

pub record FindsEach (Are : List Bool → List Bool → Type 0) (old new : Formula) (result : Result (Vec Bit Global) Spent) : Type 0 where
  pub extends : Extends old new
  pub answer : IfOk result (λ (parts : Vec Bit Global). HaveValues Are new parts.items)

-- whether an even number of the values is false
abbrev pub agreement_of : List Bool → Bool
agreement_of [] = true
agreement_of (value ∷ values) = agree value (agreement_of values)
