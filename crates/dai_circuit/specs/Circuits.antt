use Rattle.std.specs.Prelude.{◌≡◌, ◌<◌, ◌≤◌, ℕ, Bool, true, false, not, Option, None, Some, Result, List, IfOk, length, slice_get}
use Rattle.std.specs.List.{All, list_all, list_any, filter_map}
use Rattle.dai_base.specs.declared.memory.Spent.{Spent}
use Rattle.dai_trail.specs.declared.cnf.Lit.{Lit}
use Rattle.dai_trail.specs.Formula.{Formula, IsBelow, AreMetBy, IsModelOf, value_at}
use Rattle.dai_circuit.specs.declared.bit.Bit.{Bit}
use Rattle.dai_circuit.specs.declared.bit.Bit.TheVariants.{Known, Is}
use Rattle.dai_circuit.specs.declared.circuit.Solved.{Solved}
use Rattle.dai_circuit.specs.declared.circuit.Solved.TheVariants.{Model, Core}

-- whether two truth values are the same
abbrev pub same_value : Bool → Bool → Bool
same_value true other = other
same_value false other = not other

-- whether an assignment makes a literal true
abbrev pub lit_value : List Bool → Lit → Bool
lit_value bits l = same_value l.positive (value_at bits l.var)

-- the value of a bit in an assignment
abbrev pub bit_value : List Bool → Bit → Bool
bit_value bits (Known value) = value
bit_value bits (Is l) = lit_value bits l

-- the literal that a variable is true
abbrev pub variable : ℕ → Lit
variable var = record { var = var; positive = true }

-- the literal of the same variable with the other sign
abbrev pub opposite : Lit → Lit
opposite l = record { var = l.var; positive = not l.positive }

-- the bit with the other value
abbrev pub negation_of : Bit → Bit
negation_of (Known value) = Known (not value)
negation_of (Is l) = Is (opposite l)

-- the bit, or its negation where it is to be false
abbrev pub signed : Bool → Bit → Bit
signed true part = part
signed false part = negation_of part

-- a bit is known to have a value
abbrev pub is_known : Bool → Bit → Bool
is_known value (Known known) = same_value value known
is_known value (Is l) = false

-- the literal of a bit that isn't known
abbrev pub literal_of : Bit → Option Lit
literal_of (Known value) = None
literal_of (Is l) = Some l

-- the literals of the bits that aren't known
abbrev pub literals_of : List Bit → List Lit
literals_of parts = filter_map literal_of parts

-- a bit's variable is below a count
abbrev pub IsBitBelow : ℕ → Bit → Type 0
IsBitBelow count (Known value) = Unit {0}
IsBitBelow count (Is l) = l.var < count

-- each bit's variable is below a count
abbrev pub AreBitsBelow : ℕ → List Bit → Type 0
AreBitsBelow count parts = All (IsBitBelow count) parts

-- all bits are true, and some bit is true
abbrev pub all_value : List Bit → List Bool → Bool
all_value parts bits = list_all (bit_value bits) parts

abbrev pub any_value : List Bit → List Bool → Bool
any_value parts bits = list_any (bit_value bits) parts

-- all literals are true
abbrev pub all_true : List Lit → List Bool → Bool
all_true lits bits = list_all (lit_value bits) lits

-- the clauses are over the formula's variables
abbrev pub IsOver : Formula → Type 0
IsOver formula = All (IsBelow formula.vars) formula.clauses

-- new variables that the old ones determine or that are free: the new clauses say of the old variables
-- what the old clauses say
pub record Extends (old new : Formula) : Type 0 where
  pub grows : old.vars ≤ new.vars
  pub keeps : (bits : List Bool) → AreMetBy new bits → AreMetBy old bits
  pub completes : (bits : List Bool) → AreMetBy old bits → (more : List Bool) × AreMetBy new more × ((var : ℕ) → var < old.vars → value_at more var ≡ value_at bits var)

-- a bit over the formula's variables, which has the value of a function wherever the clauses are met
pub record IsBitFor (formula : Formula) (value : List Bool → Bool) (bit : Bit) : Type 0 where
  pub below : IsBitBelow formula.vars bit
  pub same : (bits : List Bool) → AreMetBy formula bits → bit_value bits bit ≡ value bits

-- the formula was extended, and the answer is a bit for a function
pub record Defines (old new : Formula) (result : Result Bit Spent) (value : List Bool → Bool) : Type 0 where
  pub extends : Extends old new
  pub answer : IfOk result (IsBitFor new value)

-- clauses were added that are met wherever a condition holds
pub record Adds (old new : Formula) (condition : List Bool → Type 0) : Type 0 where
  pub vars : new.vars ≡ old.vars
  pub keeps : (bits : List Bool) → AreMetBy new bits → AreMetBy old bits
  pub admits : (bits : List Bool) → AreMetBy old bits → condition bits → AreMetBy new bits

-- the new clauses are met exactly where the old ones are and some bit is true
pub record Requires (old new : Formula) (parts : List Bit) : Type 0 where
  pub vars : new.vars ≡ old.vars
  pub keeps : (bits : List Bool) → AreMetBy new bits → AreMetBy old bits
  pub some : (bits : List Bool) → AreMetBy new bits → any_value parts bits ≡ true
  pub admits : (bits : List Bool) → AreMetBy old bits → any_value parts bits ≡ true → AreMetBy new bits

-- unless a literal is true, a variable has the value of another literal
abbrev pub IsTied : Lit → ℕ → Lit → List Bool → Type 0
IsTied guard var other bits = lit_value bits guard ≡ false → value_at bits var ≡ lit_value bits other

-- a bit is known to be false, or that of a variable that is marked
abbrev pub is_marked : List Bool → Bit → Bool
is_marked marks (Known value) = not value
is_marked marks (Is l) = value_at marks l.var

-- no assignment that meets the clauses makes the bits of the core true
abbrev pub IsCore : Formula → List Bit → List Bool → Type 0
IsCore formula parts core = (bits : List Bool) → AreMetBy formula bits → ((i : ℕ) (part : Bit) → slice_get parts i ≡ Some part → slice_get core i ≡ Some true → bit_value bits part ≡ true) → ⊥

-- an assignment of all variables that meets the clauses and makes each bit true; or a core of the bits
abbrev pub IsSolved : Formula → List Bit → Solved → Type 0
IsSolved formula parts (Model model) = IsModelOf formula model.items × (all_value parts model.items ≡ true)
IsSolved formula parts (Core core) = (length core.items ≡ length parts) × IsCore formula parts core.items

-- the literals of bits, none of which is known to be false
pub record AreLiteralsOf (parts : List Bit) (lits : List Lit) : Type 0 where
  pub none_false : list_any (is_known false) parts ≡ false
  pub lits_are : lits ≡ literals_of parts
