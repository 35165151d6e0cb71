-- What a judge remembers of a protocol: what it has proved, each with the clauses that it needed, and transitions.
use Rattle.std.specs.Prelude.{◌≡◌, ℕ, List, Option, None, Some, slice_get}
use Rattle.std.specs.List.{All, Contains, filter_map}
use Rattle.dai_model.specs.Protocol.{Protocol, Action}
use Rattle.dai_model.specs.Clause.{Clause, Meets, MeetsEach}
use Rattle.dai_model.specs.Classes.{Class}
use Rattle.dai_logic.specs.declared.structure.BlockId.{BlockId}
use Rattle.dai_logic.specs.declared.structure.BlockId.TheVariants.{Init, Act}
use Rattle.dai_logic.specs.Tables.{structure_of, IsCopy}
use Rattle.dai_weaken.specs.declared.judge.Counterexample.{Counterexample}
use Rattle.dai_weaken.specs.Judging.{HoldsAtFirst, HoldsAfter, IsTransition}
use Rattle.dai_inquiry.specs.Keys.{clause_in, clauses_in}
use Rattle.dai_judge.specs.declared.memory.Known.{Known}
use Rattle.dai_judge.specs.declared.memory.Memory.{Memory}

-- init leads to the clause; or the action of this number does, from the structures that meet the premises
abbrev pub Keeps : Class → Protocol → BlockId → List Clause → Clause → Type 0
Keeps C P Init premises c = HoldsAtFirst C P c
Keeps C P (Act number) premises c = (action : Action) → slice_get P.actions number ≡ Some action → HoldsAfter C P premises action c

-- the block leads from a structure that meets the premises to one that breaks the clause
pub record Breaks (C : Class) (P : Protocol) (block : BlockId) (premises : List Clause) (c : Clause) (x : Counterexample) : Type 0 where
  pub by_the_block : x.block ≡ block
  pub transition : IsTransition C P x
  pub premises_met : MeetsEach P (structure_of P x.before) premises
  pub broken : Meets P (structure_of P x.after) c → ⊥

abbrev pub Decides : Class → Protocol → BlockId → List Clause → Clause → Option Counterexample → Type 0
Decides C P block premises c None = Keeps C P block premises c
Decides C P block premises c (Some x) = Breaks C P block premises c x

abbrev pub IsKnown : Class → Protocol → Known → Type 0
IsKnown C P known = Keeps C P known.block (clauses_in known.needed.items) (clause_in known.goal)

pub record IsMemoryOf (C : Class) (P : Protocol) (m : Memory) : Type 0 where
  pub known : All (IsKnown C P) m.known.items
  pub shown : All (IsTransition C P) m.shown.items

-- each of the first is among the second
abbrev pub AreAmong : List Clause → List Clause → Type 0
AreAmong few many = (c : Clause) → Contains few c → Contains many c

-- the same transition
pub record IsCopyOf (x y : Counterexample) : Type 0 where
  pub block : y.block ≡ x.block
  pub before : IsCopy x.before y.before
  pub args : y.args.items ≡ x.args.items
  pub choices : y.choices.items ≡ x.choices.items
  pub after : IsCopy x.after y.after

-- the clauses at these places
abbrev pub picked_of : List Clause → List ℕ → List Clause
picked_of clauses numbers = filter_map (slice_get clauses) numbers
