-- What a judge answers over a class of structures: that a clause holds of every initial state of the class, or after
-- every step from the states of the class that meet the premises; or a state that refutes it, and how it is reached.
use Rattle.std.specs.Prelude.{◌≡◌, ℕ, List, [], Option, Some, None, slice_get}
use Rattle.std.specs.List.{Contains}
use Rattle.dai_model.specs.Formula.{Formula}
use Rattle.dai_model.specs.Protocol.{Protocol, Block, Action}
use Rattle.dai_model.specs.Structure.{Structure, IsStructure}
use Rattle.dai_model.specs.Value.{Satisfies, SatisfiesAxioms}
use Rattle.dai_model.specs.Reachable.{AreElements, IsInitial, IsStepOf}
use Rattle.dai_model.specs.Execution.{executes}
use Rattle.dai_model.specs.Clause.{Clause, Meets, MeetsEach}
use Rattle.dai_model.specs.Classes.{Class, Belongs}
use Rattle.dai_logic.specs.Protocols.{block_named}
use Rattle.dai_logic.specs.Tables.{structure_of, Fits}
use Rattle.dai_logic.specs.declared.structure.BlockId.TheVariants.{Init, Act}
use Rattle.dai_weaken.specs.declared.judge.Counterexample.{Counterexample}

-- every initial state of the class meets the clause
abbrev pub HoldsAtFirst : Class → Protocol → Clause → Type 0
HoldsAtFirst C P c = (s : Structure) → Belongs C s → IsInitial P s → Meets P s c

-- every step by the action, from a state of the class that meets the axioms and the premises, leads to one that meets
-- the clause
abbrev pub HoldsAfter : Class → Protocol → List Clause → Action → Clause → Type 0
HoldsAfter C P premises action c =
    (s t : Structure) → Belongs C s → IsStructure P s → SatisfiesAxioms P s → MeetsEach P s premises → IsStepOf P action.block s t → Meets P t c

-- every structure of the class that meets the axioms and the premises satisfies the formula
abbrev pub Follows : Class → Protocol → List Clause → Formula → Type 0
Follows C P premises f = (s : Structure) → Belongs C s → IsStructure P s → SatisfiesAxioms P s → MeetsEach P s premises → Satisfies s f

-- the block leads from the state before, which is of the class and meets the axioms, to the state after
pub record IsTransition (C : Class) (P : Protocol) (x : Counterexample) : Type 0 where
  pub block : Block
  pub named : block_named P x.block ≡ Some block
  pub before_fits : Fits P x.before
  pub after_fits : Fits P x.after
  pub of_the_class : Belongs C (structure_of P x.before)
  pub after_of_the_class : Belongs C (structure_of P x.after)
  pub init_alone : x.block ≡ Init → x.args.items ≡ []
  pub axioms : SatisfiesAxioms P (structure_of P x.before)
  pub given : AreElements (structure_of P x.before) block.parameters x.args.items
  pub chosen : AreElements (structure_of P x.before) block.choices x.choices.items
  pub leaves : executes P block (structure_of P x.before) x.args.items x.choices.items ≡ Some (structure_of P x.after)

-- a step of init whose state after doesn't meet the clause
pub record RefutesAtFirst (C : Class) (P : Protocol) (c : Clause) (x : Counterexample) : Type 0 where
  pub init : x.block ≡ Init
  pub transition : IsTransition C P x
  pub broken : Meets P (structure_of P x.after) c → ⊥

-- a step of the action of this number from a state that meets the premises, whose state after doesn't meet the clause
pub record RefutesAfter (C : Class) (P : Protocol) (premises : List Clause) (number : ℕ) (c : Clause) (x : Counterexample) : Type 0 where
  pub action : x.block ≡ Act number
  pub transition : IsTransition C P x
  pub premises_met : MeetsEach P (structure_of P x.before) premises
  pub broken : Meets P (structure_of P x.after) c → ⊥

abbrev pub AnswersAtFirst : Class → Protocol → Clause → Option Counterexample → Type 0
AnswersAtFirst C P c None = HoldsAtFirst C P c
AnswersAtFirst C P c (Some x) = RefutesAtFirst C P c x

abbrev pub AnswersAfter : Class → Protocol → List Clause → ℕ → Clause → Option Counterexample → Type 0
AnswersAfter C P premises number c None = (action : Action) → slice_get P.actions number ≡ Some action → HoldsAfter C P premises action c
AnswersAfter C P premises number c (Some x) = RefutesAfter C P premises number c x

-- the clause holds at first and after each action; or a transition refutes it, from a state that meets the premises
-- where it is by an action
pub record Holds (C : Class) (P : Protocol) (premises : List Clause) (c : Clause) : Type 0 where
  pub at_first : HoldsAtFirst C P c
  pub after : (action : Action) → Contains P.actions action → HoldsAfter C P premises action c

pub record Refutes (C : Class) (P : Protocol) (premises : List Clause) (c : Clause) (x : Counterexample) : Type 0 where
  pub transition : IsTransition C P x
  pub origin : (number : ℕ) → x.block ≡ Act number → MeetsEach P (structure_of P x.before) premises
  pub broken : Meets P (structure_of P x.after) c → ⊥

abbrev pub Answers : Class → Protocol → List Clause → Clause → Option Counterexample → Type 0
Answers C P premises c None = Holds C P premises c
Answers C P premises c (Some x) = Refutes C P premises c x
