-- One question of an inquiry: a goal that is to be false in what the block leaves, and premises that are to be met.
use Rattle.std.specs.Prelude.{◌≡◌, ℕ, ◌+◌, ◌<◌, Bool, true, List, ◌∷◌, map, length, slice_get, Option, Some}
use Rattle.std.specs.List.{All, Contains}
use Rattle.dai_model.specs.Formula as Model
use Rattle.dai_model.specs.Protocol.{Protocol, Block}
use Rattle.dai_trail.specs.Formula.{Formula}
use Rattle.dai_circuit.specs.declared.bit.Bit.{Bit}
use Rattle.dai_circuit.specs.Circuits.{negation_of}
use Rattle.dai_ground.specs.Answers.{IsFound, NoneRefutes, picked}
use Rattle.dai_inquiry.specs.declared.inquiry.Pictures.{Pictures}
use Rattle.dai_inquiry.specs.declared.asked.Asked.{Asked}
use Rattle.dai_inquiry.specs.declared.asking.Turn.{Turn}
use Rattle.dai_inquiry.specs.declared.asking.Turn.TheVariants.{Done, Shown, Again}
use Rattle.dai_inquiry.specs.declared.truths.Pick.{Pick}
use Rattle.dai_inquiry.specs.Truths.{IsTruth, IsPick}

-- the bits that are to be true
abbrev pub parts_of : Asked → List Bit
parts_of a = negation_of a.goal ∷ map (λ (pick : Pick). pick.bit) a.premises.items

-- the goal's bit in the picture after the step, and those of premises in the picture before
pub record AreAsked (P : Protocol) (p : Pictures) (premises : List Model.Formula) (f : Model.Formula) (clauses : Formula) (a : Asked) : Type 0 where
  pub goal : IsTruth P p.frame p.after f clauses a.goal
  pub each : All (IsPick P p.frame p.before premises clauses) a.premises.items

-- the premise at this place is among the numbers if it is in the core
abbrev pub IsCovered : List Pick → List Bool → List ℕ → ℕ → Type 0
IsCovered picks core numbers place = (pick : Pick) → slice_get picks place ≡ Some pick → slice_get core (place + 1) ≡ Some true → Contains numbers pick.number

-- no structure that meets the premises of these numbers leads to one in which the formula is false; or something that does; or
-- the number of a premise that has to be asked for
abbrev pub IsTurn : Protocol → Option Block → List Model.Formula → Model.Formula → List ℕ → Turn → Type 0
IsTurn P called premises f sizes (Done numbers) = All (λ k. k < length premises) numbers.items × NoneRefutes P called (picked premises numbers.items) f sizes
IsTurn P called premises f sizes (Shown x) = IsFound P called premises f sizes x
IsTurn P called premises f sizes (Again number) = number < length premises
