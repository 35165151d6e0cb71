-- Answers to questions with premises, over all sizes up to given ones.
use Rattle.std.specs.Prelude.{ℕ, ◌<◌, false, List, length, Option, Some, slice_get}
use Rattle.std.specs.List.{All, filter_map}
use Rattle.dai_model.specs.Formula.{Formula}
use Rattle.dai_model.specs.Protocol.{Protocol, Block}
use Rattle.dai_model.specs.Value.{Satisfies}
use Rattle.dai_picture.specs.Worlds.{World, IsWorld}
use Rattle.dai_ground.specs.declared.found.Found.{Found}
use Rattle.dai_ground.specs.declared.found.Answer.{Answer}
use Rattle.dai_ground.specs.declared.found.Answer.TheVariants.{Holds, Broken}
use Rattle.dai_ground.specs.Asking.{Refutes, parameters_asked, choices_asked}
use Rattle.dai_ground.specs.Questions.{IsAnswer}

-- a world within the sizes whose structure meets the premises and which refutes
abbrev pub IsFound : Protocol → Option Block → List Formula → Formula → List ℕ → Found → Type 0
IsFound P block premises f sizes x = IsAnswer P block false sizes premises (Some f) x

-- no world within the sizes whose structure meets the premises refutes
abbrev pub NoneRefutes : Protocol → Option Block → List Formula → Formula → List ℕ → Type 0
NoneRefutes P block premises f sizes = (w : World) → IsWorld P (parameters_asked block) (choices_asked block) false sizes w → All (Satisfies w.structure) premises → Refutes P block (Some f) w → ⊥

-- the formulas at these places
abbrev pub picked : List Formula → List ℕ → List Formula
picked premises numbers = filter_map (slice_get premises) numbers

abbrev pub IsAnswerTo : Protocol → Option Block → List Formula → Formula → List ℕ → Answer → Type 0
IsAnswerTo P block premises f sizes (Holds used) = All (λ k. k < length premises) used.items × NoneRefutes P block (picked premises used.items) f sizes
IsAnswerTo P block premises f sizes (Broken x) = IsFound P block premises f sizes x
