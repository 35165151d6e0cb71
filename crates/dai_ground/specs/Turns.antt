-- One turn of a question: a model, what it shows, and a premise that this doesn't meet.
use Rattle.std.specs.Prelude.{◌≡◌, ℕ, ◌<◌, Bool, false, List, [], ◌∷◌, ◌++◌, length, Option, None, Some, IsTrue, Vec}
use Rattle.std.specs.declared.alloc.Global.{Global}
use Rattle.std.specs.List.{All}
use Rattle.dai_model.specs.Formula.{Formula}
use Rattle.dai_model.specs.Protocol.{Protocol, Block}
use Rattle.dai_model.specs.Structure.{Structure, is_tuple}
use Rattle.dai_model.specs.Value.{Satisfies}
use Rattle.dai_trail.specs.Formula as Clauses
use Rattle.dai_trail.specs.Formula.{IsModelOf, IsUnsatisfiable}
use Rattle.dai_logic.specs.declared.structure.BlockId.{BlockId}
use Rattle.dai_logic.specs.Tables.{structure_of, Fits}
use Rattle.dai_picture.specs.declared.decode.Decoded.{Decoded}
use Rattle.dai_picture.specs.Worlds.{World}
use Rattle.dai_ground.specs.Asking.{block_asked, parameters_asked, choices_asked, outcome_of}
use Rattle.dai_ground.specs.declared.found.Found.{Found}
use Rattle.dai_ground.specs.declared.wide.Wide.{Wide}
use Rattle.dai_ground.specs.declared.asking.Turn.{Turn}
use Rattle.dai_ground.specs.declared.asking.Turn.TheVariants.{Done, Shown, Again}
use Rattle.dai_ground.specs.Answers.{NoneRefutes, IsFound, picked}
use Rattle.dai_ground.specs.Questions.{IsQuestion}

-- an assignment that meets the clauses, or none where there is none
abbrev pub IsSolution : Clauses.Formula → Option (Vec Bool Global) → Type 0
IsSolution clauses None = IsUnsatisfiable clauses
IsSolution clauses (Some model) = IsModelOf clauses model.items

-- all formulas are true, or the number of one of them
abbrev pub IsFirstUnmet : Structure → List Formula → Option ℕ → Type 0
IsFirstUnmet s fs None = All (Satisfies s) fs
IsFirstUnmet s fs (Some number) = number < length fs

abbrev pub world_decoded : Protocol → Decoded → World
world_decoded P d = record { structure = structure_of P d.structure; arguments = d.args.items; choices = d.choices.items }

-- arguments and choices with which the block leaves a structure
pub record IsCaller (P : Protocol) (block : Option BlockId) (d : Decoded) : Type 0 where
  pub after : Structure
  pub leaves : outcome_of P (block_asked P block) (world_decoded P d) ≡ Some after
  pub given : IsTrue (is_tuple d.structure.sizes.items (parameters_asked (block_asked P block)) d.args.items)
  pub chosen : IsTrue (is_tuple d.structure.sizes.items (choices_asked (block_asked P block)) d.choices.items)

-- the decoded structure, arguments and choices, with what the block leaves
pub record IsFoundFrom (P : Protocol) (asked : Option Block) (d : Decoded) (x : Found) : Type 0 where
  pub before : x.before ≡ d.structure
  pub args : x.args.items ≡ d.args.items
  pub choices : x.choices.items ≡ d.choices.items
  pub after_fits : Fits P x.after
  pub leaves : outcome_of P asked (world_decoded P d) ≡ Some (structure_of P x.after)

-- what is left of the question: worlds that refute and that meet the premises which were used
abbrev pub IsOpenQuestion : Protocol → Option Block → List Formula → Formula → List ℕ → Wide → Type 0
IsOpenQuestion P asked used f sizes q = IsQuestion P asked false sizes used (Some f) q

-- nothing is found with what was used; or something that meets all premises; or one more is used
abbrev pub IsTurn : Protocol → Option Block → List Formula → List Formula → Formula → List ℕ → Turn → Type 0
IsTurn P asked premises used f sizes Done = NoneRefutes P asked used f sizes
IsTurn P asked premises used f sizes (Shown x) = IsFound P asked premises f sizes x
IsTurn P asked premises used f sizes (Again number q) = (number < length premises) × IsOpenQuestion P asked (used ++ picked premises (number ∷ [])) f sizes q
