-- A question as clauses, and what the assignments that meet them show.
use Rattle.std.specs.Prelude.{◌≡◌, ℕ, ◌<◌, Bool, true, List, Option, Some}
use Rattle.std.specs.List.{All}
use Rattle.dai_model.specs.Formula.{Formula}
use Rattle.dai_model.specs.Protocol.{Protocol, Block}
use Rattle.dai_model.specs.Value.{Satisfies}
use Rattle.dai_trail.specs.Formula as Clauses
use Rattle.dai_trail.specs.Formula.{value_at}
use Rattle.dai_logic.specs.Tables.{structure_of, Fits}
use Rattle.dai_picture.specs.Pictures.{IsFrame, IsPicture}
use Rattle.dai_picture.specs.Worlds.{World, IsWorld, ShowsWorld, Draws}
use Rattle.dai_picture.specs.Drawing.{AreBefore, AreInOrder}
use Rattle.dai_picture.specs.declared.draw.Drawing.{Drawing}
use Rattle.dai_ground.specs.declared.found.Found.{Found}
use Rattle.dai_ground.specs.declared.wide.Wide.{Wide}
use Rattle.dai_ground.specs.Asking.{Asks, Refutes, RefutesFrom, IsBroken, RestrictsTo, HasTruth, IsScene, parameters_asked, choices_asked, outcome_of}

-- a frame and a picture of all worlds of the block with such sizes
pub record IsDrawn (P : Protocol) (block : Option Block) (exact : Bool) (sizes : List ℕ) (clauses : Clauses.Formula) (d : Drawing) : Type 0 where
  pub slots_are : d.frame.slots.items ≡ sizes
  pub drawn : IsFrame P (parameters_asked block) (choices_asked block) clauses.vars d.frame
  pub pictured : IsPicture P sizes clauses.vars d.picture
  pub draws : Draws P (parameters_asked block) (choices_asked block) exact clauses d.frame d.picture
  pub before : AreBefore P (choices_asked block) d.start d.frame d.picture
  pub in_order : exact ≡ true → AreInOrder 0 d.start d.frame d.picture

-- Over such slots, each assignment that meets the clauses shows a world that refutes and whose structure meets the
-- formulas before, and each such world is shown.
pub record IsQuestion (P : Protocol) (block : Option Block) (exact : Bool) (slots : List ℕ) (before : List Formula) (broken : Option Formula) (q : Wide) : Type 0 where
  pub slots_are : q.frame.slots.items ≡ slots
  pub drawn : IsFrame P (parameters_asked block) (choices_asked block) q.cnf.vars q.frame
  pub pictured : IsPicture P slots q.cnf.vars q.picture
  pub asks : Asks P (parameters_asked block) (choices_asked block) exact (RefutesFrom P block before broken) (RefutesFrom P block before broken) q.cnf q.frame q.picture

-- the variables at the front decide what is shown
pub record IsDecided (P : Protocol) (block : Option Block) (q : Wide) : Type 0 where
  pub drawn : IsFrame P (parameters_asked block) (choices_asked block) q.bits q.frame
  pub pictured : IsPicture P q.frame.slots.items q.bits q.picture

-- two assignments have the same values at the variables at the front
abbrev pub AgreeInFront : Wide → List Bool → List Bool → Type 0
AgreeInFront q more bits = (var : ℕ) → var < q.bits → value_at more var ≡ value_at bits var

-- the world whose structure, arguments and choices were found
abbrev pub world_of : Protocol → Found → World
world_of P x = record { structure = structure_of P x.before; arguments = x.args.items; choices = x.choices.items }

-- the assignment shows what was found, with what the block leaves
pub record IsDecoded (P : Protocol) (block : Option Block) (q : Wide) (bits : List Bool) (x : Found) : Type 0 where
  pub before_fits : Fits P x.before
  pub after_fits : Fits P x.after
  pub shows : ShowsWorld P q.frame q.picture bits (world_of P x)
  pub leaves : outcome_of P block (world_of P x) ≡ Some (structure_of P x.after)

-- a world of the sizes whose structure meets the premises and which refutes
pub record IsAnswer (P : Protocol) (block : Option Block) (exact : Bool) (sizes : List ℕ) (premises : List Formula) (broken : Option Formula) (x : Found) : Type 0 where
  pub before_fits : Fits P x.before
  pub after_fits : Fits P x.after
  pub world : IsWorld P (parameters_asked block) (choices_asked block) exact sizes (world_of P x)
  pub premises_met : All (Satisfies (structure_of P x.before)) premises
  pub refutes : Refutes P block broken (world_of P x)
  pub leaves : outcome_of P block (world_of P x) ≡ Some (structure_of P x.after)
  pub is_broken : IsBroken broken (structure_of P x.after)

abbrev pub IsSceneOf : Protocol → Wide → Type 0
IsSceneOf P q = IsScene P q.frame q.picture q.cnf.vars

-- The same frame and picture, and clauses that what is shown gives the closed formula the value true: an assignment
-- that meets the new clauses meets the old ones and shows the same, and one that shows a structure in which the formula
-- is true can be completed.
pub record IsRefined (P : Protocol) (f : Formula) (old new : Wide) : Type 0 where
  pub bits : new.bits ≡ old.bits
  pub frame : new.frame ≡ old.frame
  pub picture : new.picture ≡ old.picture
  pub restricts : RestrictsTo P old.frame old.picture (HasTruth f true) old.cnf new.cnf
