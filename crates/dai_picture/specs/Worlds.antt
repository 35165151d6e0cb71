-- A structure with arguments and choices for a block, and what a picture in a frame shows of these.
use Rattle.std.specs.Prelude.{◌≡◌, ℕ, ◌≤◌, Bool, true, false, List, IsTrue}
use Rattle.std.specs.List.{AllZip}
use Rattle.dai_model.specs.Protocol.{Protocol}
use Rattle.dai_model.specs.Structure.{Structure, IsStructure, is_tuple}
use Rattle.dai_trail.specs.Formula.{Formula, AreMetBy}
use Rattle.dai_picture.specs.declared.picture.Frame.{Frame}
use Rattle.dai_picture.specs.declared.picture.Picture.{Picture}
use Rattle.dai_picture.specs.Pictures.{Shows, Names}

pub record World : Type 0 where
  pub structure : Structure
  pub arguments : List ℕ
  pub choices : List ℕ

-- all slots are used, or so many at the front
abbrev pub AreSizesWithin : Bool → List ℕ → List ℕ → Type 0
AreSizesWithin true slots sizes = sizes ≡ slots
AreSizesWithin false slots sizes = AllZip (λ size most. size ≤ most) sizes slots

pub record IsWorld (P : Protocol) (parameters choices : List ℕ) (exact : Bool) (slots : List ℕ) (w : World) : Type 0 where
  pub structure : IsStructure P w.structure
  pub sizes : AreSizesWithin exact slots w.structure.sizes
  pub given : IsTrue (is_tuple w.structure.sizes parameters w.arguments)
  pub chosen : IsTrue (is_tuple w.structure.sizes choices w.choices)

pub record ShowsWorld (P : Protocol) (frame : Frame) (picture : Picture) (bits : List Bool) (w : World) : Type 0 where
  pub structure : Shows P frame picture bits w.structure
  pub names : Names frame bits w.arguments w.choices

-- each assignment that meets the clauses shows a world, and each world is shown by one
pub record Draws (P : Protocol) (parameters choices : List ℕ) (exact : Bool) (formula : Formula) (frame : Frame) (picture : Picture) : Type 0 where
  pub shows : (bits : List Bool) → AreMetBy formula bits → (w : World) × IsWorld P parameters choices exact frame.slots.items w × ShowsWorld P frame picture bits w
  pub each : (w : World) → IsWorld P parameters choices exact frame.slots.items w → (bits : List Bool) × AreMetBy formula bits × ShowsWorld P frame picture bits w
