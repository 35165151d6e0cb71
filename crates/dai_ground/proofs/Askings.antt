-- Asking more and more of the worlds that are shown.
use Rattle.std.proofs.Common.{ℕ, Bool, List}
use Rattle.dai_model.specs.Protocol.{Protocol}
use Rattle.dai_model.specs.Structure.{Structure}
use Rattle.dai_trail.specs.Formula.{Formula, AreMetBy}
use Rattle.dai_circuit.specs.Circuits.{Extends}
use Rattle.dai_picture.specs.declared.picture.Frame.{Frame}
use Rattle.dai_picture.specs.declared.picture.Picture.{Picture}
use Rattle.dai_picture.specs.Pictures.{IsFrame, IsPicture}
use Rattle.dai_picture.specs.Worlds.{World, IsWorld, ShowsWorld, Draws}
use Rattle.dai_picture.proofs.SameWorld.{world_kept}
use Rattle.dai_ground.specs.Asking.{Asks, Restricts, RestrictsTo}

pub asks_drawn : (P : Protocol) (parameters choices : List ℕ) (exact : Bool) (f : Formula) (frame : Frame) (picture : Picture) → Draws P parameters choices exact f frame picture → Asks P parameters choices exact (λ w. Unit {0}) (λ w. Unit {0}) f frame picture
asks_drawn P parameters choices exact f frame picture d = record {
  shows = λ bits met. let w = d.shows bits met in (w.0, w.1, w.2, tt);
  each = λ w is u. d.each w is;
}

pub asks_extended : (P : Protocol) (parameters choices : List ℕ) (exact : Bool) (Shown Each : World → Type 0) (a b : Formula) (frame : Frame) (picture : Picture) → IsFrame P parameters choices a.vars frame → IsPicture P frame.slots.items a.vars picture → Extends a b → Asks P parameters choices exact Shown Each a frame picture → Asks P parameters choices exact Shown Each b frame picture
asks_extended P parameters choices exact Shown Each a b frame picture drawn pictured e q = record {
  shows = λ bits met. q.shows bits (e.keeps bits met);
  each = λ w is r.
      let one = q.each w is r in
      let two = e.completes one.0 one.1 in
      (two.0, two.1, world_kept P parameters choices a.vars frame picture one.0 two.0 w drawn pictured two.2 one.2);
}

-- where a condition comes to be asked
pub asks_restricted : (P : Protocol) (parameters choices : List ℕ) (exact : Bool) (Shown Each More Other : World → Type 0) (Holds Given : List Bool → Type 0) (a b : Formula) (frame : Frame) (picture : Picture) → IsFrame P parameters choices a.vars frame → IsPicture P frame.slots.items a.vars picture → Restricts Holds Given a b → ((bits : List Bool) (w : World) → AreMetBy a bits → IsWorld P parameters choices exact frame.slots.items w → ShowsWorld P frame picture bits w → Holds bits → More w) → ((bits : List Bool) (w : World) → AreMetBy a bits → IsWorld P parameters choices exact frame.slots.items w → ShowsWorld P frame picture bits w → Other w → Given bits) → Asks P parameters choices exact Shown Each a frame picture → Asks P parameters choices exact (λ w. Shown w × More w) (λ w. Each w × Other w) b frame picture
asks_restricted P parameters choices exact Shown Each More Other Holds Given a b frame picture drawn pictured r more given q = record {
  shows = λ bits met.
      let before = r.keeps bits met in
      let w = q.shows bits before in
      (w.0, w.1, w.2, (w.3, more bits w.0 before w.1 w.2 (r.holds bits met)));
  each = λ w is both.
      let one = q.each w is both.0 in
      let two = r.completes one.0 one.1 (given one.0 w one.1 is one.2 both.1) in
      (two.0, two.1, world_kept P parameters choices a.vars frame picture one.0 two.0 w drawn pictured two.2 one.2);
}

pub asks_as : (P : Protocol) (parameters choices : List ℕ) (exact : Bool) (Shown Each More Other : World → Type 0) (a : Formula) (frame : Frame) (picture : Picture) → ((w : World) → IsWorld P parameters choices exact frame.slots.items w → Shown w → More w) → ((w : World) → IsWorld P parameters choices exact frame.slots.items w → Other w → Each w) → Asks P parameters choices exact Shown Each a frame picture → Asks P parameters choices exact More Other a frame picture
asks_as P parameters choices exact Shown Each More Other a frame picture to from q = record {
  shows = λ bits met. let w = q.shows bits met in (w.0, w.1, w.2, to w.0 w.1 w.3);
  each = λ w is r. q.each w is (from w is r);
}

-- a property of the structure that is shown
pub asks_structure : (P : Protocol) (parameters choices : List ℕ) (exact : Bool) (Shown Each : World → Type 0) (Is : Structure → Type 0) (a b : Formula) (frame : Frame) (picture : Picture) → IsFrame P parameters choices a.vars frame → IsPicture P frame.slots.items a.vars picture → RestrictsTo P frame picture Is a b → Asks P parameters choices exact Shown Each a frame picture → Asks P parameters choices exact (λ w. Shown w × Is w.structure) (λ w. Each w × Is w.structure) b frame picture
asks_structure P parameters choices exact Shown Each Is a b frame picture drawn pictured r q =
    asks_restricted P parameters choices exact Shown Each (λ w. Is w.structure) (λ w. Is w.structure) _ _ a b frame picture drawn pictured r
    (λ bits w met is shows holds. holds w.structure shows.structure)
    (λ bits w met is shows other. (w.structure, shows.structure, other))
    q
