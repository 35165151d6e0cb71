-- Bits of closed formulas, and of clauses, in what a picture shows.
use Rattle.std.specs.Prelude.{◌≡◌, ◌<◌, Bool, List, length, slice_get, Some}
use Rattle.std.specs.List.{All}
use Rattle.dai_model.specs.Formula as Model
use Rattle.dai_model.specs.Protocol.{Protocol}
use Rattle.dai_model.specs.Structure.{Structure}
use Rattle.dai_model.specs.Value.{value_of, empty_environment}
use Rattle.dai_trail.specs.Formula.{Formula, AreMetBy}
use Rattle.dai_circuit.specs.declared.bit.Bit.{Bit}
use Rattle.dai_circuit.specs.Circuits.{IsBitBelow, bit_value}
use Rattle.dai_picture.specs.declared.picture.Frame.{Frame}
use Rattle.dai_picture.specs.declared.picture.Picture.{Picture}
use Rattle.dai_picture.specs.Pictures.{Shows}
use Rattle.dai_template.specs.ClauseFormulas.{formula_of_clause}
use Rattle.dai_inquiry.specs.Keys.{clause_in}
use Rattle.dai_inquiry.specs.declared.truths.Truth.{Truth}
use Rattle.dai_inquiry.specs.declared.truths.Pick.{Pick}

-- a bit that has the closed formula's value in what the picture shows
pub record IsTruth (P : Protocol) (frame : Frame) (picture : Picture) (f : Model.Formula) (clauses : Formula) (bit : Bit) : Type 0 where
  pub below : IsBitBelow clauses.vars bit
  pub same : (bits : List Bool) (s : Structure) → AreMetBy clauses bits → Shows P frame picture bits s → bit_value bits bit ≡ value_of s empty_environment f

-- each bit is its clause's
abbrev pub AreTruths : Protocol → Frame → Picture → Formula → List Truth → Type 0
AreTruths P frame picture clauses truths = All (λ (t : Truth). IsTruth P frame picture (formula_of_clause P (clause_in t.key)) clauses t.bit) truths

-- one of the premises by its number, and its bit
pub record IsPick (P : Protocol) (frame : Frame) (picture : Picture) (premises : List Model.Formula) (clauses : Formula) (pick : Pick) : Type 0 where
  pub inside : pick.number < length premises
  pub truth : (f : Model.Formula) → slice_get premises pick.number ≡ Some f → IsTruth P frame picture f clauses pick.bit
