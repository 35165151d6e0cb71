-- the bits of the premises so far
use Rattle.std.proofs.Common.{◌≡◌, List, map}
use Rattle.std.specs.List.{All}
use Rattle.dai_model.specs.Formula as Model
use Rattle.dai_model.specs.Protocol.{Protocol}
use Rattle.dai_trail.specs.Formula.{Formula}
use Rattle.dai_picture.specs.declared.picture.Frame.{Frame}
use Rattle.dai_picture.specs.declared.picture.Picture.{Picture}
use Rattle.dai_template.specs.ClauseFormulas.{formula_of_clause}
use Rattle.dai_inquiry.specs.Keys.{clauses_in}
use Rattle.dai_inquiry.specs.Truths.{AreTruths, IsPick}
use Rattle.dai_inquiry.proofs.truths.Truths.known.Given as goal

abbrev pub invariant-loop-number : goal.invariant-loop-number
invariant-loop-number l = (P : Protocol) (frame : Frame) (picture : Picture) (clauses : Formula) (premises : List Model.Formula) → AreTruths P frame picture clauses l.self.kept.items → premises ≡ map (formula_of_clause P) (clauses_in l.keys) → All (IsPick P frame picture premises clauses) l.picks.items
