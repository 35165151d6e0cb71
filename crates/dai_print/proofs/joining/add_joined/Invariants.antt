-- the pieces so far, joined, and what stands before the next one
use Rattle.std.proofs.Common.{◌≡◌, ◌++◌, take}
use Rattle.dai_model.specs.Report.{joined}
use Rattle.dai_template.specs.Atoms.{lists_of}
use Rattle.dai_print.proofs.Pieces.{gap_after}
use Rattle.dai_print.proofs.joining.add_joined.Given as goal

abbrev pub invariant-loop-piece : goal.invariant-loop-piece
invariant-loop-piece l = record {
  text : l.text.items ≡ l.initial.text.items ++ joined l.between (take l.piece-index (lists_of l.pieces));
  gap : l.gap ≡ gap_after l.between (take l.piece-index (lists_of l.pieces));
}
