use Rattle.std.proofs.Common.{◌≡◌, ◌+◌, ◌≤◌, ℕ, List, ◌++◌, string_bytes, length}
use Rattle.dai_dimacs.specs.Pieces.{lines}
use Rattle.dai_dimacs.specs.Inquiries.{AreTold}
use Rattle.dai_dimacs.proofs.ask.answer_all.Given as goal

-- the lines so far are answered
abbrev pub invariant-loop-solver : goal.invariant-loop-solver
invariant-loop-solver l = record {
  seen : List (List ℕ);
  splits : lines l.bytes ≡ seen ++ lines l.text;
  counted : l.count ≡ length seen;
  room : l.count + length l.text ≤ length l.bytes;
  told : AreTold seen l.solver (string_bytes l.said);
}

abbrev pub decreases-loop-solver : goal.decreases-loop-solver
decreases-loop-solver l = length l.text
