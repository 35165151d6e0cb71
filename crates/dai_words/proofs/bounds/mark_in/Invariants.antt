use Rattle.dai_words.proofs.Parts.{Lacks}
use Rattle.dai_words.proofs.bounds.mark_in.Given as goal

-- the bytes so far are no marks
abbrev pub invariant-loop-at : goal.invariant-loop-at
invariant-loop-at l = Lacks 61 l.part l.at
