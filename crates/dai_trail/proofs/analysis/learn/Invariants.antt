use Rattle.dai_trail.proofs.Gathers.{Gathered}
use Rattle.dai_trail.proofs.analysis.learn.Given as goal

abbrev pub invariant-loop-code : goal.invariant-loop-code
invariant-loop-code l = Gathered l.marks l.learned.items l.last l.code-index
