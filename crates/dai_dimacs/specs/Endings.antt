use Rattle.std.specs.Prelude.{ℕ, List}
use Rattle.dai_dimacs.specs.declared.Ending.{Ending}
use Rattle.dai_dimacs.specs.declared.Ending.TheVariants as ending
use Rattle.dai_dimacs.specs.declared.Mode.{Mode}
use Rattle.dai_dimacs.specs.declared.Mode.TheVariants.{Least, Any, Ask}
use Rattle.dai_dimacs.specs.Judgements.{IsRight}
use Rattle.dai_dimacs.specs.Reports.{IsLeastAnswerTo, IsAnyAnswerTo}
use Rattle.dai_dimacs.specs.Talks.{IsTalkRight}

-- what the words asked for is answered
abbrev pub IsEndingOf : Mode → List (List ℕ) → Ending → Type 0
IsEndingOf Least text (ending.Verdict verdict) = IsRight IsLeastAnswerTo text verdict
IsEndingOf Any text (ending.Verdict verdict) = IsRight IsAnyAnswerTo text verdict
IsEndingOf Ask text (ending.Talk talk) = IsTalkRight text talk
IsEndingOf Least text (ending.Talk talk) = ⊥
IsEndingOf Any text (ending.Talk talk) = ⊥
IsEndingOf Ask text (ending.Verdict verdict) = ⊥
