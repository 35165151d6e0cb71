use Rattle.std.specs.Prelude.{ℕ, List}
use Rattle.dai_sat.specs.declared.answer.Answer.{Answer}
use Rattle.dai_trail.specs.Formula.{Formula}
use Rattle.dai_dimacs.specs.declared.judge.Verdict.{Verdict}
use Rattle.dai_dimacs.specs.declared.judge.Verdict.TheVariants.{Judged, Malformed}
use Rattle.dai_dimacs.specs.Files.{IsTextOf, IsWrongAt}
use Rattle.dai_dimacs.specs.Reports.{IsReportOn}

-- the report is right for the formula of the lines, or the line of this number is wrong
abbrev pub IsRight : (Formula → Answer → Type 0) → List (List ℕ) → Verdict → Type 0
IsRight right text (Judged j) = IsTextOf j.cnf text × IsReportOn right j.cnf j.report
IsRight right text (Malformed number) = IsWrongAt text number
