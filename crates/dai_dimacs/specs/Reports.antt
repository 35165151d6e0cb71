use Rattle.std.specs.Prelude.{◌≡◌, ◌+◌, ◌++◌, ℕ, Bool, true, false, List, [], ◌∷◌, codes, string_bytes}
use Rattle.std.specs.Fmt.{decimal}
use Rattle.dai_sat.specs.declared.answer.Answer.{Answer}
use Rattle.dai_sat.specs.declared.answer.Answer.TheVariants.{Model, Unsat}
use Rattle.dai_trail.specs.Formula.{Formula, IsModelOf, IsUnsatisfiable}
use Rattle.dai_sat.specs.Answers.{IsAnswerTo}
use Rattle.dai_dimacs.specs.declared.report.Report.{Report}

-- the word of a variable's value: the variable's number, behind a minus where it is false
abbrev pub value_word : ℕ → Bool → List ℕ
value_word number true = codes " " ++ decimal number
value_word number false = codes " -" ++ decimal number

-- the words of the values of all variables from a number on
abbrev pub value_words : ℕ → List Bool → List ℕ
value_words number [] = []
value_words number (bit ∷ bits) = value_word number bit ++ value_words (number + 1) bits

-- the lines of an answer; the first variable has the number 1
abbrev pub answer_lines : Answer → List ℕ
answer_lines (Model bits) = codes "s SATISFIABLE\nv" ++ (value_words 1 bits.items ++ codes " 0\n")
answer_lines Unsat = codes "s UNSATISFIABLE\n"

-- the comment with a count
abbrev pub count_line : ℕ → List ℕ
count_line count = codes "c propagations " ++ (decimal count ++ codes "\n")

-- the status of an answer
abbrev pub status_of : Answer → ℕ
status_of (Model bits) = 10
status_of Unsat = 20

-- the text and the status are those of an answer, behind a comment
pub record IsReportOf (answer : Answer) (report : Report) : Type 0 where
  pub count : ℕ
  pub text : string_bytes report.text ≡ count_line count ++ answer_lines answer
  pub status : report.status ≡ status_of answer

-- the least model, where false counts as less, or none where there is none
abbrev pub IsLeastAnswerTo : Formula → Answer → Type 0
IsLeastAnswerTo formula answer = IsAnswerTo formula (λ var value. value ≡ false) answer

-- any model, or none where there is none
abbrev pub IsAnyAnswerTo : Formula → Answer → Type 0
IsAnyAnswerTo formula (Model bits) = IsModelOf formula bits.items
IsAnyAnswerTo formula Unsat = IsUnsatisfiable formula

-- the report is that of an answer that is right for the formula
pub record IsReportOn (right : Formula → Answer → Type 0) (formula : Formula) (report : Report) : Type 0 where
  pub answer : Answer
  pub is_right : right formula answer
  pub reports : IsReportOf answer report
