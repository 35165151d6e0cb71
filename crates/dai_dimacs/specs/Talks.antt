-- A file with questions between its clauses, and what is answered.
use Rattle.std.specs.Prelude.{◌≡◌, ◌+◌, ◌^◌, ◌<◌, ◌++◌, ◌⊎◌, ℕ, List, [], ◌∷◌, codes, string_bytes, length}
use Rattle.std.specs.List.{All, filter}
use Rattle.dai_sat.specs.declared.answer.Outcome.{Outcome}
use Rattle.dai_sat.specs.declared.answer.Outcome.TheVariants.{Model, Unsat}
use Rattle.dai_trail.specs.declared.cnf.Lit.{Lit}
use Rattle.dai_trail.specs.Formula.{Formula, formula_of}
use Rattle.dai_sat.specs.Under.{IsOutcomeOf}
use Rattle.dai_dimacs.specs.declared.ask.Talk.{Talk}
use Rattle.dai_dimacs.specs.declared.ask.Talk.TheVariants as talk
use Rattle.dai_dimacs.specs.Pieces.{words}
use Rattle.dai_dimacs.specs.Files.{is_content, IsHeader}
use Rattle.dai_dimacs.specs.Drafts.{AreWordsOf}
use Rattle.dai_dimacs.specs.Reports.{value_word, value_words}

-- the words are those of one clause
abbrev pub IsClauseOf : ℕ → List (List ℕ) → List Lit → Type 0
IsClauseOf vars ws lits = AreWordsOf vars 1 (lits ∷ []) ws

-- the line has a clause of its own
pub record IsClauseLine (vars : ℕ) (line : List ℕ) (lits : List Lit) : Type 0 where
  pub clause : IsClauseOf vars (words line) lits

-- the line asks for a model that meets these literals: they stand behind `a`, as a clause does
pub record IsQuestionLine (vars : ℕ) (line : List ℕ) (lits : List Lit) : Type 0 where
  pub rest : List (List ℕ)
  pub asks : words line ≡ codes "a" ∷ rest
  pub clause : IsClauseOf vars rest lits

-- the line has a clause or a question
abbrev pub IsEntry : ℕ → List ℕ → Type 0
IsEntry vars line = ((lits : List Lit) × IsClauseLine vars line lits) ⊎ ((lits : List Lit) × IsQuestionLine vars line lits)

-- the words of literals
abbrev pub lit_words : List Lit → List ℕ
lit_words [] = []
lit_words (l ∷ ls) = value_word (l.var + 1) l.positive ++ lit_words ls

-- the lines of an outcome: those of a model, or the assumptions that fail
abbrev pub outcome_lines : Outcome → List ℕ
outcome_lines (Model bits) = codes "s SATISFIABLE\nv" ++ (value_words 1 bits.items ++ codes " 0\n")
outcome_lines (Unsat names) = codes "s UNSATISFIABLE\nf" ++ (lit_words names.items ++ codes " 0\n")

-- the numbers of the literals that an outcome names fit
abbrev pub AreNamable : Outcome → Type 0
AreNamable (Model bits) = Unit {0}
AreNamable (Unsat names) = All (λ l. l.var + 1 < 2 ^ 64) names.items

-- the line adds its clause, and nothing is said
pub record AddsClause (old new : Formula) (line said : List ℕ) : Type 0 where
  pub lits : List Lit
  pub says : IsClauseLine old.vars line lits
  pub grown : new ≡ formula_of old.vars (old.clauses ++ lits ∷ [])
  pub silent : said ≡ []

-- the line asks a question, and what is said is an outcome that is right for the formula so far
pub record AsksQuestion (old new : Formula) (line said : List ℕ) : Type 0 where
  pub lits : List Lit
  pub asks : IsQuestionLine old.vars line lits
  pub outcome : Outcome
  pub is_right : IsOutcomeOf old lits outcome
  pub same : new ≡ old
  pub answer : said ≡ outcome_lines outcome

-- what is said to the lines behind the header, one after another, where the clauses of the first formula grow to
-- those of the second
abbrev pub AreAnswered : Formula → List (List ℕ) → Formula → List ℕ → Type 0
AreAnswered old [] new said = (new ≡ old) × (said ≡ [])
AreAnswered old (line ∷ body) new said =
    (next : Formula) × (first : List ℕ) × (more : List ℕ) × (AddsClause old next line first ⊎ AsksQuestion old next line first) × AreAnswered next body new more × (said ≡ first ++ more)

-- the contents begin with the header, where there are any, and each other one is a clause or a question
abbrev pub AreEntries : List (List ℕ) → Type 0
AreEntries [] = Unit {0}
AreEntries (header ∷ body) = (vars : ℕ) × (count : ℕ) × IsHeader header vars count × All (IsEntry vars) body

-- all questions of the lines are answered
pub record IsTalkOf (text : List (List ℕ)) (said : List ℕ) : Type 0 where
  pub header : List ℕ
  pub body : List (List ℕ)
  pub contents : filter is_content text ≡ header ∷ body
  pub vars : ℕ
  pub count : ℕ
  pub heads : IsHeader header vars count
  pub formula : Formula
  pub answers : AreAnswered (formula_of vars []) body formula said

-- the line of this number is the first that is neither the header, where that is wanted, nor a clause nor a question,
-- or the last one where there is no header
pub record IsTalkWrongAt (text : List (List ℕ)) (number : ℕ) : Type 0 where
  pub front : List (List ℕ)
  pub line : List ℕ
  pub rest : List (List ℕ)
  pub splits : text ≡ front ++ (line ∷ rest)
  pub counted : number ≡ length front + 1
  pub begins : AreEntries (filter is_content front)
  pub wrong : (AreEntries (filter is_content (front ++ line ∷ [])) → ⊥) ⊎ ((rest ≡ []) × (filter is_content text ≡ []))

-- all questions are answered, or the line of this number is wrong
abbrev pub IsTalkRight : List (List ℕ) → Talk → Type 0
IsTalkRight text (talk.Answers said) = IsTalkOf text (string_bytes said)
IsTalkRight text (talk.Malformed number) = IsTalkWrongAt text number
