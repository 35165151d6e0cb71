-- What is known while the questions of a file are answered.
use Rattle.std.specs.Prelude.{◌≡◌, ◌++◌, ◌⊎◌, ℕ, Bool, true, false, List, [], ◌∷◌, Option, Some, None}
use Rattle.std.specs.List.{filter}
use Rattle.dai_sat.specs.declared.answer.Outcome.{Outcome}
use Rattle.dai_trail.specs.declared.cnf.Lit.{Lit}
use Rattle.dai_trail.specs.Formula.{Formula, formula_of}
use Rattle.dai_sat.specs.Under.{IsOutcomeOf}
use Rattle.dai_dimacs.specs.Files.{is_content, IsHeader}
use Rattle.dai_dimacs.specs.Talks.{IsClauseOf, IsEntry, outcome_lines, AddsClause, AsksQuestion, AreAnswered, AreEntries}

-- the words of a clause are added
pub record IsAdded (old new : Formula) (ws : List (List ℕ)) : Type 0 where
  pub lits : List Lit
  pub clause : IsClauseOf old.vars ws lits
  pub grown : new ≡ formula_of old.vars (old.clauses ++ lits ∷ [])

-- the words of a question are answered
pub record IsAsked (old new : Formula) (ws : List (List ℕ)) (before after : List ℕ) : Type 0 where
  pub lits : List Lit
  pub clause : IsClauseOf old.vars ws lits
  pub outcome : Outcome
  pub is_right : IsOutcomeOf old lits outcome
  pub same : new ≡ old
  pub told : after ≡ before ++ outcome_lines outcome

-- the words are those of no clause
abbrev pub AreNoClause : ℕ → List (List ℕ) → Type 0
AreNoClause vars ws = (lits : List Lit) → IsClauseOf vars ws lits → ⊥

abbrev pub TakesClause : List (List ℕ) → Formula → Formula → Bool → Type 0
TakesClause ws old new true = IsAdded old new ws
TakesClause ws old new false = AreNoClause old.vars ws

abbrev pub TakesQuestion : List (List ℕ) → Formula → Formula → List ℕ → List ℕ → Bool → Type 0
TakesQuestion ws old new before after true = IsAsked old new ws before after
TakesQuestion ws old new before after false = AreNoClause old.vars ws

-- what is said to a line
pub record IsAnswered (old new : Formula) (line before after : List ℕ) : Type 0 where
  pub said : List ℕ
  pub step : AddsClause old new line said ⊎ AsksQuestion old new line said
  pub told : after ≡ before ++ said
  pub vars : new.vars ≡ old.vars

-- the line is answered, or it has neither a clause nor a question
abbrev pub TakesEntry : List ℕ → Formula → Formula → List ℕ → List ℕ → Bool → Type 0
TakesEntry line old new before after true = IsAnswered old new line before after
TakesEntry line old new before after false = IsEntry old.vars line → ⊥

-- the header and the lines behind it are answered
pub record AreAnsweredBy (text : List (List ℕ)) (formula : Formula) (said : List ℕ) : Type 0 where
  pub header : List ℕ
  pub body : List (List ℕ)
  pub contents : filter is_content text ≡ header ∷ body
  pub count : ℕ
  pub heads : IsHeader header formula.vars count
  pub answers : AreAnswered (formula_of formula.vars []) body formula said

-- nothing was read of these lines yet, or they are answered
abbrev pub AreTold : List (List ℕ) → Option Formula → List ℕ → Type 0
AreTold text None said = (filter is_content text ≡ []) × (said ≡ [])
AreTold text (Some formula) said = AreAnsweredBy text formula said

-- one more line is answered, or it is wrong
abbrev pub TakesTalkLine : List ℕ → Option Formula → Option Formula → List ℕ → List ℕ → Bool → Type 0
TakesTalkLine line old new before after true = (text : List (List ℕ)) → AreTold text old before → AreTold (text ++ line ∷ []) new after
TakesTalkLine line old new before after false = (text : List (List ℕ)) → AreTold text old before → AreEntries (filter is_content (text ++ line ∷ [])) → ⊥
