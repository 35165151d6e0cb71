-- What is known of a formula while it is being read.
use Rattle.std.specs.Prelude.{◌≡◌, ◌+◌, ℕ, Bool, true, false, List, [], ◌∷◌, ◌++◌, Option, Some, None, length, map}
use Rattle.std.specs.List.{All, filter, flat_map}
use Rattle.dai_trail.specs.declared.cnf.Lit.{Lit}
use Rattle.dai_trail.specs.Formula.{Formula, IsBelow}
use Rattle.dai_dimacs.specs.declared.tokens.Token.TheVariants.{Literal}
use Rattle.dai_dimacs.specs.declared.draft.Draft.{Draft}
use Rattle.dai_dimacs.specs.Pieces.{words}
use Rattle.dai_dimacs.specs.Tokens.{token_of}
use Rattle.dai_dimacs.specs.Files.{is_content, IsHeader, runs, IsHopeless}

-- the words are the clauses of a formula of this many clauses
pub record AreWordsOf (vars count : ℕ) (clauses : List (List Lit)) (ws : List (List ℕ)) : Type 0 where
  pub counted : length clauses ≡ count
  pub below : All (IsBelow vars) clauses
  pub reads : map token_of ws ≡ map Some (runs clauses)

-- no words of clauses begin with these
abbrev pub AreNoFront : ℕ → ℕ → List (List ℕ) → Type 0
AreNoFront vars count ws = (rest : List (List ℕ)) (clauses : List (List Lit)) → AreWordsOf vars count clauses (ws ++ rest) → ⊥

-- the words are the clauses that were read and the front of one more, and this many clauses are missing
pub record AreReadInto (count : ℕ) (ws : List (List ℕ)) (formula : Formula) (missing : ℕ) (clause : List Lit) : Type 0 where
  pub counted : length formula.clauses + missing ≡ count
  pub closed : missing ≡ 0 → clause ≡ []
  pub below : All (IsBelow formula.vars) formula.clauses
  pub front : IsBelow formula.vars clause
  pub reads : map token_of ws ≡ map Some (runs formula.clauses ++ map Literal clause)

-- the same of a draft
abbrev pub IsDraftOf : ℕ → List (List ℕ) → Draft → Type 0
IsDraftOf count ws d = AreReadInto count ws d.cnf d.missing d.clause.items

-- what is known once more words were read: they are in the draft, or no clauses begin so
abbrev pub Takes : List (List ℕ) → Draft → Draft → Bool → Type 0
Takes more old new true = (count : ℕ) (ws : List (List ℕ)) → IsDraftOf count ws old → IsDraftOf count (ws ++ more) new
Takes more old new false = (count : ℕ) (ws : List (List ℕ)) → IsDraftOf count ws old → AreNoFront old.cnf.vars count (ws ++ more)

-- the lines are the header and the front of the clauses
pub record AreLinesInto (text : List (List ℕ)) (formula : Formula) (missing : ℕ) (clause : List Lit) : Type 0 where
  pub count : ℕ
  pub header : List ℕ
  pub body : List (List ℕ)
  pub contents : filter is_content text ≡ header ∷ body
  pub heads : IsHeader header formula.vars count
  pub draft : AreReadInto count (flat_map words body) formula missing clause

-- what was read of these lines: nothing yet, or the header and the front of the clauses
abbrev pub AreRead : List (List ℕ) → Option Draft → Type 0
AreRead text None = filter is_content text ≡ []
AreRead text (Some d) = AreLinesInto text d.cnf d.missing d.clause.items

-- what is known once one more line was read: it is in the draft, or no text begins so
abbrev pub TakesLine : List ℕ → Option Draft → Option Draft → Bool → Type 0
TakesLine line old new true = (text : List (List ℕ)) → AreRead text old → AreRead (text ++ line ∷ []) new
TakesLine line old new false = (text : List (List ℕ)) → AreRead text old → IsHopeless (text ++ line ∷ [])
