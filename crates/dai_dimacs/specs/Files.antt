-- The DIMACS form of a formula, and what reading a file comes to.
use Rattle.std.specs.Prelude.{◌≡◌, ◌+◌, ◌==◌, ◌&&◌, ◌⊎◌, ℕ, Bool, not, List, [], ◌∷◌, ◌++◌, Some, codes, length, map, slice_index}
use Rattle.std.specs.List.{All, filter, flat_map}
use Rattle.dai_trail.specs.declared.cnf.Lit.{Lit}
use Rattle.dai_trail.specs.Formula.{Formula, IsBelow}
use Rattle.dai_dimacs.specs.declared.tokens.Token.{Token}
use Rattle.dai_dimacs.specs.declared.tokens.Token.TheVariants.{End, Literal}
use Rattle.dai_dimacs.specs.declared.read.Reading.{Reading}
use Rattle.dai_dimacs.specs.declared.read.Reading.TheVariants as reading
use Rattle.dai_dimacs.specs.Pieces.{words}
use Rattle.dai_dimacs.specs.Tokens.{number_of, token_of}

-- the line is neither a comment, which begins with `c`, nor blank
unfoldable pub is_content : List ℕ → Bool
is_content line = not (slice_index line 0 == 99) && not (length (words line) == 0)

-- the line is `p cnf` with the number of variables and of clauses
pub record IsHeader (line : List ℕ) (vars count : ℕ) : Type 0 where
  pub vars_word : List ℕ
  pub count_word : List ℕ
  pub says : words line ≡ codes "p" ∷ codes "cnf" ∷ vars_word ∷ count_word ∷ []
  pub names : number_of vars_word ≡ Some vars
  pub counts : number_of count_word ≡ Some count

-- the literals of each clause, and an end behind them
abbrev pub runs : List (List Lit) → List Token
runs clauses = flat_map (λ clause. map Literal clause ++ End ∷ []) clauses

-- the lines are those of the formula: the header, and then its clauses, each ended by 0, over any lines
pub record IsTextOf (formula : Formula) (text : List (List ℕ)) : Type 0 where
  pub header : List ℕ
  pub body : List (List ℕ)
  pub contents : filter is_content text ≡ header ∷ body
  pub heads : IsHeader header formula.vars (length formula.clauses)
  pub below : All (IsBelow formula.vars) formula.clauses
  pub reads : map token_of (flat_map words body) ≡ map Some (runs formula.clauses)

-- some text of a formula begins with these lines
pub record Begins (front : List (List ℕ)) : Type 0 where
  pub formula : Formula
  pub rest : List (List ℕ)
  pub text : IsTextOf formula (front ++ rest)

-- no text of a formula begins with these lines
abbrev pub IsHopeless : List (List ℕ) → Type 0
IsHopeless front = (formula : Formula) (rest : List (List ℕ)) → IsTextOf formula (front ++ rest) → ⊥

-- the lines are of no formula
abbrev pub IsNoText : List (List ℕ) → Type 0
IsNoText text = (formula : Formula) → IsTextOf formula text → ⊥

-- the line of this number, from 1 on, is the first with which no text of a formula begins, or the last one of
-- lines that end too early
pub record IsWrongAt (text : List (List ℕ)) (number : ℕ) : Type 0 where
  pub front : List (List ℕ)
  pub line : List ℕ
  pub rest : List (List ℕ)
  pub splits : text ≡ front ++ (line ∷ rest)
  pub counted : number ≡ length front + 1
  pub begins : Begins front
  pub wrong : IsHopeless (front ++ line ∷ []) ⊎ ((rest ≡ []) × IsNoText text)

-- the formula of the lines, or the number of the line that is wrong
abbrev pub IsReadingOf : List (List ℕ) → Reading → Type 0
IsReadingOf text (reading.Formula formula) = IsTextOf formula text
IsReadingOf text (reading.Malformed number) = IsWrongAt text number
