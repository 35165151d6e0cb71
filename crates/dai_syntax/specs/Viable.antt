-- Files, viable lists of tokens, and the place and number of a fault.
use Rattle.std.specs.Prelude.{ℕ, ◌≡◌, ◌≤◌, ◌⊎◌, List, [], ◌∷◌, ◌++◌, length}
use Rattle.dai_lex.specs.declared.token.Token.{Token}
use Rattle.dai_syntax.specs.declared.error.SyntaxError.{SyntaxError}
use Rattle.dai_syntax.specs.declared.error.SyntaxError.TheVariants.{Unexpected, Deep, LeftOut, Spent}
use Rattle.dai_syntax.specs.Tree.{Declaration}
use Rattle.dai_syntax.specs.Symbols.{declarations, Value, v_declarations}
use Rattle.dai_syntax.specs.Grammar.{End, whole, anywhere, left_out, Derives}

-- how deep constructs may nest
abbrev pub most_levels : ℕ
most_levels = 200

-- a file derives the tokens, up to where it may stop
abbrev pub FileDerives : List ℕ → ℕ → End → List Token → List Value → Type 0
FileDerives bytes limit end tokens values = Derives (record { bytes = bytes; limit = limit; end = end }) (declarations ∷ []) tokens values

-- the tokens of the bytes are the file of these declarations
abbrev pub IsFile : List ℕ → List Token → List Declaration → Type 0
IsFile bytes tokens ds = FileDerives bytes most_levels whole tokens (v_declarations ds ∷ [])

-- some file may begin with the tokens, with nesting within the limit
abbrev pub IsViable : List ℕ → ℕ → List Token → Type 0
IsViable bytes limit tokens = (values : List Value) × FileDerives bytes limit anywhere tokens values

-- the same within the limit of files, or a higher one
abbrev pub IsViableAtAll : List ℕ → List Token → Type 0
IsViableAtAll bytes tokens = (limit : ℕ) × (most_levels ≤ limit) × IsViable bytes limit tokens

-- after these tokens the token begins a part of Ivy that the profile leaves out
abbrev pub BeginsLeftOut : List ℕ → List Token → Token → Type 0
BeginsLeftOut bytes front t = (values : List Value) × FileDerives bytes most_levels (left_out t.kind) front values

-- the first token that goes too far, and what stands before and after it
pub record IsStopAt (bytes : List ℕ) (tokens front : List Token) (t : Token) (rest : List Token) : Type 0 where
  pub split : tokens ≡ front ++ t ∷ rest
  pub before : IsViable bytes most_levels front
  pub beyond : IsViable bytes most_levels (front ++ t ∷ []) → ⊥

-- some file may begin with the tokens, but they are none
pub record IsStopAtEnd (bytes : List ℕ) (tokens : List Token) : Type 0 where
  pub before : IsViable bytes most_levels tokens
  pub open_ended : (ds : List Declaration) → IsFile bytes tokens ds → ⊥

-- the refusal of a token: by the limit alone; as a part of Ivy that is left out; or as one that doesn't fit
abbrev pub IsRefusal : List ℕ → List Token → Token → SyntaxError → Type 0
IsRefusal bytes front t (Deep at) = (at ≡ t.start) × IsViableAtAll bytes (front ++ t ∷ [])
IsRefusal bytes front t (LeftOut at) = (at ≡ t.start) × (IsViableAtAll bytes (front ++ t ∷ []) → ⊥) × BeginsLeftOut bytes front t
IsRefusal bytes front t (Unexpected at) = (at ≡ t.start) × (IsViableAtAll bytes (front ++ t ∷ []) → ⊥) × (BeginsLeftOut bytes front t → ⊥)
IsRefusal bytes front t Spent = ⊥

-- the error is that of the first token that goes too far, or that of an early end
pub data IsSyntaxFault (bytes : List ℕ) (tokens : List Token) : SyntaxError → Type 0 where
  at_token : {e : SyntaxError} (front rest : List Token) (t : Token) → IsStopAt bytes tokens front t rest → IsRefusal bytes front t e → IsSyntaxFault bytes tokens e
  at_end : {at : ℕ} → at ≡ length bytes → IsStopAtEnd bytes tokens → IsSyntaxFault bytes tokens (Unexpected at)

-- a refusal is the fault of the tokens, or want of memory
abbrev pub IsSyntaxError : List ℕ → List Token → SyntaxError → Type 0
IsSyntaxError bytes tokens e = (e ≡ Spent) ⊎ IsSyntaxFault bytes tokens e

-- Tokens have one fault at most, and none where they are a file.
pub record HaveOneVerdict (bytes : List ℕ) (tokens : List Token) : Type 0 where
  pub fault : (e other : SyntaxError) → IsSyntaxFault bytes tokens e → IsSyntaxFault bytes tokens other → e ≡ other
  pub apart : (ds : List Declaration) (e : SyntaxError) → IsFile bytes tokens ds → IsSyntaxFault bytes tokens e → ⊥
