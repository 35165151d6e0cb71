-- What a refusal says of the bytes.
use Rattle.std.specs.Prelude.{ℕ, List}
use Rattle.dai_base.specs.Fault.{IsInTable}
use Rattle.dai_base.specs.declared.fault.Place.{Place}
use Rattle.dai_lex.specs.declared.token.LexError.{LexError}
use Rattle.dai_lex.specs.declared.token.LexError.TheVariants as Lex
use Rattle.dai_syntax.specs.declared.error.SyntaxError.{SyntaxError}
use Rattle.dai_syntax.specs.declared.error.SyntaxError.TheVariants as Syntax
use Rattle.dai_sorts.specs.declared.error.SortError.{SortError}
use Rattle.dai_sorts.specs.declared.error.SortError.TheVariants as Sorts
use Rattle.dai_front.specs.declared.reader.Stop.{Stop}
use Rattle.dai_front.specs.declared.reader.Stop.TheVariants.{At, Spent}
use Rattle.dai_front.specs.declared.error.ReadError.{ReadError}
use Rattle.dai_front.specs.declared.error.ReadError.TheVariants as Read
use Rattle.dai_front.specs.Files.{IsRefusedAt, IsFaultOf}

-- the answers to errors of the tokens, of the grammar and of the rules of sorts
abbrev pub byte_stop : LexError → Stop
byte_stop (Lex.Bad at) = At 10 at
byte_stop Lex.Spent = Spent

abbrev pub token_stop : SyntaxError → Stop
token_stop (Syntax.Unexpected at) = At 12 at
token_stop (Syntax.Deep at) = At 13 at
token_stop (Syntax.LeftOut at) = At 20 at
token_stop Syntax.Spent = Spent

abbrev pub sort_stop : SortError → Stop
sort_stop (Sorts.Bad number at) = At number at
sort_stop Sorts.Spent = Spent

-- a refusal at an offset is that of the bytes, with a number of the table
pub record IsRefusal (bytes : List ℕ) (number at : ℕ) : Type 0 where
  pub refused : IsRefusedAt bytes number at
  pub listed : IsInTable number

abbrev pub IsStop : List ℕ → Stop → Type 0
IsStop bytes (At number at) = IsRefusal bytes number at
IsStop bytes Spent = Unit {0}

-- the same at a place
pub record IsFault (bytes : List ℕ) (number : ℕ) (place : Place) : Type 0 where
  pub fault : IsFaultOf bytes number place
  pub listed : IsInTable number

abbrev pub IsReadError : List ℕ → ReadError → Type 0
IsReadError bytes (Read.Bad number place) = IsFault bytes number place
IsReadError bytes Read.Spent = Unit {0}
