-- What an error of `lex` says.
use Rattle.std.specs.Prelude.{ℕ, ◌<◌, List, length, ⊤}
use Rattle.dai_lex.specs.declared.token.LexError.{LexError}
use Rattle.dai_lex.specs.declared.token.LexError.TheVariants.{Bad, Spent}
use Rattle.dai_lex.specs.Tokens.{IsBadAt}

-- the place is that of the first bad byte, which is one of the bytes; want of memory says nothing of them
abbrev pub IsFault : List ℕ → LexError → Type 0
IsFault bytes (Bad at) = IsBadAt bytes at × (at < length bytes)
IsFault bytes Spent = ⊤
