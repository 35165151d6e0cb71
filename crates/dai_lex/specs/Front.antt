-- What the code reads at the front of bytes, by these definitions.
use Rattle.std.specs.Prelude.{ℕ, ◌<◌, ◌≤◌, List}
use Rattle.dai_lex.specs.declared.pieces.Piece.{Piece}
use Rattle.dai_lex.specs.declared.pieces.Piece.TheVariants.{Gap, Token, Bad}
use Rattle.dai_lex.specs.Pieces.{IsGap, IsToken, IsBadByte}

-- the piece is what stands at the front of the bytes
abbrev pub IsPiece : List ℕ → Piece → Type 0
IsPiece bytes (Gap n) = IsGap bytes n
IsPiece bytes (Token kind n) = IsToken bytes kind n
IsPiece bytes (Bad k) = IsBadByte bytes k

-- the piece takes a byte at least, and no more than n; a bad byte is one of n
abbrev pub IsWithin : ℕ → Piece → Type 0
IsWithin n (Gap len) = (0 < len) × (len ≤ n)
IsWithin n (Token kind len) = (0 < len) × (len ≤ n)
IsWithin n (Bad k) = k < n
