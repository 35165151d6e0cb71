-- The tokens of bytes.
use Rattle.std.specs.Prelude.{ℕ, ◌≡◌, ◌+◌, ◌<◌, ◌≤◌, List, [], ◌∷◌, length, drop, slice_range, All}
use Rattle.dai_lex.specs.declared.token.Kind.{Kind}
use Rattle.dai_lex.specs.declared.token.Token.{Token}
use Rattle.dai_lex.specs.Pieces.{IsGap, IsToken, IsTokenText, IsBadByte}

-- from the offset `at` to the offset `to` the bytes are these tokens, with blanks and comments between them
pub data Reads (bytes : List ℕ) : ℕ → List Token → ℕ → Type 0 where
  done : {at : ℕ} → Reads bytes at [] at
  gap : {at n to : ℕ} {tokens : List Token} → IsGap (drop at bytes) n → Reads bytes (at + n) tokens to → Reads bytes at tokens to
  token : {at n to : ℕ} {kind : Kind} {tokens : List Token} → IsToken (drop at bytes) kind n → Reads bytes (at + n) tokens to → Reads bytes at (record { kind = kind; start = at; end = at + n } ∷ tokens) to

-- these are the tokens of the bytes
abbrev pub IsTokens : List ℕ → List Token → Type 0
IsTokens bytes tokens = Reads bytes 0 tokens (length bytes)

-- the byte at the offset `at` is the first that is bad: what stands before reads as tokens, and there it goes no further
pub record IsBadAt (bytes : List ℕ) (at : ℕ) : Type 0 where
  pub tokens : List Token
  pub reached : ℕ
  pub offset : ℕ
  pub reads : Reads bytes 0 tokens reached
  pub bad : IsBadByte (drop reached bytes) offset
  pub place : at ≡ reached + offset

-- each token has a byte at least, begins where the one before ended or later, and the last ends by the offset `high`
abbrev pub AreInOrder : ℕ → List Token → ℕ → Type 0
AreInOrder low [] high = low ≤ high
AreInOrder low (next ∷ tokens) high = (low ≤ next.start) × (next.start < next.end) × AreInOrder next.end tokens high

-- the token has a byte at least, lies within the bytes, and its text is a token of its kind
pub record IsPlaced (bytes : List ℕ) (token : Token) : Type 0 where
  pub some : token.start < token.end
  pub within : token.end ≤ length bytes
  pub text : IsTokenText (slice_range bytes token.start token.end) token.kind

-- the tokens of bytes are in order, each in its place
pub record ArePlaced (bytes : List ℕ) (tokens : List Token) : Type 0 where
  pub in_order : AreInOrder 0 tokens (length bytes)
  pub each : All (IsPlaced bytes) tokens

-- No bytes have two lists of tokens, or two first bad bytes, or both tokens and a bad byte.
pub record HaveOneReading (bytes : List ℕ) : Type 0 where
  pub tokens : (some others : List Token) → IsTokens bytes some → IsTokens bytes others → some ≡ others
  pub place : (at other : ℕ) → IsBadAt bytes at → IsBadAt bytes other → at ≡ other
  pub apart : (tokens : List Token) (at : ℕ) → IsTokens bytes tokens → IsBadAt bytes at → ⊥
