-- Signs: the longest front of the bytes that is one.
use Rattle.std.specs.Prelude.{ℕ, ◌≡◌, ◌<◌, ◌≤◌, List, [], ◌∷◌, length, take, if◌then◌else◌, ◌==◌, ◌&&◌, Option, Some, None}
use Rattle.std.specs.Str.{byte}
use Rattle.dai_lex.specs.declared.token.Kind.{Kind}
use Rattle.dai_lex.specs.declared.token.Kind.TheVariants.{DoubleArrow, Arrow, Assign, NotEqual, LessOrEqual, OpenRound, CloseRound, OpenCurly, CloseCurly, OpenSquare, CloseSquare, Comma, Semicolon, Colon, Dot, Equal, Tilde, Ampersand, Bar, Less, Asterisk}

-- a sign of one byte
abbrev pub one_byte_sign : ℕ → Option Kind
one_byte_sign a =
    if a == byte "(" then Some OpenRound else
    (if a == byte ")" then Some CloseRound else
    (if a == byte "{" then Some OpenCurly else
    (if a == byte "}" then Some CloseCurly else
    (if a == byte "[" then Some OpenSquare else
    (if a == byte "]" then Some CloseSquare else
    (if a == byte "," then Some Comma else
    (if a == byte ";" then Some Semicolon else
    (if a == byte ":" then Some Colon else
    (if a == byte "." then Some Dot else
    (if a == byte "=" then Some Equal else
    (if a == byte "~" then Some Tilde else
    (if a == byte "&" then Some Ampersand else
    (if a == byte "|" then Some Bar else
    (if a == byte "<" then Some Less else
    (if a == byte "*" then Some Asterisk else None)))))))))))))))

-- a sign of two bytes
abbrev pub two_byte_sign : ℕ → ℕ → Option Kind
two_byte_sign a b =
    if (a == byte "-") && (b == byte ">") then Some Arrow else
    (if (a == byte ":") && (b == byte "=") then Some Assign else
    (if (a == byte "~") && (b == byte "=") then Some NotEqual else
    (if (a == byte "<") && (b == byte "=") then Some LessOrEqual else None)))

-- the sign of three bytes
abbrev pub three_byte_sign : ℕ → ℕ → ℕ → Option Kind
three_byte_sign a b c =
    if (a == byte "<") && (b == byte "-") && (c == byte ">") then Some DoubleArrow else None

-- the sign with this text
abbrev pub sign_of : List ℕ → Option Kind
sign_of (a ∷ []) = one_byte_sign a
sign_of (a ∷ b ∷ []) = two_byte_sign a b
sign_of (a ∷ b ∷ c ∷ []) = three_byte_sign a b c
sign_of _ = None

-- the first n bytes are a sign, and no longer front is one
pub record IsSign (bytes : List ℕ) (kind : Kind) (n : ℕ) : Type 0 where
  pub within : n ≤ length bytes
  pub is : sign_of (take n bytes) ≡ Some kind
  pub longest : (m : ℕ) → n < m → m ≤ length bytes → sign_of (take m bytes) ≡ None

-- no front is a sign
abbrev pub BeginsNoSign : List ℕ → Type 0
BeginsNoSign bytes = (m : ℕ) → m ≤ length bytes → sign_of (take m bytes) ≡ None
