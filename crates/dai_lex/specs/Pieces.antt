-- What may stand at the front of bytes: a blank, a comment, a token or a bad byte.
use Rattle.std.specs.Prelude.{ℕ, ◌≡◌, ◌≢◌, ◌<◌, List, length, take, Some, IsTrue}
use Rattle.std.specs.Bool.{IsFalse}
use Rattle.std.specs.Char.{is_ascii_digit}
use Rattle.dai_lex.specs.declared.token.Kind.{Kind}
use Rattle.dai_lex.specs.Bytes.{first, is_blank, begins_word, is_word_byte, is_in_line, IsLongestFront}
use Rattle.dai_lex.specs.Words.{kind_of_word}
use Rattle.dai_lex.specs.Signs.{IsSign, BeginsNoSign}

-- the first n bytes are one blank, or a comment: from `#` to before the next line feed or the end
pub data IsGap (bytes : List ℕ) : ℕ → Type 0 where
  blank : IsTrue (is_blank (first bytes)) → IsGap bytes 1
  comment : {n : ℕ} → first bytes ≡ 35 → IsLongestFront is_in_line bytes n → IsGap bytes n

-- the first n bytes are a whole word: as many letters, digits and `_` as there are, a letter or digit first
pub record IsWord (bytes : List ℕ) (n : ℕ) : Type 0 where
  pub begins : IsTrue (begins_word (first bytes))
  pub longest : IsLongestFront is_word_byte bytes n

-- the first n bytes are a token: a sign or a word
pub data IsToken (bytes : List ℕ) (kind : Kind) (n : ℕ) : Type 0 where
  sign : IsSign bytes kind n → IsToken bytes kind n
  word : IsWord bytes n → kind_of_word (take n bytes) ≡ Some kind → IsToken bytes kind n

-- the text is a token of this kind, and nothing more
abbrev pub IsTokenText : List ℕ → Kind → Type 0
IsTokenText text kind = IsToken text kind (length text)

-- there is a byte, and it begins no blank, comment, word or sign
pub record BeginsNothing (bytes : List ℕ) : Type 0 where
  pub some : 0 < length bytes
  pub no_blank : IsFalse (is_blank (first bytes))
  pub no_comment : first bytes ≢ 35
  pub no_word : IsFalse (begins_word (first bytes))
  pub no_sign : BeginsNoSign bytes

-- the byte at offset k is bad: it begins nothing, or is the first in a word of digits that isn't a digit
pub data IsBadByte (bytes : List ℕ) : ℕ → Type 0 where
  unknown : BeginsNothing bytes → IsBadByte bytes 0
  broken : {n k : ℕ} → IsWord bytes n → IsTrue (is_ascii_digit (first bytes)) → IsLongestFront is_ascii_digit bytes k → k < n → IsBadByte bytes k
