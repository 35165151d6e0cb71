-- Classes of bytes, and the longest front of one class.
use Rattle.std.specs.Prelude.{ℕ, ◌<◌, ◌≤◌, List, length, slice_index, Bool, not, ◌||◌, ◌==◌, IsTrue}
use Rattle.std.specs.Bool.{IsFalse}
use Rattle.std.specs.Char.{is_ascii_alphanumeric}

-- a space, a tab, a carriage return or a line feed
abbrev pub is_blank : ℕ → Bool
is_blank byte = (byte == 32) || (byte == 9) || (byte == 13) || (byte == 10)

-- a letter or a digit
abbrev pub begins_word : ℕ → Bool
begins_word byte = is_ascii_alphanumeric byte

-- a letter, a digit or `_`
abbrev pub is_word_byte : ℕ → Bool
is_word_byte byte = is_ascii_alphanumeric byte || (byte == 95)

-- all but the line feed
abbrev pub is_in_line : ℕ → Bool
is_in_line byte = not (byte == 10)

-- the byte at the front, or 0 of no bytes: 0 begins nothing
abbrev pub first : List ℕ → ℕ
first bytes = slice_index bytes 0

-- the first n bytes pass the test, and what follows them, if anything, doesn't
pub record IsLongestFront (test : ℕ → Bool) (bytes : List ℕ) (n : ℕ) : Type 0 where
  pub within : n ≤ length bytes
  pub passes : (k : ℕ) → k < n → IsTrue (test (slice_index bytes k))
  pub stops : n < length bytes → IsFalse (test (slice_index bytes n))
