-- How long pieces are, and what the text of a word says.
use Rattle.std.proofs.Common.{◌≡◌, ℕ, zero, suc, ◌<◌, ◌≤◌, List, [], ◌∷◌, length, get_or, take, Bool, true, false, ◌&&◌, Some, refl, arith, get_or-take}
use Rattle.std.specs.List.{list_all}
use Rattle.std.specs.Char.{is_ascii_digit}
use Rattle.dai_lex.specs.declared.token.Kind.{Kind}
use Rattle.dai_lex.specs.declared.token.Kind.TheVariants.{Digits}
use Rattle.dai_lex.specs.declared.pieces.Piece.{Piece}
use Rattle.dai_lex.specs.declared.pieces.Piece.TheVariants.{Gap, Token, Bad}
use Rattle.dai_lex.specs.Bytes.{is_blank, begins_word, is_word_byte, is_in_line, IsLongestFront}
use Rattle.dai_lex.specs.Words.{kind_of_word}
use Rattle.dai_lex.specs.Front.{IsPiece, IsWithin}
use Rattle.dai_lex.specs.Signs.{IsSign}
use Rattle.dai_lex.specs.Pieces.{IsGap, IsWord, IsToken, IsBadByte, blank, comment, sign, word, unknown, broken}

-- a front of bytes that pass passes
pub list_all-front : (test : ℕ → Bool) (bytes : List ℕ) (n : ℕ) → n ≤ length bytes → ((k : ℕ) → k < n → test (get_or bytes k 0) ≡ true) → list_all test (take n bytes) ≡ true
list_all-front test bytes zero within passes = refl
list_all-front test [] (suc n) within passes = absurd (omega arith)
list_all-front test (b ∷ bytes) (suc n) within passes =
    let here : test b ≡ true = passes 0 (omega arith) in
    rw here (list_all-front test bytes n (omega arith) (λ k below. passes (suc k) (omega arith)))

-- a front with a byte that fails fails
pub list_all-fails : (test : ℕ → Bool) (bytes : List ℕ) (n k : ℕ) → n ≤ length bytes → k < n → test (get_or bytes k 0) ≡ false → list_all test (take n bytes) ≡ false
list_all-fails test bytes zero k within below fails = absurd (omega arith)
list_all-fails test [] (suc n) k within below fails = absurd (omega arith)
list_all-fails test (b ∷ bytes) (suc n) zero within below fails = rw fails
list_all-fails test (b ∷ bytes) (suc n) (suc k) within below fails =
    let rest = list_all-fails test bytes n k (omega arith) (omega arith) fails in
    elim (test b) as (λ v. (v && list_all test (take n bytes)) ≡ false) [ true ↦ rest | false ↦ refl ]

-- a byte that begins a word is a word's
word_byte : (b : ℕ) → begins_word b ≡ true → is_word_byte b ≡ true
word_byte b begins = rw begins

-- no list whose first byte, or 0, passes a test that 0 fails is empty
some : (test : ℕ → Bool) (bytes : List ℕ) → test 0 ≡ false → test (get_or bytes 0 0) ≡ true → 0 < length bytes
some test [] zero_fails passes = absurd (cc)
some test (b ∷ bytes) zero_fails passes = omega arith

-- a longest front is not empty where the first byte passes
front_some : (test : ℕ → Bool) (bytes : List ℕ) (n : ℕ) → 0 < length bytes → test (get_or bytes 0 0) ≡ true → IsLongestFront test bytes n → 0 < n
front_some test bytes zero there passes front = let fails = front.stops there in absurd (cc)
front_some test bytes (suc n) there passes front = omega arith

pub word_some : (bytes : List ℕ) (n : ℕ) → IsWord bytes n → 0 < n
word_some bytes n w = front_some is_word_byte bytes n (some begins_word bytes refl w.begins) (word_byte (get_or bytes 0 0) w.begins) w.longest

-- a whole word of digits
pub digit_word : (bytes : List ℕ) (n k : ℕ) → IsWord bytes n → is_ascii_digit (get_or bytes 0 0) ≡ true → IsLongestFront is_ascii_digit bytes k → n ≤ k → kind_of_word (take n bytes) ≡ Some Digits
digit_word bytes n k w digit front below =
    let positive = word_some bytes n w in
    let here : is_ascii_digit (get_or (take n bytes) 0 0) ≡ true = rw (get_or-take n bytes 0 0 positive) digit in
    let whole = list_all-front is_ascii_digit bytes n w.longest.within (λ i i_below. front.passes i (omega arith)) in
    rw (here, whole)

comment_there : (bytes : List ℕ) → get_or bytes 0 0 ≡ 35 → 0 < length bytes
comment_there [] is = absurd (cc)
comment_there (b ∷ bytes) is = omega arith

pub gap_within : (bytes : List ℕ) (n : ℕ) → IsGap bytes n → (0 < n) × (n ≤ length bytes)
gap_within bytes n (blank is) = (omega arith, some is_blank bytes refl is)
gap_within bytes n (comment is front) = (front_some is_in_line bytes n (comment_there bytes is) (rw is refl) front, front.within)

sign_some : (bytes : List ℕ) (kind : Kind) (n : ℕ) → IsSign bytes kind n → 0 < n
sign_some bytes kind zero s = let no = s.is in absurd (cc)
sign_some bytes kind (suc n) s = omega arith

pub token_within : (bytes : List ℕ) (kind : Kind) (n : ℕ) → IsToken bytes kind n → (0 < n) × (n ≤ length bytes)
token_within bytes kind n (sign s) = (sign_some bytes kind n s, s.within)
token_within bytes kind n (word w is) = (word_some bytes n w, w.longest.within)

pub bad_within : (bytes : List ℕ) (k : ℕ) → IsBadByte bytes k → k < length bytes
bad_within bytes k (unknown nothing) = nothing.some
bad_within bytes k (broken w digit front below) = let within = w.longest.within in omega arith

-- how far a piece reaches
pub piece_within : (bytes : List ℕ) (piece : Piece) → IsPiece bytes piece → IsWithin (length bytes) piece
piece_within bytes (Gap n) is = gap_within bytes n is
piece_within bytes (Token kind n) is = token_within bytes kind n is
piece_within bytes (Bad k) is = bad_within bytes k is
