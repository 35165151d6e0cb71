-- Tokens that are read are in order.
use Rattle.std.proofs.Common.{◌≡◌, ℕ, ◌+◌, ◌<◌, ◌≤◌, List, [], ◌∷◌, length, drop, ◌++◌, arith, length-drop, append_assoc, ◌-◌, take, take_all, ap, ◌∙◌, append-nil, subst, sym, get_or-take, length-take-le}
use Rattle.dai_lex.specs.declared.token.Kind.{Kind}
use Rattle.dai_lex.specs.Pieces.{IsGap, IsWord, IsToken, IsTokenText, IsBadByte, sign, word}
use Rattle.dai_lex.specs.Signs.{IsSign}
use Rattle.dai_lex.specs.declared.token.Token.{Token}
use Rattle.dai_lex.specs.Tokens.{Reads, IsTokens, AreInOrder, IsPlaced, ArePlaced, done, gap, token}
use Rattle.std.specs.List.{AllByRecursion}
use Rattle.std.proofs.Math.Nat.{add-sub_cancel_left}
use Rattle.std.proofs.lemmas.List.Elements.{All-from_recursion}
use Rattle.dai_lex.proofs.PieceLemmas.{token_within, word_some}

-- the rest from an offset on, as the code has it
rest_is : (bytes : List ℕ) (at : ℕ) → take (length bytes - at) (drop at bytes) ≡ drop at bytes
rest_is bytes at = take_all (length bytes - at) (drop at bytes) (omega (arith, length-drop at bytes))

rest_length : (bytes : List ℕ) (at : ℕ) → length (take (length bytes - at) (drop at bytes)) ≡ length bytes - at
rest_length bytes at = ap length (rest_is bytes at) ∙ length-drop at bytes

-- a piece of the rest, as the code has it
pub gap_at : (bytes : List ℕ) (at n : ℕ) → IsGap (take (length bytes - at) (drop at bytes)) n → IsGap (drop at bytes) n
gap_at bytes at n is = subst (λ rest. IsGap rest n) (rest_is bytes at) is

pub token_at : (bytes : List ℕ) (at n : ℕ) (kind : Kind) → IsToken (take (length bytes - at) (drop at bytes)) kind n → IsToken (drop at bytes) kind n
token_at bytes at n kind is = subst (λ rest. IsToken rest kind n) (rest_is bytes at) is

pub bad_at : (bytes : List ℕ) (at k : ℕ) → IsBadByte (take (length bytes - at) (drop at bytes)) k → IsBadByte (drop at bytes) k
bad_at bytes at k is = subst (λ rest. IsBadByte rest k) (rest_is bytes at) is

pub within_rest : (bytes : List ℕ) (at n : ℕ) → at ≤ length bytes → n ≤ length (take (length bytes - at) (drop at bytes)) → at + n ≤ length bytes
within_rest bytes at n in_range below = omega (arith, rest_length bytes at)

pub bad_in_rest : (bytes : List ℕ) (at k : ℕ) → k < length (take (length bytes - at) (drop at bytes)) → at + k < length bytes
bad_in_rest bytes at k below = omega (arith, rest_length bytes at)

-- one token more
pub reads_token : {bytes : List ℕ} {to : ℕ} (front : List Token) (next : Token) (tokens pushed : List Token) → pushed ≡ front ++ next ∷ [] → Reads bytes 0 (front ++ next ∷ tokens) to → Reads bytes 0 (pushed ++ tokens) to
reads_token front next tokens pushed is reads = rw (is, append_assoc) reads

-- what was read so far
pub reads_so_far : (bytes : List ℕ) (at : ℕ) (front : List Token) → ((tokens : List Token) (to : ℕ) → Reads bytes at tokens to → Reads bytes 0 (front ++ tokens) to) → Reads bytes 0 front at
reads_so_far bytes at front reads = subst (λ tokens. Reads bytes 0 tokens at) (append-nil front) (reads [] at done)

-- from a lower bound they are in order too
lower : (low at high : ℕ) (tokens : List Token) → low ≤ at → AreInOrder at tokens high → AreInOrder low tokens high
lower low at high [] below order = omega (arith, order)
lower low at high (t ∷ tokens) below order = (omega (arith, order.0), order.1, order.2)

reads_order : {bytes : List ℕ} {at to : ℕ} {tokens : List Token} → Reads bytes at tokens to → AreInOrder at tokens to
reads_order done = omega arith
reads_order {bytes} {at} {to} {tokens} (gap {n = n} is rest) = lower at (at + n) to tokens (omega arith) (reads_order rest)
reads_order {bytes} {at} (token {n = n} {kind = kind} is rest) =
    let within = token_within (drop at bytes) kind n is in
    (omega arith, omega (arith, within.0), reads_order rest)

-- a token's text is a token
text_length : (bytes : List ℕ) (kind : Kind) (n : ℕ) → IsToken bytes kind n → length (take n bytes) ≡ n
text_length bytes kind n is = length-take-le n bytes (token_within bytes kind n is).1

sign_text : (bytes : List ℕ) (kind : Kind) (n : ℕ) → IsSign bytes kind n → length (take n bytes) ≡ n → IsSign (take n bytes) kind n
sign_text bytes kind n s len = record {
  within = omega arith;
  is = rw (take_all n (take n bytes) (omega arith)) s.is;
  longest = λ m above below. absurd (omega arith);
}

word_text : (bytes : List ℕ) (n : ℕ) → IsWord bytes n → length (take n bytes) ≡ n → IsWord (take n bytes) n
word_text bytes n w len = record {
  begins = rw (get_or-take n bytes 0 0 (word_some bytes n w)) w.begins;
  longest = record {
    within = omega arith;
    passes = λ k below. rw (get_or-take n bytes k 0 below) (w.longest.passes k below);
    stops = λ below. absurd (omega arith);
  };
}

token_text : (bytes : List ℕ) (kind : Kind) (n : ℕ) → IsToken bytes kind n → length (take n bytes) ≡ n → IsToken (take n bytes) kind n
token_text bytes kind n (sign s) len = sign (sign_text bytes kind n s len)
token_text bytes kind n (word w is) len = word (word_text bytes n w len) (rw (take_all n (take n bytes) (omega arith)) is)

whole_text : (bytes : List ℕ) (kind : Kind) (n : ℕ) → IsToken bytes kind n → IsTokenText (take n bytes) kind
whole_text bytes kind n is =
    let len = text_length bytes kind n is in
    subst (λ i. IsToken (take n bytes) kind i) (sym len) (token_text bytes kind n is len)

-- where a token begins and ends
token_place : (bytes : List ℕ) (at n : ℕ) (kind : Kind) → at ≤ length bytes → IsToken (drop at bytes) kind n → IsPlaced bytes (record { kind = kind; start = at; end = at + n })
token_place bytes at n kind in_range is =
    let within = token_within (drop at bytes) kind n is in
    record {
      some = omega (arith, within.0);
      within = omega (arith, within.1, length-drop at bytes);
      text = rw (add-sub_cancel_left at n) (whole_text (drop at bytes) kind n is);
    }

-- an offset that a piece is read at is within the bytes
inside : (bytes : List ℕ) (at n : ℕ) → (0 < n) × (n ≤ length (drop at bytes)) → at ≤ length bytes
inside bytes at n within = omega (arith, within.0, within.1, length-drop at bytes)

reads_placed : {bytes : List ℕ} {at to : ℕ} {tokens : List Token} → Reads bytes at tokens to → AllByRecursion (IsPlaced bytes) tokens
reads_placed done = tt
reads_placed (gap is rest) = reads_placed rest
reads_placed {bytes} {at} (token {n = n} {kind = kind} is rest) =
    (token_place bytes at n kind (inside bytes at n (token_within (drop at bytes) kind n is)) is, reads_placed rest)

pub placed : (bytes : List ℕ) (tokens : List Token) → IsTokens bytes tokens → ArePlaced bytes tokens
placed bytes tokens reads = record { in_order = reads_order reads; each = All-from_recursion (IsPlaced bytes) tokens (reads_placed reads) }
