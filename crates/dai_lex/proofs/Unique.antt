-- Bytes have one reading.
use Rattle.std.proofs.Common.{◌≡◌, ℕ, ◌+◌, ◌<◌, List, [], ◌∷◌, length, get_or, take, drop, Bool, true, false, ◌&&◌, ◌||◌, cond, eqb, Option, Some, None, refl, arith, sym, subst, ◌⊎◌, inl, inr, ⊎_elim, get_or-take, length-drop}
use Rattle.std.specs.Char.{is_ascii_digit}
use Rattle.std.proofs.lemmas.Bool.{cases_order, eqb-true}
use Rattle.dai_lex.specs.declared.token.Kind.{Kind}
use Rattle.dai_lex.specs.declared.token.Token.{Token}
use Rattle.dai_lex.specs.Bytes.{is_blank, begins_word, is_word_byte, is_in_line, IsLongestFront}
use Rattle.dai_lex.specs.Words.{kind_of_word}
use Rattle.dai_lex.specs.Signs.{one_byte_sign, two_byte_sign, three_byte_sign, sign_of, IsSign}
use Rattle.dai_lex.specs.Pieces.{IsGap, IsWord, IsToken, IsBadByte, blank, comment, sign, word, unknown, broken}
use Rattle.dai_lex.specs.Tokens.{Reads, IsTokens, IsBadAt, done, gap, token}
use Rattle.dai_lex.proofs.PieceLemmas.{list_all-fails, gap_within, token_within, bad_within, word_some}

-- ---- one length

not_longer : (test : ℕ → Bool) (bytes : List ℕ) (n m : ℕ) → IsLongestFront test bytes n → IsLongestFront test bytes m → n < m → ⊥
not_longer test bytes n m short long below =
    let fails = short.stops (omega (arith, long.within)) in
    let passes = long.passes n below in
    cc

pub front_unique : (test : ℕ → Bool) (bytes : List ℕ) (n m : ℕ) → IsLongestFront test bytes n → IsLongestFront test bytes m → n ≡ m
front_unique test bytes n m one other =
    ⊎_elim (λ same. same) (⊎_elim (λ below. absurd (not_longer test bytes n m one other below)) (λ above. absurd (not_longer test bytes m n other one above))) (cases_order n m)

no_longer_sign : (bytes : List ℕ) (k l : Kind) (n m : ℕ) → IsSign bytes k n → IsSign bytes l m → n < m → ⊥
no_longer_sign bytes k l n m short long below =
    let none = short.longest m below long.within in
    let some = long.is in
    cc

sign_unique : (bytes : List ℕ) (k l : Kind) (n m : ℕ) → IsSign bytes k n → IsSign bytes l m → (k ≡ l) × (n ≡ m)
sign_unique bytes k l n m one other =
    let same : n ≡ m = ⊎_elim (λ same. same) (⊎_elim (λ below. absurd (no_longer_sign bytes k l n m one other below)) (λ above. absurd (no_longer_sign bytes l k m n other one above))) (cases_order n m) in
    let first = one.is in
    let second = other.is in
    (cc, same)

word_unique : (bytes : List ℕ) (n m : ℕ) → IsWord bytes n → IsWord bytes m → n ≡ m
word_unique bytes n m one other = front_unique is_word_byte bytes n m one.longest other.longest

-- ---- the first byte decides

-- a blank, `#`, or a byte that begins a word
begins_no_sign : ℕ → Bool
begins_no_sign b = is_blank b || eqb b 35 || begins_word b

along : (a c : ℕ) → begins_no_sign c ≡ false → eqb a c ≡ true → begins_no_sign a ≡ false
along a c not_c same = subst (λ b. begins_no_sign b ≡ false) (sym (eqb-true a c same)) not_c

left_true : (p q : Bool) → (p && q) ≡ true → p ≡ true
left_true true q both = refl
left_true false q both = cc

-- a test that passes tells, and so does the rest
pick : {P : Type 0} (test : Bool) (k kind : Kind) (rest : Option Kind) → (test ≡ true → P) → (rest ≡ Some kind → P) → cond test (Some k) rest ≡ Some kind → P
pick true k kind rest here there is = here refl
pick false k kind rest here there is = there is

one_byte : (a : ℕ) (kind : Kind) → one_byte_sign a ≡ Some kind → begins_no_sign a ≡ false
unfolding begins_no_sign
one_byte a kind =
    pick (eqb a 40) _ kind _ (along a 40 refl) (
    pick (eqb a 41) _ kind _ (along a 41 refl) (
    pick (eqb a 123) _ kind _ (along a 123 refl) (
    pick (eqb a 125) _ kind _ (along a 125 refl) (
    pick (eqb a 91) _ kind _ (along a 91 refl) (
    pick (eqb a 93) _ kind _ (along a 93 refl) (
    pick (eqb a 44) _ kind _ (along a 44 refl) (
    pick (eqb a 59) _ kind _ (along a 59 refl) (
    pick (eqb a 58) _ kind _ (along a 58 refl) (
    pick (eqb a 46) _ kind _ (along a 46 refl) (
    pick (eqb a 61) _ kind _ (along a 61 refl) (
    pick (eqb a 126) _ kind _ (along a 126 refl) (
    pick (eqb a 38) _ kind _ (along a 38 refl) (
    pick (eqb a 124) _ kind _ (along a 124 refl) (
    pick (eqb a 60) _ kind _ (along a 60 refl) (
    pick (eqb a 42) _ kind _ (along a 42 refl) (λ none. cc))))))))))))))))

two_byte : (a b : ℕ) (kind : Kind) → two_byte_sign a b ≡ Some kind → begins_no_sign a ≡ false
unfolding begins_no_sign
two_byte a b kind =
    pick (eqb a 45 && eqb b 62) _ kind _ (λ both. along a 45 refl (left_true _ _ both)) (
    pick (eqb a 58 && eqb b 61) _ kind _ (λ both. along a 58 refl (left_true _ _ both)) (
    pick (eqb a 126 && eqb b 61) _ kind _ (λ both. along a 126 refl (left_true _ _ both)) (
    pick (eqb a 60 && eqb b 61) _ kind _ (λ both. along a 60 refl (left_true _ _ both)) (λ none. cc))))

three_byte : (a b c : ℕ) (kind : Kind) → three_byte_sign a b c ≡ Some kind → begins_no_sign a ≡ false
unfolding begins_no_sign
three_byte a b c kind =
    pick ((eqb a 60 && eqb b 45) && eqb c 62) _ kind _ (λ all. along a 60 refl (left_true _ _ (left_true _ _ all))) (λ none. cc)

sign_first : (text : List ℕ) (kind : Kind) → sign_of text ≡ Some kind → begins_no_sign (get_or text 0 0) ≡ false
sign_first [] kind is = cc
sign_first (a ∷ []) kind is = one_byte a kind is
sign_first (a ∷ b ∷ []) kind is = two_byte a b kind is
sign_first (a ∷ b ∷ c ∷ []) kind is = three_byte a b c kind is
sign_first (a ∷ b ∷ c ∷ d ∷ rest) kind is = cc

sign_begins : (bytes : List ℕ) (kind : Kind) (n : ℕ) → IsToken bytes kind n → IsSign bytes kind n → begins_no_sign (get_or bytes 0 0) ≡ false
sign_begins bytes kind n is s =
    let some = (token_within bytes kind n is).0 in
    let first : get_or (take n bytes) 0 0 ≡ get_or bytes 0 0 = get_or-take n bytes 0 0 some in
    rw first at (sign_first (take n bytes) kind s.is)

either : (p q : Bool) → (p || q) ≡ true → (p ≡ true) ⊎ (q ≡ true)
either true q is = inl refl
either false q is = inr is

or_true : (p : Bool) → (p || true) ≡ true
or_true true = refl
or_true false = refl

blank_tells : (P : ℕ → Type 0) → P 32 → P 9 → P 13 → P 10 → (b : ℕ) → is_blank b ≡ true → P b
blank_tells P space tab return feed b is =
    let at : (c : ℕ) → P c → eqb b c ≡ true → P b = λ c here same. subst P (sym (eqb-true b c same)) here in
    ⊎_elim (λ three. ⊎_elim (λ two. ⊎_elim (at 32 space) (at 9 tab) (either _ _ two)) (at 13 return) (either _ _ three)) (at 10 feed) (either _ _ is)

blank_no_word : (b : ℕ) → is_blank b ≡ true → begins_word b ≡ false
blank_no_word b is = blank_tells (λ c. begins_word c ≡ false) refl refl refl refl b is

blank_no_comment : (b : ℕ) → is_blank b ≡ true → b ≡ 35 → ⊥
blank_no_comment b is = blank_tells (λ c. c ≡ 35 → ⊥) (λ e. omega arith) (λ e. omega arith) (λ e. omega arith) (λ e. omega arith) b is

blank_no_sign : (b : ℕ) → is_blank b ≡ true → begins_no_sign b ≡ true
unfolding begins_no_sign
blank_no_sign b is = rw is refl

comment_no_sign : (b : ℕ) → b ≡ 35 → begins_no_sign b ≡ true
unfolding begins_no_sign
comment_no_sign b is = rw is refl

word_no_sign : (b : ℕ) → begins_word b ≡ true → begins_no_sign b ≡ true
unfolding begins_no_sign
word_no_sign b is = rw is (or_true (is_blank b || eqb b 35))

-- ---- one piece

pub gap_unique : (bytes : List ℕ) (n m : ℕ) → IsGap bytes n → IsGap bytes m → n ≡ m
gap_unique bytes n m (blank is) (blank other) = refl
gap_unique bytes n m (blank is) (comment hash front) = absurd (blank_no_comment _ is hash)
gap_unique bytes n m (comment hash front) (blank is) = absurd (blank_no_comment _ is hash)
gap_unique bytes n m (comment hash front) (comment hash2 front2) = front_unique is_in_line bytes n m front front2

gap_no_word : (bytes : List ℕ) (n m : ℕ) → IsGap bytes n → IsWord bytes m → ⊥
gap_no_word bytes n m (blank is) w = let no = blank_no_word (get_or bytes 0 0) is in let yes = w.begins in cc
gap_no_word bytes n m (comment hash front) w = let yes : begins_word 35 ≡ true = rw hash at w.begins in cc

gap_begins : (bytes : List ℕ) (n : ℕ) → IsGap bytes n → begins_no_sign (get_or bytes 0 0) ≡ true
gap_begins bytes n (blank is) = blank_no_sign _ is
gap_begins bytes n (comment hash front) = comment_no_sign _ hash

sign_no_word : (bytes : List ℕ) (kind : Kind) (n m : ℕ) → IsSign bytes kind n → IsWord bytes m → ⊥
sign_no_word bytes kind n m s w =
    let no = sign_begins bytes kind n (sign s) s in
    let yes = word_no_sign (get_or bytes 0 0) w.begins in
    cc

pub gap_no_token : (bytes : List ℕ) (kind : Kind) (n m : ℕ) → IsGap bytes n → IsToken bytes kind m → ⊥
gap_no_token bytes kind n m g (sign s) =
    let no = sign_begins bytes kind m (sign s) s in
    let yes = gap_begins bytes n g in
    cc
gap_no_token bytes kind n m g (word w is) = gap_no_word bytes n m g w

pub token_unique : (bytes : List ℕ) (k l : Kind) (n m : ℕ) → IsToken bytes k n → IsToken bytes l m → (k ≡ l) × (n ≡ m)
token_unique bytes k l n m (sign s) (sign r) = sign_unique bytes k l n m s r
token_unique bytes k l n m (sign s) (word w is) = absurd (sign_no_word bytes k n m s w)
token_unique bytes k l n m (word w is) (sign s) = absurd (sign_no_word bytes l m n s w)
token_unique bytes k l n m (word w is) (word v of) =
    let same = word_unique bytes n m w v in
    let here : kind_of_word (take n bytes) ≡ Some l = subst (λ i. kind_of_word (take i bytes) ≡ Some l) (sym same) of in
    (cc, same)

-- ---- a bad byte is no piece

broken_no_word : (bytes : List ℕ) (kind : Kind) (n k : ℕ) → IsWord bytes n → is_ascii_digit (get_or bytes 0 0) ≡ true → IsLongestFront is_ascii_digit bytes k → k < n → kind_of_word (take n bytes) ≡ Some kind → ⊥
broken_no_word bytes kind n k w digit front below is =
    let positive = word_some bytes n w in
    let here : is_ascii_digit (get_or (take n bytes) 0 0) ≡ true = rw (get_or-take n bytes 0 0 positive) digit in
    let within = w.longest.within in
    let fails = list_all-fails is_ascii_digit bytes n k within below (front.stops (omega arith)) in
    let none : kind_of_word (take n bytes) ≡ None = rw (here, fails) in
    cc

pub bad_no_token : (bytes : List ℕ) (kind : Kind) (k m : ℕ) → IsBadByte bytes k → IsToken bytes kind m → ⊥
bad_no_token bytes kind k m (unknown nothing) (sign s) = let none = nothing.no_sign m s.within in let some = s.is in cc
bad_no_token bytes kind k m (unknown nothing) (word w is) = let no = nothing.no_word in let yes = w.begins in cc
bad_no_token bytes kind k m (broken w digit front below) (sign s) = sign_no_word bytes kind m _ s w
bad_no_token bytes kind k m (broken {n = n} w digit front below) (word v is) =
    let same = word_unique bytes n m w v in
    broken_no_word bytes kind m k v digit front (omega arith) is

pub bad_no_gap : (bytes : List ℕ) (k m : ℕ) → IsBadByte bytes k → IsGap bytes m → ⊥
bad_no_gap bytes k m (unknown nothing) (blank is) = let no = nothing.no_blank in cc
bad_no_gap bytes k m (unknown nothing) (comment hash front) = nothing.no_comment hash
bad_no_gap bytes k m (broken {n = n} w digit front below) g = gap_no_word bytes m n g w

pub bad_unique : (bytes : List ℕ) (k l : ℕ) → IsBadByte bytes k → IsBadByte bytes l → k ≡ l
bad_unique bytes k l (unknown nothing) (unknown other) = refl
bad_unique bytes k l (unknown nothing) (broken w digit front below) = let no = nothing.no_word in let yes = w.begins in absurd (cc)
bad_unique bytes k l (broken w digit front below) (unknown nothing) = let no = nothing.no_word in let yes = w.begins in absurd (cc)
bad_unique bytes k l (broken w digit front below) (broken w2 digit2 front2 below2) = front_unique is_ascii_digit bytes k l front front2

-- ---- one reading

-- nothing reads on from an offset
pub record Stops (bytes : List ℕ) (at : ℕ) : Type 0 where
  pub gaps : (n : ℕ) → IsGap (drop at bytes) n → ⊥
  pub tokens : (kind : Kind) (n : ℕ) → IsToken (drop at bytes) kind n → ⊥

stops_at_end : (bytes : List ℕ) → Stops bytes (length bytes)
stops_at_end bytes = record {
  gaps = λ n is. let within = gap_within (drop (length bytes) bytes) n is in omega (arith, within.0, within.1, length-drop (length bytes) bytes);
  tokens = λ kind n is. let within = token_within (drop (length bytes) bytes) kind n is in omega (arith, within.0, within.1, length-drop (length bytes) bytes);
}

stops_at_bad : (bytes : List ℕ) (at k : ℕ) → IsBadByte (drop at bytes) k → Stops bytes at
stops_at_bad bytes at k bad = record {
  gaps = λ n is. bad_no_gap (drop at bytes) k n bad is;
  tokens = λ kind n is. bad_no_token (drop at bytes) kind k n bad is;
}

same_reading : {bytes : List ℕ} {at to end : ℕ} {some others : List Token} → Reads bytes at some to → Reads bytes at others end → Stops bytes to → Stops bytes end → (some ≡ others) × (to ≡ end)
same_reading done done stops stops2 = (refl, refl)
same_reading done (gap is rest) stops stops2 = absurd (stops.gaps _ is)
same_reading done (token is rest) stops stops2 = absurd (stops.tokens _ _ is)
same_reading (gap is rest) done stops stops2 = absurd (stops2.gaps _ is)
same_reading (token is rest) done stops stops2 = absurd (stops2.tokens _ _ is)
same_reading {bytes} {at} {to} {end} (gap {n = n} is rest) (gap {n = m} {tokens = others} is2 rest2) stops stops2 =
    let same = gap_unique (drop at bytes) n m is is2 in
    same_reading rest (subst (λ i. Reads bytes (at + i) others end) (sym same) rest2) stops stops2
same_reading {bytes} {at} (gap {n = n} is rest) (token {n = m} {kind = kind} is2 rest2) stops stops2 = absurd (gap_no_token (drop at bytes) kind n m is is2)
same_reading {bytes} {at} (token {n = m} {kind = kind} is2 rest2) (gap {n = n} is rest) stops stops2 = absurd (gap_no_token (drop at bytes) kind n m is is2)
same_reading {bytes} {at} {to} {end} (token {n = n} {kind = k} {tokens = front} is rest) (token {n = m} {kind = l} {tokens = others} is2 rest2) stops stops2 =
    let same = token_unique (drop at bytes) k l n m is is2 in
    let kind_same : k ≡ l = same.0 in
    let length_same : n ≡ m = same.1 in
    let tails : (front ≡ others) × (to ≡ end) = same_reading rest (subst (λ i. Reads bytes (at + i) others end) (sym length_same) rest2) stops stops2 in
    let tail_same : front ≡ others = tails.0 in
    (cc, tails.1)

pub one_list : (bytes : List ℕ) (some others : List Token) → IsTokens bytes some → IsTokens bytes others → some ≡ others
one_list bytes some others reads reads2 = (same_reading reads reads2 (stops_at_end bytes) (stops_at_end bytes)).0

stops_there : (bytes : List ℕ) (at : ℕ) (bad : IsBadAt bytes at) → Stops bytes bad.reached
stops_there bytes at bad = stops_at_bad bytes bad.reached bad.offset bad.bad

pub one_place : (bytes : List ℕ) (at other : ℕ) → IsBadAt bytes at → IsBadAt bytes other → at ≡ other
one_place bytes at other one two =
    let same : one.reached ≡ two.reached = (same_reading one.reads two.reads (stops_there bytes at one) (stops_there bytes other two)).1 in
    let here : IsBadByte (drop one.reached bytes) two.offset = subst (λ i. IsBadByte (drop i bytes) two.offset) (sym same) two.bad in
    let offsets = bad_unique (drop one.reached bytes) one.offset two.offset one.bad here in
    omega (arith, one.place, two.place)

pub not_both : (bytes : List ℕ) (tokens : List Token) (at : ℕ) → IsTokens bytes tokens → IsBadAt bytes at → ⊥
not_both bytes tokens at reads bad =
    let same : length bytes ≡ bad.reached = (same_reading reads bad.reads (stops_at_end bytes) (stops_there bytes at bad)).1 in
    let within = bad_within (drop bad.reached bytes) bad.offset bad.bad in
    omega (arith, length-drop bad.reached bytes)
