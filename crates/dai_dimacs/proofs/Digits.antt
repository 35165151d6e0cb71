-- Digits, and the number that they are.
use Rattle.std.proofs.Common.{◌≡◌, ◌+◌, ◌*◌, ◌-◌, ◌<◌, ◌≤◌, ℕ, zero, suc, Bool, true, false, ◌&&◌, refl, List, [], ◌∷◌, ◌++◌, length, map, get_or, take, drop, sym, ◌∙◌, ap, arith}
use Rattle.std.specs.Int.{IsInRange}
use Rattle.std.specs.List.{list_all}
use Rattle.std.specs.Char.{is_ascii_digit, digit_value}
use Rattle.std.specs.Str.Parse.{digits_value}
use Rattle.std.specs.Int.Digits.{number_from_digits, number_from_digits_after}
use Rattle.std.proofs.lemmas.Int.Digits.{digits_value_is, digits_value_more, number_after_append, number_after_ge}
use Rattle.std.proofs.lemmas.List.{take-append-drop, map-append}
use Rattle.std.proofs.lemmas.Str.{digit_value_digit}
use Rattle.std.proofs.lemmas.Bool.Decides.{nat_tests}

pub and_left : (a b : Bool) → (a && b) ≡ true → a ≡ true
and_left true b h = refl
and_left false b h = h

pub and_right : (a b : Bool) → (a && b) ≡ true → b ≡ true
and_right true b h = h
and_right false b h = absurd (let k : ⊥ = cc in k)

digit_in_range : (b : ℕ) → is_ascii_digit b ≡ true → IsInRange 48 57 b
digit_in_range b h = grind (arith, nat_tests)

-- each byte of digits is a digit
pub each_digit : (bs : List ℕ) (i : ℕ) → list_all is_ascii_digit bs ≡ true → i < length bs → IsInRange 48 57 (get_or bs i 0)
each_digit [] i h below = absurd (omega arith)
each_digit (b ∷ bs) zero h below = digit_in_range b (and_left (is_ascii_digit b) _ h)
each_digit (b ∷ bs) (suc i) h below = each_digit bs i (and_right (is_ascii_digit b) _ h) (omega arith)

-- one digit more
pub value_more : (bs : List ℕ) (i : ℕ) → list_all is_ascii_digit bs ≡ true → i < length bs → digits_value 10 (take (i + 1) bs) ≡ 10 * digits_value 10 (take i bs) + (get_or bs i 0 - 48)
value_more bs i h below =
    let range = each_digit bs i h below in
    let digit = digit_value_digit (get_or bs i 0) range in
    let more = digits_value_more 10 bs i below in
    omega (arith, range, digit, more)

-- a front of digits is no greater number
pub front_no_greater : (bs : List ℕ) (i : ℕ) → digits_value 10 (take i bs) ≤ digits_value 10 bs
front_no_greater bs i =
    let whole = take-append-drop i bs in
    let parts = number_after_append 10 0 (map digit_value (take i bs)) (map digit_value (drop i bs)) in
    let grows = number_after_ge 10 (number_from_digits_after 10 0 (map digit_value (take i bs))) (map digit_value (drop i bs)) (omega arith) in
    let front = digits_value_is 10 (take i bs) in
    let all = digits_value_is 10 bs in
    let mapped : map digit_value (take i bs) ++ map digit_value (drop i bs) ≡ map digit_value bs = sym (map-append digit_value (take i bs) (drop i bs)) ∙ ap (map digit_value) whole in
    let joined : number_from_digits 10 (map digit_value (take i bs) ++ map digit_value (drop i bs)) ≡ number_from_digits 10 (map digit_value bs) = ap (number_from_digits 10) mapped in
    omega (arith, parts, grows, front, all, joined)
