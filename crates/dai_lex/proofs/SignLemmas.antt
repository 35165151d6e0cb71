-- The longest sign, by the first three bytes, with 0 past the end.
use Rattle.std.proofs.Common.{◌≡◌, ℕ, zero, suc, ◌<◌, ◌≤◌, List, [], ◌∷◌, length, get_or, take, Bool, true, false, ◌&&◌, cond, eqb, Some, None, refl, arith, ◌∙◌}
use Rattle.dai_lex.specs.declared.token.Kind.{Kind}
use Rattle.dai_lex.specs.declared.token.Kind.TheVariants.{DoubleArrow, Arrow, Assign, NotEqual, LessOrEqual}
use Rattle.dai_lex.specs.Signs.{one_byte_sign, two_byte_sign, three_byte_sign, sign_of, IsSign, BeginsNoSign}

-- no sign has four bytes or more
no_longer : (a b c : ℕ) (rest : List ℕ) (m : ℕ) → 3 < m → m ≤ length (a ∷ b ∷ c ∷ rest) → sign_of (take m (a ∷ b ∷ c ∷ rest)) ≡ None
no_longer a b c rest zero above within = absurd (omega arith)
no_longer a b c rest (suc zero) above within = absurd (omega arith)
no_longer a b c rest (suc (suc zero)) above within = absurd (omega arith)
no_longer a b c rest (suc (suc (suc zero))) above within = absurd (omega arith)
no_longer a b c [] (suc (suc (suc (suc m)))) above within = absurd (omega arith)
no_longer a b c (d ∷ rest) (suc (suc (suc (suc m)))) above within = refl

-- a test whose last part fails
cond_false : {A : Type 0} (p q : Bool) (x y : A) → cond (p && q && false) x y ≡ y
cond_false true true x y = refl
cond_false true false x y = refl
cond_false false q x y = refl

and_false : {A : Type 0} (p : Bool) (x y : A) → cond (p && false) x y ≡ y
and_false true x y = refl
and_false false x y = refl

-- no sign has a byte 0
no_zero_third : (a b : ℕ) → three_byte_sign a b 0 ≡ None
no_zero_third a b = cond_false (eqb a 60) (eqb b 45) (Some DoubleArrow) None

no_zero_second : (a : ℕ) → two_byte_sign a 0 ≡ None
no_zero_second a =
    and_false (eqb a 45) (Some Arrow) _
    ∙ and_false (eqb a 58) (Some Assign) _
    ∙ and_false (eqb a 126) (Some NotEqual) _
    ∙ and_false (eqb a 60) (Some LessOrEqual) _

pub from_three : (bytes : List ℕ) (kind : Kind) → three_byte_sign (get_or bytes 0 0) (get_or bytes 1 0) (get_or bytes 2 0) ≡ Some kind → IsSign bytes kind 3
from_three [] kind is = cc
from_three (a ∷ []) kind is = let e = no_zero_third a 0 in cc
from_three (a ∷ b ∷ []) kind is = let e = no_zero_third a b in cc
from_three (a ∷ b ∷ c ∷ rest) kind is = record { within = omega arith; is = is; longest = no_longer a b c rest }

-- where the first three bytes are no sign, a longer front than two isn't
no_three : (bytes : List ℕ) → three_byte_sign (get_or bytes 0 0) (get_or bytes 1 0) (get_or bytes 2 0) ≡ None → (m : ℕ) → 2 < m → m ≤ length bytes → sign_of (take m bytes) ≡ None
no_three bytes none zero above within = absurd (omega arith)
no_three bytes none (suc zero) above within = absurd (omega arith)
no_three bytes none (suc (suc zero)) above within = absurd (omega arith)
no_three [] none (suc (suc (suc m))) above within = absurd (omega arith)
no_three (a ∷ []) none (suc (suc (suc m))) above within = absurd (omega arith)
no_three (a ∷ b ∷ []) none (suc (suc (suc m))) above within = absurd (omega arith)
no_three (a ∷ b ∷ c ∷ rest) none (suc (suc (suc zero))) above within = none
no_three (a ∷ b ∷ c ∷ rest) none (suc (suc (suc (suc m)))) above within = no_longer a b c rest (suc (suc (suc (suc m)))) (omega arith) within

pub from_two : (bytes : List ℕ) (kind : Kind) → three_byte_sign (get_or bytes 0 0) (get_or bytes 1 0) (get_or bytes 2 0) ≡ None → two_byte_sign (get_or bytes 0 0) (get_or bytes 1 0) ≡ Some kind → IsSign bytes kind 2
from_two [] kind none is = cc
from_two (a ∷ []) kind none is = let e = no_zero_second a in cc
from_two (a ∷ b ∷ rest) kind none is = record { within = omega arith; is = is; longest = no_three (a ∷ b ∷ rest) none }

no_two : (bytes : List ℕ) → three_byte_sign (get_or bytes 0 0) (get_or bytes 1 0) (get_or bytes 2 0) ≡ None → two_byte_sign (get_or bytes 0 0) (get_or bytes 1 0) ≡ None → (m : ℕ) → 1 < m → m ≤ length bytes → sign_of (take m bytes) ≡ None
no_two bytes none none2 zero above within = absurd (omega arith)
no_two bytes none none2 (suc zero) above within = absurd (omega arith)
no_two [] none none2 (suc (suc m)) above within = absurd (omega arith)
no_two (a ∷ []) none none2 (suc (suc m)) above within = absurd (omega arith)
no_two (a ∷ b ∷ rest) none none2 (suc (suc zero)) above within = none2
no_two (a ∷ b ∷ rest) none none2 (suc (suc (suc m))) above within = no_three (a ∷ b ∷ rest) none (suc (suc (suc m))) (omega arith) within

pub from_one : (bytes : List ℕ) (kind : Kind) → three_byte_sign (get_or bytes 0 0) (get_or bytes 1 0) (get_or bytes 2 0) ≡ None → two_byte_sign (get_or bytes 0 0) (get_or bytes 1 0) ≡ None → one_byte_sign (get_or bytes 0 0) ≡ Some kind → IsSign bytes kind 1
from_one [] kind none none2 is = cc
from_one (a ∷ rest) kind none none2 is = record { within = omega arith; is = is; longest = no_two (a ∷ rest) none none2 }

pub from_none : (bytes : List ℕ) → three_byte_sign (get_or bytes 0 0) (get_or bytes 1 0) (get_or bytes 2 0) ≡ None → two_byte_sign (get_or bytes 0 0) (get_or bytes 1 0) ≡ None → one_byte_sign (get_or bytes 0 0) ≡ None → BeginsNoSign bytes
from_none bytes none none2 none1 zero within = refl
from_none [] none none2 none1 (suc m) within = absurd (omega arith)
from_none (a ∷ rest) none none2 none1 (suc zero) within = none1
from_none (a ∷ rest) none none2 none1 (suc (suc m)) within = no_two (a ∷ rest) none none2 (suc (suc m)) (omega arith) within
