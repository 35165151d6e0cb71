-- The parts of a text between the places of a byte.
use Rattle.std.proofs.Common.{◌≡◌, ◌+◌, ◌<◌, ℕ, zero, suc, Bool, true, false, not, ◌&&◌, ◌||◌, List, [], ◌∷◌, ◌++◌, length, map, take, drop, get_or, append_assoc, sym, ◌∙◌, ap, subst, refl, arith, if◌then◌else◌, nat_eq, nat_le, Vec, Option, Some, None, MatchOption}
use Rattle.std.specs.List.{list_all, list_any}
use Rattle.std.specs.Cmp.Lexicographic.{pointwise}
use Rattle.std.specs.Char.{is_ascii_digit}
use Rattle.std.specs.Str.Parse.{digits_value}
use Rattle.std.proofs.lemmas.Bool.Decides.{nat_tests}
use Rattle.std.proofs.lemmas.Cmp.{nat_list_eq_equiv}
use Rattle.std.proofs.lemmas.List.{append-nil, map-append, take_more}
use Rattle.std.specs.declared.alloc.Global.{Global}
use Rattle.dai_lex.specs.Words.{is_name}
use Rattle.dai_words.specs.Numbers.{is_number}
use Rattle.dai_words.specs.Bounds.{longer, parts_between, is_bound, bound_of, is_bound_text, bound_in, names_of, are_apart, are_small, IsCut}
use Rattle.dai_words.proofs.Digits.{and_left, and_right}

-- no byte is the mark, so far
abbrev pub Lacks : ℕ → List ℕ → ℕ → Type 0
Lacks mark text n = (k : ℕ) → k < n → nat_eq (get_or text k 0) mark ≡ false

lacks_later : (mark x : ℕ) (xs : List ℕ) (n : ℕ) → Lacks mark (x ∷ xs) (suc n) → Lacks mark xs n
lacks_later mark x xs n h = λ k below. h (suc k) (omega arith)

-- where no byte is the mark there is one part
pub one_part : (mark : ℕ) (xs : List ℕ) → Lacks mark xs (length xs) → parts_between mark xs ≡ xs ∷ []
one_part mark [] h = refl
one_part mark (x ∷ xs) h =
    let first : nat_eq x mark ≡ false = h 0 (omega arith) in
    let rest = one_part mark xs (λ k below. h (suc k) (omega arith)) in
    ap (λ b. if b then [] ∷ parts_between mark xs else longer x (parts_between mark xs)) first ∙ ap (longer x) rest

-- the parts before and behind the first mark
pub cut_at : (mark : ℕ) (xs : List ℕ) (i : ℕ) → i < length xs → Lacks mark xs i → nat_eq (get_or xs i 0) mark ≡ true → parts_between mark xs ≡ take i xs ∷ parts_between mark (drop (i + 1) xs)
cut_at mark [] i below h is = absurd (omega arith)
cut_at mark (x ∷ xs) zero below h is = ap (λ b. if b then [] ∷ parts_between mark xs else longer x (parts_between mark xs)) is
cut_at mark (x ∷ xs) (suc i) below h is =
    let first : nat_eq x mark ≡ false = h 0 (omega arith) in
    let rest = cut_at mark xs i (omega arith) (lacks_later mark x xs i h) is in
    let same : drop (suc i + 1) (x ∷ xs) ≡ drop (i + 1) xs = ap (λ n. drop n (x ∷ xs)) (let e : suc i + 1 ≡ suc (i + 1) = omega arith in e) in
    ap (λ b. if b then [] ∷ parts_between mark xs else longer x (parts_between mark xs)) first ∙ (ap (longer x) rest ∙ ap (λ ys. (x ∷ take i xs) ∷ parts_between mark ys) (sym same))

digit_is_no_mark : (x : ℕ) → is_ascii_digit x ≡ true → nat_eq x 61 ≡ false
digit_is_no_mark x h = grind (arith, nat_tests)

pub digits_are_one : (ds : List ℕ) → list_all is_ascii_digit ds ≡ true → parts_between 61 ds ≡ ds ∷ []
digits_are_one [] h = refl
digits_are_one (d ∷ ds) h =
    let first = digit_is_no_mark d (and_left (is_ascii_digit d) _ h) in
    let rest = digits_are_one ds (and_right (is_ascii_digit d) _ h) in
    ap (λ b. if b then [] ∷ parts_between 61 ds else longer d (parts_between 61 ds)) first ∙ ap (longer d) rest

longer_some : (x : ℕ) (ps : List (List ℕ)) → (ps ≡ [] → ⊥) → longer x ps ≡ [] → ⊥
longer_some x [] some e = some refl
longer_some x (p ∷ ps) some e = cc

some_part : (mark : ℕ) (xs : List ℕ) → parts_between mark xs ≡ [] → ⊥
some_part mark [] h = cc
some_part mark (x ∷ xs) h = by_case (nat_eq x mark) (some_part mark xs) h
  where
    by_case : (b : Bool) → (parts_between mark xs ≡ [] → ⊥) → (if b then [] ∷ parts_between mark xs else longer x (parts_between mark xs)) ≡ [] → ⊥
    by_case true some e = cc
    by_case false some e = longer_some x (parts_between mark xs) some e

longer_one : (x : ℕ) (xs p : List ℕ) (ps : List (List ℕ)) → ((q : List ℕ) → ps ≡ q ∷ [] → q ≡ xs) → longer x ps ≡ p ∷ [] → p ≡ x ∷ xs
longer_one x xs p [] rest g = absurd (let k : ⊥ = cc in k)
longer_one x xs p (q ∷ []) rest g = let k : x ∷ q ≡ p = cc in sym k ∙ ap (λ ys. x ∷ ys) (rest q refl)
longer_one x xs p (q ∷ r ∷ ps) rest g = absurd (let k : ⊥ = cc in k)

-- a single part is the whole
pub part_is_whole : (mark : ℕ) (xs p : List ℕ) → parts_between mark xs ≡ p ∷ [] → p ≡ xs
part_is_whole mark [] p h = let k : [] ≡ p = cc in sym k
part_is_whole mark (x ∷ xs) p h = by_case (nat_eq x mark) (part_is_whole mark xs) h
  where
    by_case : (b : Bool) → ((q : List ℕ) → parts_between mark xs ≡ q ∷ [] → q ≡ xs) → (if b then [] ∷ parts_between mark xs else longer x (parts_between mark xs)) ≡ p ∷ [] → p ≡ x ∷ xs
    by_case true rest e = absurd (some_part mark xs (let k : parts_between mark xs ≡ [] = cc in k))
    by_case false rest e = longer_one x xs p (parts_between mark xs) rest e

number_digits : (ds : List ℕ) → is_number ds ≡ true → list_all is_ascii_digit ds ≡ true
number_digits ds h = and_right _ (list_all is_ascii_digit ds) h

no_number : (name ds : List ℕ) (q r : List ℕ) (ps : List (List ℕ)) → parts_between 61 ds ≡ q ∷ r ∷ ps → (b : Bool) → is_number ds ≡ b → false ≡ (is_name name && b)
no_number name ds q r ps e true h = absurd (let k = digits_are_one ds (number_digits ds h) in let l : ⊥ = cc in l)
no_number name ds q r ps e false h = never (is_name name)
  where
    never : (b : Bool) → false ≡ (b && false)
    never true = refl
    never false = refl

bound_by_parts : (name ds : List ℕ) (ps : List (List ℕ)) → parts_between 61 ds ≡ ps → is_bound (name ∷ ps) ≡ (is_name name && is_number ds)
bound_by_parts name ds [] e = absurd (some_part 61 ds e)
bound_by_parts name ds (q ∷ []) e = ap (λ d. is_name name && is_number d) (part_is_whole 61 ds q e)
bound_by_parts name ds (q ∷ r ∷ ps) e = no_number name ds q r ps e (is_number ds) refl

pub bound_by_cut : (part : List ℕ) (at : ℕ) → IsCut part at → is_bound_text part ≡ (is_name (take at part) && is_number (drop (at + 1) part))
bound_by_cut part at c = ap is_bound c.parts ∙ bound_by_parts (take at part) (drop (at + 1) part) _ refl

pub whole_is_no_bound : (part : List ℕ) → parts_between 61 part ≡ part ∷ [] → is_bound_text part ≡ false
whole_is_no_bound part e = ap is_bound e

pub digits_of_bound : (part : List ℕ) (at : ℕ) → IsCut part at → is_bound_text part ≡ true → list_all is_ascii_digit (drop (at + 1) part) ≡ true
digits_of_bound part at c h = number_digits (drop (at + 1) part) (and_right (is_name (take at part)) (is_number (drop (at + 1) part)) (sym (bound_by_cut part at c) ∙ h))

pub bound_is : (part : List ℕ) (at : ℕ) → IsCut part at → is_bound_text part ≡ true → bound_in part ≡ (take at part, digits_value 10 (drop (at + 1) part))
bound_is part at c h =
    let one = digits_are_one (drop (at + 1) part) (digits_of_bound part at c h) in
    ap bound_of c.parts ∙ ap (λ ps. bound_of (take at part ∷ ps)) one

-- the parts with some bytes before the first one
abbrev pub begun : List ℕ → List (List ℕ) → List (List ℕ)
begun bytes [] = []
begun bytes (p ∷ ps) = (bytes ++ p) ∷ ps

begun_none : (ps : List (List ℕ)) → begun [] ps ≡ ps
begun_none [] = refl
begun_none (p ∷ ps) = refl

begun_longer : (bytes : List ℕ) (x : ℕ) (ps : List (List ℕ)) → begun bytes (longer x ps) ≡ begun (bytes ++ x ∷ []) ps
begun_longer bytes x [] = refl
begun_longer bytes x (p ∷ ps) = ap (λ ys. ys ∷ ps) (sym (append_assoc bytes (x ∷ []) p))

-- what a text is, by the parts that are whole, the bytes of the present part, and what is left
abbrev pub IsRead : ℕ → List ℕ → List (List ℕ) → List ℕ → List ℕ → Type 0
IsRead mark text parts bytes left = parts_between mark text ≡ parts ++ begun bytes (parts_between mark left)

pub read_none : (mark : ℕ) (text : List ℕ) → IsRead mark text [] [] text
read_none mark text = sym (begun_none (parts_between mark text))

pub read_mark : (mark : ℕ) (text : List ℕ) (parts : List (List ℕ)) (bytes : List ℕ) (x : ℕ) (left : List ℕ) → nat_eq x mark ≡ true → IsRead mark text parts bytes (x ∷ left) → IsRead mark text (parts ++ bytes ∷ []) [] left
read_mark mark text parts bytes x left is h =
    let here : parts_between mark (x ∷ left) ≡ [] ∷ parts_between mark left = ap (λ b. if b then [] ∷ parts_between mark left else longer x (parts_between mark left)) is in
    h ∙ (ap (λ ps. parts ++ begun bytes ps) here
    ∙ (ap (λ ys. parts ++ (ys ∷ parts_between mark left)) (append-nil bytes)
    ∙ (sym (append_assoc parts (bytes ∷ []) (parts_between mark left))
    ∙ ap (λ ps. (parts ++ bytes ∷ []) ++ ps) (sym (begun_none (parts_between mark left))))))

pub read_byte : (mark : ℕ) (text : List ℕ) (parts : List (List ℕ)) (bytes : List ℕ) (x : ℕ) (left : List ℕ) → nat_eq x mark ≡ false → IsRead mark text parts bytes (x ∷ left) → IsRead mark text parts (bytes ++ x ∷ []) left
read_byte mark text parts bytes x left is h =
    let here : parts_between mark (x ∷ left) ≡ longer x (parts_between mark left) = ap (λ b. if b then [] ∷ parts_between mark left else longer x (parts_between mark left)) is in
    h ∙ (ap (λ ps. parts ++ begun bytes ps) here ∙ ap (λ ps. parts ++ ps) (begun_longer bytes x (parts_between mark left)))

pub read_all : (mark : ℕ) (text : List ℕ) (parts : List (List ℕ)) (bytes : List ℕ) → IsRead mark text parts bytes [] → parts_between mark text ≡ parts ++ bytes ∷ []
read_all mark text parts bytes h = h ∙ ap (λ ys. parts ++ ys ∷ []) (append-nil bytes)

-- names that stand apart, one by one from the front
abbrev same_name : List ℕ → List ℕ → Bool
same_name = pointwise nat_eq

any_front : (a b c : Bool) → (a || b) ≡ false → (b ≡ false → c ≡ false) → (a || c) ≡ false
any_front true b c e f = e
any_front false b c e f = f e

any_more : (test : List ℕ → Bool) (xs : List (List ℕ)) (z : List ℕ) → list_any test xs ≡ false → test z ≡ false → list_any test (xs ++ z ∷ []) ≡ false
any_more test [] z e f = rw f refl
any_more test (w ∷ xs) z e f = any_front (test w) (list_any test xs) (list_any test (xs ++ z ∷ [])) e (λ g. any_more test xs z g f)

apart_more : (names : List (List ℕ)) (x : List ℕ) → are_apart names ≡ true → list_any (same_name x) names ≡ false → are_apart (names ++ x ∷ []) ≡ true
apart_more [] x h k = refl
apart_more (y ∷ ys) x h k =
    let own = and_left (not (list_any (same_name y) ys)) (are_apart ys) h in
    let rest = apart_more ys x (and_right (not (list_any (same_name y) ys)) (are_apart ys) h) (or_right_false (same_name x y) _ k) in
    let other : same_name y x ≡ false = nat_list_eq_equiv.symm y x ∙ or_left_false (same_name x y) _ k in
    let none : list_any (same_name y) (ys ++ x ∷ []) ≡ false = any_more (same_name y) ys x (not_true _ own) other in
    rw (none, rest) refl
  where
    or_left_false : (a b : Bool) → (a || b) ≡ false → a ≡ false
    or_left_false true b e = e
    or_left_false false b e = refl

    or_right_false : (a b : Bool) → (a || b) ≡ false → b ≡ false
    or_right_false true b e = absurd (let l : ⊥ = cc in l)
    or_right_false false b e = e

    not_true : (a : Bool) → not a ≡ true → a ≡ false
    not_true true e = absurd (let l : ⊥ = cc in l)
    not_true false e = refl

any_at : (test : List ℕ → Bool) (xs rest : List (List ℕ)) (x : List ℕ) → test x ≡ true → list_any test (xs ++ x ∷ rest) ≡ true
any_at test [] rest x e = rw e refl
any_at test (y ∷ ys) rest x e = or_true (test y) (any_at test ys rest x e)
  where
    or_true : (a : Bool) {b : Bool} → b ≡ true → (a || b) ≡ true
    or_true true h = refl
    or_true false h = h

both_false : (a b : Bool) → b ≡ false → (a && b) ≡ false
both_false true b f = f
both_false false b f = refl

-- a name that stands before makes the whole not apart
repeated_first : (names rest : List (List ℕ)) (x : List ℕ) → list_any (same_name x) names ≡ true → are_apart (names ++ x ∷ rest) ≡ false
repeated_first [] rest x h = absurd (let l : ⊥ = cc in l)
repeated_first (y ∷ ys) rest x h = by_case (same_name x y) refl (repeated_first ys rest x) h
  where
    found : (test : List ℕ → Bool) (xs : List (List ℕ)) → test x ≡ true → list_any test (xs ++ x ∷ rest) ≡ true
    found test xs e = any_at test xs rest x e

    by_case : (b : Bool) → same_name x y ≡ b → (list_any (same_name x) ys ≡ true → are_apart (ys ++ x ∷ rest) ≡ false) → (b || list_any (same_name x) ys) ≡ true → (not (list_any (same_name y) (ys ++ x ∷ rest)) && are_apart (ys ++ x ∷ rest)) ≡ false
    by_case true e later k = let f = found (same_name y) ys (nat_list_eq_equiv.symm y x ∙ e) in rw f refl
    by_case false e later k = both_false (not (list_any (same_name y) (ys ++ x ∷ rest))) (are_apart (ys ++ x ∷ rest)) (later k)

pub repeated : (names rest : List (List ℕ)) (x : List ℕ) → list_any (same_name x) names ≡ true → are_apart (names ++ x ∷ rest) ≡ false
repeated = repeated_first

pub apart_push : (names : List (List ℕ)) (x : List ℕ) → are_apart names ≡ true → list_any (same_name x) names ≡ false → are_apart (names ++ x ∷ []) ≡ true
apart_push = apart_more

-- an item and what stands before and behind it
pub split_at : {X : Type 0} (xs : List X) (i : ℕ) (x : X) → i < length xs → x ≡ get_or xs i x → xs ≡ take i xs ++ x ∷ drop (i + 1) xs
split_at [] i x below is = absurd (omega arith)
split_at (y ∷ ys) zero x below is = ap (λ z. z ∷ ys) (sym is)
split_at (y ∷ ys) (suc i) x below is =
    let rest = split_at ys i x (omega arith) is in
    let same : drop (suc i + 1) (y ∷ ys) ≡ drop (i + 1) ys = ap (λ n. drop n (y ∷ ys)) (let e : suc i + 1 ≡ suc (i + 1) = omega arith in e) in
    ap (λ zs. y ∷ zs) rest ∙ ap (λ zs. (y ∷ take i ys) ++ x ∷ zs) (sym same)

abbrev pub name_of : List ℕ → List ℕ
name_of part = (bound_in part).0

pub names_are : (parts : List (List ℕ)) → names_of (map bound_in parts) ≡ map name_of parts
names_are [] = refl
names_are (part ∷ parts) = ap (λ ns. name_of part ∷ ns) (names_are parts)

pub keys_among : (name : List ℕ) (keys : List (Vec ℕ Global)) → list_any (λ (key : Vec ℕ Global). pointwise nat_eq name key.items) keys ≡ list_any (same_name name) (map (λ (key : Vec ℕ Global). key.items) keys)
keys_among name [] = refl
keys_among name (key ∷ keys) = ap (λ b. pointwise nat_eq name key.items || b) (keys_among name keys)

-- the name of this part is known already
pub not_apart : (parts : List (List ℕ)) (i : ℕ) (part : List ℕ) → i < length parts → part ≡ get_or parts i part → list_any (same_name (name_of part)) (names_of (map bound_in (take i parts))) ≡ true → are_apart (names_of (map bound_in parts)) ≡ false
not_apart parts i part below is known =
    let split : names_of (map bound_in parts) ≡ map name_of (take i parts) ++ name_of part ∷ map name_of (drop (i + 1) parts) =
    names_are parts ∙ (ap (map name_of) (split_at parts i part below is) ∙ map-append name_of (take i parts) (part ∷ drop (i + 1) parts)) in
    ap are_apart split ∙ repeated (map name_of (take i parts)) (map name_of (drop (i + 1) parts)) (name_of part) (ap (list_any (same_name (name_of part))) (sym (names_are (take i parts))) ∙ known)

pub names_more : (parts : List (List ℕ)) (i : ℕ) (part : List ℕ) → i < length parts → part ≡ get_or parts i part → names_of (map bound_in (take (i + 1) parts)) ≡ names_of (map bound_in (take i parts)) ++ name_of part ∷ []
names_more parts i part below is =
    let more : take (i + 1) parts ≡ take i parts ++ part ∷ [] = take_more parts i part below ∙ ap (λ p. take i parts ++ p ∷ []) (sym is) in
    names_are (take (i + 1) parts) ∙ (ap (map name_of) more ∙ (map-append name_of (take i parts) (part ∷ []) ∙ ap (λ ns. ns ++ name_of part ∷ []) (sym (names_are (take i parts)))))

large_here : (n : ℕ) (b : Bool) → 4 < n → (nat_le n 4 && b) ≡ false
large_here n b h = ap (λ c. c && b) (let e : nat_le n 4 ≡ false = grind (arith, nat_tests) in e)

pub not_small : (parts : List (List ℕ)) (i : ℕ) (part : List ℕ) → i < length parts → part ≡ get_or parts i part → 4 < (bound_in part).1 → are_small (map bound_in parts) ≡ false
not_small [] i part below is large = absurd (omega arith)
not_small (p ∷ ps) zero part below is large = large_here (bound_in p).1 (are_small (map bound_in ps)) (subst (λ q. 4 < (bound_in q).1) is large)
not_small (p ∷ ps) (suc i) part below is large = both_false (nat_le (bound_in p).1 4) (are_small (map bound_in ps)) (not_small ps i part (omega arith) is large)

-- a new name comes last among the keys
pub key_added : (old new : List (Vec ℕ Global)) (key : Vec ℕ Global) (name : List ℕ) (names : List (List ℕ)) → key.items ≡ name → map (λ (k : Vec ℕ Global). k.items) old ≡ names → list_any (same_name name) names ≡ false → new ≡ (if list_any (λ (k : Vec ℕ Global). pointwise nat_eq key.items k.items) old then old else old ++ key ∷ []) → map (λ (k : Vec ℕ Global). k.items) new ≡ names ++ name ∷ []
key_added old new key name names is are unknown e =
    let absent : list_any (λ (k : Vec ℕ Global). pointwise nat_eq key.items k.items) old ≡ false =
    keys_among key.items old ∙ (ap (λ n. list_any (same_name n) (map (λ (k : Vec ℕ Global). k.items) old)) is ∙ (ap (list_any (same_name name)) are ∙ unknown)) in
    ap (map (λ (k : Vec ℕ Global). k.items)) (e ∙ ap (λ b. if b then old else old ++ key ∷ []) absent)
    ∙ (map-append (λ (k : Vec ℕ Global). k.items) old (key ∷ [])
    ∙ (λ i. are i ++ is i ∷ []))

pub from_none : {A : Type 0} (o : Option A) (P : Type 0) (Q : A → Type 0) → MatchOption o P Q → o ≡ None → P
from_none None P Q h e = h
from_none (Some a) P Q h e = absurd (let l : ⊥ = cc in l)
