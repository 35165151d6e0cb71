-- What is written after several puts.
use Rattle.std.proofs.Common.{◌≡◌, ◌+◌, ◌-◌, ◌≤◌, ℕ, zero, suc, List, [], ◌∷◌, ◌++◌, length, take, drop, Option, Some, None, option_map, sym, ◌∙◌, ap, refl, arith, append_assoc, length-take}
use Rattle.std.specs.Prelude.{min}
use Rattle.std.proofs.lemmas.List.{append-nil}
use Rattle.dai_base.specs.Count.{Rises}
use Rattle.dai_base.specs.Sink.{Appends, AppendsPart}

abbrev no_bytes : List ℕ
no_bytes = []

pub appends_none : (old : Option (List ℕ)) → Appends old old []
appends_none None = refl
appends_none (Some w) = ap Some (sym (append-nil w))

pub part_none : (old : Option (List ℕ)) (text : List ℕ) → AppendsPart old old text
part_none old text = (0, appends_none old)

appends_both : (old now new : Option (List ℕ)) (a b : List ℕ) → Appends old now a → Appends now new b → Appends old new (a ++ b)
appends_both None now new a b h k = k ∙ ap (option_map (λ w. w ++ b)) h
appends_both (Some w) now new a b h k = k ∙ (ap (option_map (λ v. v ++ b)) h ∙ ap Some (append_assoc w a b))

take_of_none : (n : ℕ) → take n no_bytes ≡ no_bytes
take_of_none zero = refl
take_of_none (suc n) = refl

front_more : (d k : ℕ) (xs : List ℕ) → take d xs ++ take k (drop d xs) ≡ take (d + k) xs
front_more zero k xs = ap (λ n. take n xs) (let e : k ≡ 0 + k = omega arith in e)
front_more (suc d) k [] = take_of_none k ∙ sym (take_of_none (suc d + k))
front_more (suc d) k (x ∷ xs) =
    let rest = front_more d k xs in
    ap (λ ys. x ∷ ys) rest ∙ ap (λ n. take n (x ∷ xs)) (let e : suc (d + k) ≡ suc d + k = omega arith in e)

-- a put that was whole
pub put_more : (old now new : Option (List ℕ)) (text : List ℕ) (d k : ℕ) → Appends old now (take d text) → Appends now new (take k (drop d text)) → Appends old new (take (d + k) text)
put_more old now new text d k h p = appends_both old now new (take d text) (take k (drop d text)) h p ∙ ap (λ ys. option_map (λ w. w ++ ys) old) (front_more d k text)

take_twice : (j k : ℕ) (xs : List ℕ) → take j (take k xs) ≡ take (min j k) xs
take_twice zero k xs = ap (λ n. take n xs) (let e : 0 ≡ min 0 k = omega arith in e)
take_twice (suc j) zero xs = ap (λ n. take n xs) (let e : 0 ≡ min (suc j) 0 = omega arith in e)
take_twice (suc j) (suc k) [] = sym (take_of_none (min (suc j) (suc k)))
take_twice (suc j) (suc k) (x ∷ xs) = ap (λ ys. x ∷ ys) (take_twice j k xs) ∙ ap (λ n. take n (x ∷ xs)) (let e : suc (min j k) ≡ min (suc j) (suc k) = omega arith in e)

-- a put that failed after some bytes
pub put_part : (old now new : Option (List ℕ)) (text : List ℕ) (d k : ℕ) → Appends old now (take d text) → AppendsPart now new (take k (drop d text)) → AppendsPart old new text
put_part old now new text d k h (count, p) =
    (d + min count k, put_more old now new text d (min count k) h (p ∙ ap (λ ys. option_map (λ w. w ++ ys) now) (take_twice count k (drop d text))))

pub put_nothing : (old now new : Option (List ℕ)) (text : List ℕ) (d : ℕ) → Appends old now (take d text) → new ≡ now → AppendsPart old new text
put_nothing old now new text d h e = (d, e ∙ h)

pub left_length : (d : ℕ) (xs : List ℕ) → d ≤ length xs → length (take (length xs - d) (drop d xs)) ≡ length xs - d
left_length zero [] h = refl
left_length zero (x ∷ xs) h = whole_length (x ∷ xs)
  where
    whole_length : (ys : List ℕ) → length (take (length ys - 0) ys) ≡ length ys - 0
    whole_length ys = let e = length-take (length ys - 0) ys in omega (arith, e)
left_length (suc d) [] h = absurd (omega arith)
left_length (suc d) (x ∷ xs) h =
    let rest = left_length d xs (omega arith) in
    let same : length (x ∷ xs) - suc d ≡ length xs - d = omega arith in
    ap (λ n. length (take n (drop d xs))) same ∙ (rest ∙ sym same)

pub rises_from : (first before now : ℕ) → first ≤ before → Rises before now → Rises first now
rises_from first before now h k = omega (arith, h, k)
