-- Two lists side by side.
use Rattle.std.proofs.Common.{◌≡◌, ◌<◌, ℕ, zero, suc, List, [], ◌∷◌, length, map, get_or, take, sym, ◌∙◌, ap, refl, arith}
use Rattle.std.specs.List.{zip}
use Rattle.dai_model.specs.Protocol.{Sort}
use Rattle.dai_logic.specs.Parts.{sort_of}
use Rattle.dai_logic.specs.declared.protocol.SortInfo.{SortInfo}

pub zip_length : {X Y : Type 0} (xs : List X) (ys : List Y) → length ys ≡ length xs → length (zip xs ys) ≡ length xs
zip_length [] ys e = refl
zip_length (x ∷ xs) [] e = absurd (omega arith)
zip_length (x ∷ xs) (y ∷ ys) e = let k = zip_length xs ys (omega arith) in omega arith

pub zip_at : (sorts : List SortInfo) (ys : List ℕ) (i : ℕ) (s : SortInfo) (y : ℕ) → i < length sorts → length ys ≡ length sorts → s ≡ get_or sorts i s → y ≡ get_or ys i 0
    → (sort_of s, y) ≡ get_or (zip (map sort_of sorts) ys) i (sort_of s, y)
zip_at [] ys i s y below e is at = absurd (omega arith)
zip_at (t ∷ ts) [] i s y below e is at = absurd (omega arith)
zip_at (t ∷ ts) (z ∷ zs) zero s y below e is at = λ k. (sort_of (is k), at k)
zip_at (t ∷ ts) (z ∷ zs) (suc i) s y below e is at = zip_at ts zs i s y (omega arith) (omega arith) is at

take_beyond : {X : Type 0} (xs : List X) (n : ℕ) → n ≡ length xs → take n xs ≡ xs
take_beyond [] zero e = refl
take_beyond [] (suc n) e = refl
take_beyond (x ∷ xs) zero e = absurd (omega arith)
take_beyond (x ∷ xs) (suc n) e = ap (λ ys. x ∷ ys) (take_beyond xs n (omega arith))

pub take_whole : {X : Type 0} (xs : List X) (n : ℕ) → n ≡ length xs → take n xs ≡ xs
take_whole = take_beyond
