-- The tokens after the first.
use Rattle.std.proofs.Common.{suc, ◌≡◌, ◌-◌, List, [], ◌∷◌, length, take, drop, arith, refl, sym, ap, subst, ◌∙◌}
use Rattle.std.specs.List.{All}

take_all : {A : Type 0} (xs : List A) → take (length xs) xs ≡ xs
take_all [] = refl
take_all (x ∷ xs) = ap (λ ys. x ∷ ys) (take_all xs)

pub after_first : {A : Type 0} (x : A) (xs : List A) → take (length (x ∷ xs) - 1) (drop 1 (x ∷ xs)) ≡ xs
after_first x xs = let e : length (x ∷ xs) - 1 ≡ length xs = omega arith in ap (λ n. take n xs) e ∙ take_all xs

all_tail : {A : Type 0} (P : A → Type 0) (x : A) (xs : List A) → All P (x ∷ xs) → All P xs
all_tail P x xs h = λ k d lt. h (suc k) d (omega arith)

pub all_after_first : {A : Type 0} (P : A → Type 0) (xs : List A) → All P xs → All P (take (length xs - 1) (drop 1 xs))
all_after_first P [] h = h
all_after_first P (x ∷ xs) h = let Q : List _ → Type 0 = λ ys. All P ys in subst Q (sym (after_first x xs)) (all_tail P x xs h)
