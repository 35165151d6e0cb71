use Rattle.std.proofs.Common.{◌≡◌, ◌≤◌, ℕ, List, [], ◌∷◌, ◌++◌, length, refl, sym, ◌∙◌, arith}
use Rattle.std.specs.List.{slice_range}
use Rattle.std.proofs.lemmas.List.{map-append, take-append-le, drop_at, take_all}
use Rattle.std.proofs.lemmas.Slice.{between_is}
use Rattle.std.proofs.lemmas.List.Elements.{All-head, All-tail}
use Rattle.dai_trail.specs.declared.lists.Span.{Span}
use Rattle.dai_trail.specs.Lists.{lists_of, AreWithin}

-- a part that lies within the front of a longer list is the part of the front
pub slice_range-append : {T : Type 0} (xs ys : List T) (i j : ℕ) → i ≤ j → j ≤ length xs → slice_range (xs ++ ys) i j ≡ slice_range xs i j
slice_range-append xs ys i j h l = between_is (xs ++ ys) i j ∙ (rw (take-append-le j xs ys l) (sym (between_is xs i j)))

-- what is appended is the part behind the front
pub slice_range-append_end : {T : Type 0} (xs ys : List T) (n : ℕ) → n ≡ length (xs ++ ys) → slice_range (xs ++ ys) (length xs) n ≡ ys
slice_range-append_end xs ys n e =
    let l : length (xs ++ ys) ≤ n = omega arith in
    between_is (xs ++ ys) (length xs) n ∙ (rw (take_all n (xs ++ ys) l) (drop_at xs ys (length xs) refl))

-- the lists stay as they were where the flat list grows
pub lists_of-append : {T : Type 0} (xs ys : List T) (spans : List Span) → AreWithin (length xs) spans → lists_of (xs ++ ys) spans ≡ lists_of xs spans
lists_of-append xs ys [] h = refl
lists_of-append xs ys (s ∷ spans) h =
    let P : Span → Type 0 = λ t. (t.start ≤ t.end) × (t.end ≤ length xs) in
    let here : (s.start ≤ s.end) × (s.end ≤ length xs) = All-head P s spans h in
    let e = slice_range-append xs ys s.start s.end here.0 here.1 in
    let rest = lists_of-append xs ys spans (All-tail P s spans h) in
    cc

-- one more list
pub lists_of-push : {T : Type 0} (xs ys : List T) (spans : List Span) (s : Span) → AreWithin (length xs) spans → s.start ≡ length xs → s.end ≡ length (xs ++ ys) → lists_of (xs ++ ys) (spans ++ s ∷ []) ≡ lists_of xs spans ++ ys ∷ []
lists_of-push {T} xs ys spans s h b e =
    let f : Span → List T = λ t. slice_range (xs ++ ys) t.start t.end in
    map-append f spans (s ∷ [])
    ∙ (rw (lists_of-append xs ys spans h, b, slice_range-append_end xs ys s.end e) refl)
