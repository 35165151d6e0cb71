-- Labels of classes, and the types of a class after one more use.
use Rattle.std.proofs.Common.{◌≡◌, ◌≢◌, ℕ, zero, suc, ◌+◌, ◌<◌, Bool, true, false, ◌||◌, List, [], ◌∷◌, ◌++◌, length, get_or, None, Some, ap, sym, ◌∙◌, refl, subst, nat_eq, if◌then◌else◌, slice_index, arith, add-one}
use Rattle.std.specs.List.{list_any, cons_option}
use Rattle.std.proofs.lemmas.Bool.Decides.{nat_tests}
use Rattle.std.proofs.lemmas.List.Elements.{All-map, All-head, filter_map-append}
use Rattle.std.proofs.lemmas.List.{length-map}
use Rattle.dai_rules.specs.declared.classes.Summary.{Summary}
use Rattle.dai_rules.specs.Types.{Use, typed, linked}
use Rattle.dai_rules.specs.Classes.{numbers_from, after_use, type_in, types_in}
use Rattle.dai_rules.specs.Labels.{AreLabels, IsSummary, AreSummaries, AreUnordered, AddsType, AddsMark}
use Rattle.dai_syntax.specs.Tree.{Declaration}
use Rattle.dai_rules.specs.Rules.{is_unordered}
use Rattle.std.proofs.lemmas.List.Folds.{list_any-append}
use Rattle.dai_rules.proofs.Lists.{append_nil}

numbers_from-suc : (start n : ℕ) → numbers_from start (suc n) ≡ numbers_from start n ++ (start + n) ∷ []
numbers_from-suc start zero = ap (λ k. k ∷ []) (omega arith)
numbers_from-suc start (suc n) =
    let e : (start + 1) + n ≡ start + suc n = omega arith in
    ap (λ ks. start ∷ ks) (numbers_from-suc (start + 1) n ∙ ap (λ k. numbers_from (start + 1) n ++ k ∷ []) e)

pub numbers_from-snoc : (n : ℕ) → numbers_from 0 (n + 1) ≡ numbers_from 0 n ++ n ∷ []
numbers_from-snoc n = let e : 0 + n ≡ n = omega arith in rw add-one (numbers_from-suc 0 n ∙ ap (λ k. numbers_from 0 n ++ k ∷ []) e)

pub length-numbers_from : (start n : ℕ) → length (numbers_from start n) ≡ n
length-numbers_from start zero = refl
length-numbers_from start (suc n) = ap suc (length-numbers_from (start + 1) n)

pub get_or-numbers_from : (start n k d : ℕ) → k < n → get_or (numbers_from start n) k d ≡ start + k
get_or-numbers_from start zero k d h = absurd (omega arith)
get_or-numbers_from start (suc n) zero d h = omega arith
get_or-numbers_from start (suc n) (suc k) d h = get_or-numbers_from (start + 1) n k d (omega arith) ∙ omega arith

pub own_labels_below : (count : ℕ) → AreLabels count (numbers_from 0 count)
own_labels_below count = λ k d h.
    let len = length-numbers_from 0 count in
    let below : k < count = omega arith in
    let e = get_or-numbers_from 0 count k d below in
    omega arith

chosen_below : (b : Bool) (to label count : ℕ) → to < count → label < count → (if b then to else label) < count
chosen_below true to label count h k = h
chosen_below false to label count h k = k

index_below : (count : ℕ) (labels : List ℕ) (v : ℕ) → 0 < count → AreLabels count labels → slice_index labels v < count
index_below count [] v h k = h
index_below count (l ∷ ls) zero h k = All-head (λ label. label < count) l ls k
index_below count (l ∷ ls) (suc v) h k = index_below count ls v h (λ i d below. k (suc i) d (omega arith))

pub after_use_below : (count : ℕ) (labels : List ℕ) (u : Use) → AreLabels count labels → AreLabels count (after_use labels u)
after_use_below count labels (typed v t) h = h
after_use_below count [] (linked v w) h = h
after_use_below count (l ∷ ls) (linked v w) h =
    let some : 0 < count = let k = All-head (λ label. label < count) l ls h in omega arith in
    let to = index_below count (l ∷ ls) v some h in
    All-map (λ label. label < count) (λ (label : ℕ). if nat_eq label (slice_index (l ∷ ls) w) then slice_index (l ∷ ls) v else label) (l ∷ ls)
    (λ k d below. chosen_below (nat_eq (get_or (l ∷ ls) k d) (slice_index (l ∷ ls) w)) (slice_index (l ∷ ls) v) (get_or (l ∷ ls) k d) count to (h k d below))

pub length-after_use : (labels : List ℕ) (u : Use) → length (after_use labels u) ≡ length labels
length-after_use labels (typed v t) = refl
length-after_use labels (linked v w) = length-map labels (λ (label : ℕ). if nat_eq label (slice_index labels w) then slice_index labels v else label)

-- the types of a class after one more use
types_in-more : (labels : List ℕ) (label : ℕ) (uses : List Use) (u : Use) → types_in labels label (uses ++ u ∷ []) ≡ types_in labels label uses ++ cons_option (type_in labels label u) []
types_in-more labels label uses u = filter_map-append (type_in labels label) uses (u ∷ [])

pub types_in-linked : (labels : List ℕ) (label : ℕ) (uses : List Use) (v w : ℕ) → types_in labels label (uses ++ linked v w ∷ []) ≡ types_in labels label uses
types_in-linked labels label uses v w = types_in-more labels label uses (linked v w) ∙ append_nil (types_in labels label uses)

type_here : (b : Bool) (t : List ℕ) → b ≡ true → (if b then Some t else None) ≡ Some t
type_here true t h = refl
type_here false t h = absurd (let k : ⊥ = cc in k)

type_elsewhere : (b : Bool) (t : List ℕ) → b ≡ false → (if b then Some t else None) ≡ None
type_elsewhere true t h = absurd (let k : ⊥ = cc in k)
type_elsewhere false t h = refl

pub types_in-typed : (labels : List ℕ) (label : ℕ) (uses : List Use) (v : ℕ) (t : List ℕ) → slice_index labels v ≡ label → types_in labels label (uses ++ typed v t ∷ []) ≡ types_in labels label uses ++ t ∷ []
types_in-typed labels label uses v t e =
    types_in-more labels label uses (typed v t) ∙ ap (λ o. types_in labels label uses ++ cons_option o []) (type_here (nat_eq (slice_index labels v) label) t (grind (arith, nat_tests)))

pub types_in-others : (labels : List ℕ) (label : ℕ) (uses : List Use) (v : ℕ) (t : List ℕ) → label ≢ slice_index labels v → types_in labels label (uses ++ typed v t ∷ []) ≡ types_in labels label uses
types_in-others labels label uses v t n =
    types_in-more labels label uses (typed v t)
    ∙ ap (λ o. types_in labels label uses ++ cons_option o []) (type_elsewhere (nat_eq (slice_index labels v) label) t (grind (arith, nat_tests)))
    ∙ append_nil (types_in labels label uses)

pub summaries_linked : (labels : List ℕ) (uses : List Use) (v w : ℕ) (ss : List Summary) → AreSummaries labels uses ss → AreSummaries labels (uses ++ linked v w ∷ []) ss
summaries_linked labels uses v w ss h = record { count = h.count; each = λ label d below. subst (λ ts. IsSummary ts (get_or ss label d)) (sym (types_in-linked labels label uses v w)) (h.each label d below) }

summary_at : (b : Bool) (labels : List ℕ) (uses : List Use) (v : ℕ) (t : List ℕ) (old new : List Summary) (label : ℕ) (d : Summary) → nat_eq label (slice_index labels v) ≡ b
    → AddsType (slice_index labels v) t old new → AreSummaries labels uses old → label < length labels → IsSummary (types_in labels label (uses ++ typed v t ∷ [])) (get_or new label d)
summary_at true labels uses v t old new label d e added h below =
    let same : slice_index labels v ≡ label = grind (arith, nat_tests) in
    let within : slice_index labels v < length old = let k = h.count in omega arith in
    let s = added.there (types_in labels (slice_index labels v) uses) d within (h.each (slice_index labels v) d (omega arith)) in
    subst (λ ts. IsSummary ts (get_or new label d)) (sym (types_in-typed labels label uses v t same)) (subst (λ l. IsSummary (types_in labels l uses ++ t ∷ []) (get_or new l d)) same s)
summary_at false labels uses v t old new label d e added h below =
    let apart : label ≢ slice_index labels v = λ same. absurd (grind (arith, nat_tests, same)) in
    subst (λ ts. IsSummary ts (get_or new label d)) (sym (types_in-others labels label uses v t apart)) (subst (IsSummary (types_in labels label uses)) (sym (added.others label d apart)) (h.each label d below))

pub summaries_typed : (labels : List ℕ) (uses : List Use) (v : ℕ) (t : List ℕ) (old new : List Summary) → AddsType (slice_index labels v) t old new → AreSummaries labels uses old → AreSummaries labels (uses ++ typed v t ∷ []) new
summaries_typed labels uses v t old new added h = record {
  count = added.count ∙ h.count;
  each = λ label d below. summary_at (nat_eq label (slice_index labels v)) labels uses v t old new label d refl added h below;
}

-- marks of classes with a type without an order
pub marks_linked : (ds : List Declaration) (labels : List ℕ) (uses : List Use) (v w : ℕ) (ms : List Bool) → AreUnordered ds labels uses ms → AreUnordered ds labels (uses ++ linked v w ∷ []) ms
marks_linked ds labels uses v w ms h = record { count = h.count; each = λ label d below. h.each label d below ∙ ap (list_any (is_unordered ds)) (sym (types_in-linked labels label uses v w)) }

or_at_end : (a b : Bool) → b ≡ true → (a || (b || false)) ≡ true
or_at_end true b h = refl
or_at_end false true h = refl
or_at_end false false h = h

or_nothing : (a b : Bool) → b ≡ false → (a || (b || false)) ≡ a
or_nothing true b h = refl
or_nothing false true h = h
or_nothing false false h = refl

any_with : (ds : List Declaration) (ts : List (List ℕ)) (t : List ℕ) → is_unordered ds t ≡ true → list_any (is_unordered ds) (ts ++ t ∷ []) ≡ true
any_with ds ts t h = list_any-append (is_unordered ds) ts (t ∷ []) ∙ or_at_end (list_any (is_unordered ds) ts) (is_unordered ds t) h

any_without : (ds : List Declaration) (ts : List (List ℕ)) (t : List ℕ) → is_unordered ds t ≡ false → list_any (is_unordered ds) (ts ++ t ∷ []) ≡ list_any (is_unordered ds) ts
any_without ds ts t h = list_any-append (is_unordered ds) ts (t ∷ []) ∙ or_nothing (list_any (is_unordered ds) ts) (is_unordered ds t) h

mark_at : (b : Bool) (ds : List Declaration) (labels : List ℕ) (uses : List Use) (v : ℕ) (t : List ℕ) (old new : List Bool) (label : ℕ) (d : Bool) → nat_eq label (slice_index labels v) ≡ b → is_unordered ds t ≡ true
    → AddsMark (slice_index labels v) old new → AreUnordered ds labels uses old → label < length labels → get_or new label d ≡ list_any (is_unordered ds) (types_in labels label (uses ++ typed v t ∷ []))
mark_at true ds labels uses v t old new label d e un added h below =
    let same : slice_index labels v ≡ label = grind (arith, nat_tests) in
    let within : slice_index labels v < length old = let k = h.count in omega arith in
    ap (λ l. get_or new l d) (sym same) ∙ added.there d within ∙ sym (any_with ds (types_in labels label uses) t un) ∙ ap (list_any (is_unordered ds)) (sym (types_in-typed labels label uses v t same))
mark_at false ds labels uses v t old new label d e un added h below =
    let apart : label ≢ slice_index labels v = λ same. absurd (grind (arith, nat_tests, same)) in
    added.others label d apart ∙ h.each label d below ∙ ap (list_any (is_unordered ds)) (sym (types_in-others labels label uses v t apart))

pub marks_typed : (ds : List Declaration) (labels : List ℕ) (uses : List Use) (v : ℕ) (t : List ℕ) (old new : List Bool) → is_unordered ds t ≡ true → AddsMark (slice_index labels v) old new → AreUnordered ds labels uses old → AreUnordered ds labels (uses ++ typed v t ∷ []) new
marks_typed ds labels uses v t old new un added h = record {
  count = added.count ∙ h.count;
  each = λ label d below. mark_at (nat_eq label (slice_index labels v)) ds labels uses v t old new label d refl un added h below;
}

kept_at : (b : Bool) (ds : List Declaration) (labels : List ℕ) (uses : List Use) (v : ℕ) (t : List ℕ) (label : ℕ) → nat_eq label (slice_index labels v) ≡ b → is_unordered ds t ≡ false → list_any (is_unordered ds) (types_in labels label uses) ≡ list_any (is_unordered ds) (types_in labels label (uses ++ typed v t ∷ []))
kept_at true ds labels uses v t label e un =
    let same : slice_index labels v ≡ label = grind (arith, nat_tests) in
    sym (any_without ds (types_in labels label uses) t un) ∙ ap (list_any (is_unordered ds)) (sym (types_in-typed labels label uses v t same))
kept_at false ds labels uses v t label e un =
    let apart : label ≢ slice_index labels v = λ same. absurd (grind (arith, nat_tests, same)) in
    ap (list_any (is_unordered ds)) (sym (types_in-others labels label uses v t apart))

pub marks_kept : (ds : List Declaration) (labels : List ℕ) (uses : List Use) (v : ℕ) (t : List ℕ) (ms : List Bool) → is_unordered ds t ≡ false → AreUnordered ds labels uses ms → AreUnordered ds labels (uses ++ typed v t ∷ []) ms
marks_kept ds labels uses v t ms un h = record { count = h.count; each = λ label d below. h.each label d below ∙ kept_at (nat_eq label (slice_index labels v)) ds labels uses v t label refl un }

pub label_below : (labels : List ℕ) (v : ℕ) → AreLabels (length labels) labels → v < length labels → slice_index labels v < length labels
label_below labels v h below = index_below (length labels) labels v (omega arith) h
