-- The computed types of variables are those that they have.
use Rattle.std.proofs.Common.{◌≡◌, ℕ, zero, suc, ◌<◌, Bool, true, false, List, [], ◌∷◌, length, None, Some, ap, sym, ◌∙◌, refl, subst, nat_eq, if◌then◌else◌, slice_index, arith, ⊎_elim}
use Rattle.std.specs.List.{Contains}
use Rattle.std.proofs.lemmas.Bool.Decides.{nat_tests}
use Rattle.std.proofs.lemmas.List.Elements.{All-tail, All-contains}
use Rattle.dai_rules.specs.Types.{Use, typed, linked, HasType, given, from_right, from_left}
use Rattle.dai_rules.specs.Classes.{numbers_from, relabelled, after_use, after_uses, labels_of, type_in, types_in}
use Rattle.dai_rules.specs.Ranges.{IsUseWithin, AreUsesWithin}
use Rattle.dai_rules.proofs.Members.{not_in_nil, in_head, in_tail, in_cases, in_filter_map, from_filter_map}
use Rattle.dai_rules.proofs.ClassLemmas.{length-numbers_from, get_or-numbers_from, length-after_use}

chosen_same : (b : Bool) (x : ℕ) → (if b then x else x) ≡ x
chosen_same true x = refl
chosen_same false x = refl

equals_itself : (n : ℕ) → nat_eq n n ≡ true
equals_itself n = grind (arith, nat_tests)

equal_by : (n m : ℕ) → nat_eq n m ≡ true → n ≡ m
equal_by n m h = grind (arith, nat_tests, h)

label_after : (from to : ℕ) (labels : List ℕ) (v : ℕ) → v < length labels → slice_index (relabelled from to labels) v ≡ (if nat_eq (slice_index labels v) from then to else slice_index labels v)
label_after from to [] v h = absurd (omega (arith, h))
label_after from to (l ∷ ls) zero h = refl
label_after from to (l ∷ ls) (suc v) h = label_after from to ls v (omega (arith, h))

-- variables of one label keep one
same_use : (labels : List ℕ) (u : Use) (v w : ℕ) → v < length labels → w < length labels → slice_index labels v ≡ slice_index labels w → slice_index (after_use labels u) v ≡ slice_index (after_use labels u) w
same_use labels (typed a t) v w h k e = e
same_use labels (linked a b) v w h k e =
    label_after (slice_index labels b) (slice_index labels a) labels v h ∙ ap (λ l. if nat_eq l (slice_index labels b) then slice_index labels a else l) e
    ∙ sym (label_after (slice_index labels b) (slice_index labels a) labels w k)

same_uses : (uses : List Use) (labels : List ℕ) (v w : ℕ) → v < length labels → w < length labels → slice_index labels v ≡ slice_index labels w → slice_index (after_uses labels uses) v ≡ slice_index (after_uses labels uses) w
same_uses [] labels v w h k e = e
same_uses (u ∷ us) labels v w h k e =
    let n = length-after_use labels u in
    same_uses us (after_use labels u) v w (omega (arith, h, n)) (omega (arith, k, n)) (same_use labels u v w h k e)

same_link : (labels : List ℕ) (a b : ℕ) → a < length labels → b < length labels → slice_index (after_use labels (linked a b)) a ≡ slice_index (after_use labels (linked a b)) b
same_link labels a b h k =
    let x = slice_index labels a in
    let y = slice_index labels b in
    label_after y x labels a h ∙ chosen_same (nat_eq x y) x
    ∙ sym (label_after y x labels b k ∙ ap (λ c. if c then x else y) (equals_itself y))

-- variables that are compared have one label
linked_same : (uses : List Use) (labels : List ℕ) (a b : ℕ) → AreUsesWithin (length labels) uses → Contains uses (linked a b) → slice_index (after_uses labels uses) a ≡ slice_index (after_uses labels uses) b
linked_same [] labels a b within h = absurd (not_in_nil (linked a b) h)
linked_same (u ∷ us) labels a b within h =
    let n = length-after_use labels u in
    let below = All-contains (IsUseWithin (length labels)) (u ∷ us) (linked a b) within h in
    let one = below.0 in
    let other = below.1 in
    ⊎_elim
    (λ e. same_uses us (after_use labels u) a b (omega (arith, one, n)) (omega (arith, other, n)) (subst (λ x. slice_index (after_use labels x) a ≡ slice_index (after_use labels x) b) (sym e) (same_link labels a b one other)))
    (λ k. linked_same us (after_use labels u) a b (subst (λ m. AreUsesWithin m us) (sym n) (All-tail (IsUseWithin (length labels)) u us within)) k)
    (in_cases u us (linked a b) h)

type_read : (b : Bool) (t : List ℕ) → b ≡ true → (if b then Some t else None) ≡ Some t
type_read true t e = refl
type_read false t e = absurd (let k : ⊥ = cc in k)

-- where compared variables have one label, each type of a variable is one of its class
has_computed : (uses : List Use) (labels : List ℕ) → ((a b : ℕ) → Contains uses (linked a b) → slice_index labels a ≡ slice_index labels b) → (v : ℕ) (t : List ℕ) → HasType uses v t → Contains (types_in labels (slice_index labels v) uses) t
has_computed uses labels same v t (given h) = in_filter_map (type_in labels (slice_index labels v)) uses (typed v t) t h (type_read (nat_eq (slice_index labels v) (slice_index labels v)) t (equals_itself (slice_index labels v)))
has_computed uses labels same v t (from_right {w = w} h k) = subst (λ l. Contains (types_in labels l uses) t) (sym (same v w h)) (has_computed uses labels same w t k)
has_computed uses labels same v t (from_left {w = w} h k) = subst (λ l. Contains (types_in labels l uses) t) (same w v h) (has_computed uses labels same w t k)

-- variables of one label have the same types
abbrev Shares : List Use → List ℕ → Type 0
Shares uses labels = (v w : ℕ) → v < length labels → w < length labels → slice_index labels v ≡ slice_index labels w → (t : List ℕ) → HasType uses w t → HasType uses v t

shares_at_first : (uses : List Use) (count : ℕ) → Shares uses (numbers_from 0 count)
shares_at_first uses count = λ v w h k e t m.
    let n = length-numbers_from 0 count in
    let one = get_or-numbers_from 0 count v 0 (omega (arith, h, n)) in
    let other = get_or-numbers_from 0 count w 0 (omega (arith, k, n)) in
    let same : w ≡ v = omega (arith, one, other, e) in
    subst (λ x. HasType uses x t) same m

shared_by : (uses : List Use) (labels : List ℕ) (a b v w : ℕ) (x y : Bool) → Shares uses labels → Contains uses (linked a b) → a < length labels → b < length labels → v < length labels → w < length labels
    → nat_eq (slice_index labels v) (slice_index labels b) ≡ x → nat_eq (slice_index labels w) (slice_index labels b) ≡ y
    → (if x then slice_index labels a else slice_index labels v) ≡ (if y then slice_index labels a else slice_index labels w) → (t : List ℕ) → HasType uses w t → HasType uses v t
shared_by uses labels a b v w true true s link ha hb hv hw ex ey e t m =
    s v w hv hw (equal_by (slice_index labels v) (slice_index labels b) ex ∙ sym (equal_by (slice_index labels w) (slice_index labels b) ey)) t m
shared_by uses labels a b v w true false s link ha hb hv hw ex ey e t m =
    s v b hv hb (equal_by (slice_index labels v) (slice_index labels b) ex) t (from_left link (s a w ha hw e t m))
shared_by uses labels a b v w false true s link ha hb hv hw ex ey e t m =
    s v a hv ha e t (from_right link (s b w hb hw (sym (equal_by (slice_index labels w) (slice_index labels b) ey)) t m))
shared_by uses labels a b v w false false s link ha hb hv hw ex ey e t m = s v w hv hw e t m

shares_use : (uses : List Use) (labels : List ℕ) (u : Use) → IsUseWithin (length labels) u → Contains uses u → Shares uses labels → Shares uses (after_use labels u)
shares_use uses labels (typed a t) within h s = s
shares_use uses labels (linked a b) within h s = λ v w hv hw e t m.
    let n = length-after_use labels (linked a b) in
    let x = slice_index labels a in
    let y = slice_index labels b in
    let lv : v < length labels = omega (arith, hv, n) in
    let lw : w < length labels = omega (arith, hw, n) in
    shared_by uses labels a b v w (nat_eq (slice_index labels v) y) (nat_eq (slice_index labels w) y) s h within.0 within.1 lv lw refl refl (sym (label_after y x labels v lv) ∙ e ∙ label_after y x labels w lw) t m

shares_uses : (uses rest : List Use) (labels : List ℕ) → AreUsesWithin (length labels) rest → ((u : Use) → Contains rest u → Contains uses u) → Shares uses labels → Shares uses (after_uses labels rest)
shares_uses uses [] labels within among s = s
shares_uses uses (u ∷ us) labels within among s =
    let n = length-after_use labels u in
    shares_uses uses us (after_use labels u) (subst (λ m. AreUsesWithin m us) (sym n) (All-tail (IsUseWithin (length labels)) u us within)) (λ x h. among x (in_tail u us x h))
    (shares_use uses labels u (All-contains (IsUseWithin (length labels)) (u ∷ us) u within (in_head u us)) (among u (in_head u us)) s)

typed_at : (b : Bool) (s t : List ℕ) → (if b then Some s else None) ≡ Some t → (b ≡ true) × (s ≡ t)
typed_at true s t e = (refl, let k : s ≡ t = cc in k)
typed_at false s t e = absurd (let k : ⊥ = cc in k)

use_gives : (uses : List Use) (labels : List ℕ) (v : ℕ) (u : Use) (t : List ℕ) → Shares uses labels → v < length labels → IsUseWithin (length labels) u → Contains uses u → type_in labels (slice_index labels v) u ≡ Some t → HasType uses v t
use_gives uses labels v (typed a s) t shares hv within h e =
    let w = typed_at (nat_eq (slice_index labels a) (slice_index labels v)) s t e in
    shares v a hv within (sym (equal_by (slice_index labels a) (slice_index labels v) w.0)) t (given (subst (λ x. Contains uses (typed a x)) w.1 h))
use_gives uses labels v (linked a b) t shares hv within h e = absurd (let k : ⊥ = cc in k)

length-after_uses : (uses : List Use) (labels : List ℕ) → length (after_uses labels uses) ≡ length labels
length-after_uses [] labels = refl
length-after_uses (u ∷ us) labels = length-after_uses us (after_use labels u) ∙ length-after_use labels u

length-labels_of : (count : ℕ) (uses : List Use) → length (labels_of count uses) ≡ count
length-labels_of count uses = length-after_uses uses (numbers_from 0 count) ∙ length-numbers_from 0 count

first_within : (count : ℕ) (uses : List Use) → AreUsesWithin count uses → AreUsesWithin (length (numbers_from 0 count)) uses
first_within count uses within = subst (λ m. AreUsesWithin m uses) (sym (length-numbers_from 0 count)) within

pub type_computed : (count : ℕ) (uses : List Use) (v : ℕ) (t : List ℕ) → AreUsesWithin count uses → HasType uses v t → Contains (types_in (labels_of count uses) (slice_index (labels_of count uses) v) uses) t
type_computed count uses v t within h = has_computed uses (labels_of count uses) (λ a b k. linked_same uses (numbers_from 0 count) a b (first_within count uses within) k) v t h

pub type_by_class : (count : ℕ) (uses : List Use) (v : ℕ) (t : List ℕ) → AreUsesWithin count uses → v < count → Contains (types_in (labels_of count uses) (slice_index (labels_of count uses) v) uses) t → HasType uses v t
type_by_class count uses v t within below h =
    let labels = labels_of count uses in
    let n = length-labels_of count uses in
    let w = from_filter_map (type_in labels (slice_index labels v)) uses t h in
    use_gives uses labels v w.0 t (shares_uses uses uses (numbers_from 0 count) (first_within count uses within) (λ u k. k) (shares_at_first uses count)) (omega (arith, below, n))
    (All-contains (IsUseWithin (length labels)) uses w.0 (subst (λ m. AreUsesWithin m uses) (sym n) within) w.1) w.1 w.2
