-- One variable more has its element.
use Rattle.std.proofs.Common.{◌≡◌, ◌≢◌, ◌<◌, ◌≤◌, ℕ, zero, suc, ◌+◌, ◌*◌, Bool, false, List, [], ◌∷◌, length, get_or, set, map, Some, sym, ap, ◌∙◌, refl, subst, arith, inl, inr, ◌⊎◌}
use Rattle.std.specs.Prelude.{slice_index, slice_get}
use Rattle.std.proofs.lemmas.Bool.{cases_lt}
use Rattle.std.proofs.lemmas.List.{get_or-map, get_or-set_same, get_or-set_other, length-set, get_or_default}
use Rattle.std.proofs.lemmas.Option.{get_or_from_slice_get}
use Rattle.dai_model.specs.Protocol.{Protocol, Sort}
use Rattle.dai_model.specs.Placement.{Apart, of_sort, ArePlacements}
use Rattle.dai_model.specs.Clause.{Atom}
use Rattle.dai_model.proofs.Typed.{slice_get-length}
use Rattle.dai_logic.specs.declared.structure.Structure.{Structure}
use Rattle.dai_template.specs.Meeting.{Before, Agree, IsBegun, IsJudged, MayStand}
use Rattle.dai_template.proofs.MetFrom.{count_inside}

pub begun_end : (P : Protocol) (sizes counts : List ℕ) (sort number : ℕ) (values : List ℕ) → sort ≡ length counts → IsBegun P sizes counts sort number values → IsBegun P sizes counts (length counts) 0 values
begun_end P sizes counts sort number values same b = record {
  long = b.long;
  inside = λ t i h before. b.inside t i h (inl (let k = count_inside counts t i h in omega (arith, k, same)));
  apart = λ t T i j e h k before. b.apart t T i j e h k (inl (let l = count_inside counts t j k in omega (arith, l, same)));
}

apart_places : (t i sort number : ℕ) → i < 4 → Before t i sort number → 4 * t + i ≢ 4 * sort + number
apart_places t i sort number small (inl below) = λ e. omega (arith, small, below, e)
apart_places t i sort number small (inr here) = λ e. let a = here.0 in let b = here.1 in omega (arith, a, b, e)

read_other : (counts values : List ℕ) (t i sort number e : ℕ) → ((u : ℕ) → slice_index counts u ≤ 4) → i < slice_index counts t → Before t i sort number → get_or (set values (4 * sort + number) e) (4 * t + i) 0 ≡ get_or values (4 * t + i) 0
read_other counts values t i sort number e few h before = get_or-set_other values (4 * sort + number) (4 * t + i) e 0 (apart_places t i sort number (let k = few t in omega (arith, h, k)) before)

read_same : (counts values : List ℕ) (sort number e : ℕ) → length values ≡ 32 → length counts ≤ 8 → ((u : ℕ) → slice_index counts u ≤ 4) → number < slice_index counts sort → get_or (set values (4 * sort + number) e) (4 * sort + number) 0 ≡ e
read_same counts values sort number e long types few h = get_or-set_same values (4 * sort + number) e 0 (let k = few sort in let l = count_inside counts sort number h in omega (arith, h, k, l, long, types))

-- a variable before the next one is this one or before it
split : (t i sort number : ℕ) → Before t i sort (number + 1) → Before t i sort number ⊎ ((t ≡ sort) × (i ≡ number))
split t i sort number (inl below) = inl (inl below)
split t i sort number (inr here) = last (cases_lt i number)
  where
    last : (i < number) ⊎ (number ≤ i) → Before t i sort number ⊎ ((t ≡ sort) × (i ≡ number))
    last (inl below) = inl (inr (here.0, below))
    last (inr past) = let h = here.1 in inr (here.0, omega (arith, h, past))

wider : (t i sort number : ℕ) → Before t i sort number → Before t i sort (number + 1)
wider t i sort number (inl below) = inl below
wider t i sort number (inr here) = inr (here.0, let h = here.1 in omega (arith, h))

-- the order of the type
pub order_at : (Ts : List Sort) (sort : ℕ) (T : Sort) (orders : List Bool) → slice_get Ts sort ≡ Some T → orders ≡ map (λ (U : Sort). U.ordered) Ts → get_or orders sort false ≡ T.ordered
order_at Ts sort T orders h e =
    ap (λ os. get_or os sort false) e
    ∙ (get_or-map (λ (U : Sort). U.ordered) Ts sort T false (slice_get-length Ts sort T h) ∙ ap (λ (U : Sort). U.ordered) (get_or_from_slice_get Ts sort T T h))

moved : (a b : Bool) (d e x y : ℕ) → a ≡ b → d ≡ x → e ≡ y → Apart a d e → Apart b x y
moved a b d e x y f g h k = subst (λ t. Apart t x y) f (subst (λ t. Apart a t y) g (subst (λ t. Apart a d t) h k))

-- which of the types are ordered, and few variables
pub record IsSearched (P : Protocol) (orders : List Bool) (counts : List ℕ) : Type 0 where
  pub orders_are : (t : ℕ) (T : Sort) → slice_get P.sorts t ≡ Some T → get_or orders t false ≡ T.ordered
  pub each : length counts ≡ length P.sorts
  pub few_types : length counts ≤ 8
  pub few : (t : ℕ) → slice_index counts t ≤ 4

pub choice_begun : (P : Protocol) (orders : List Bool) (counts sizes : List ℕ) (sort number e : ℕ) (values : List ℕ) → IsSearched P orders counts → IsBegun P sizes counts sort number values → number < slice_index counts sort → e < slice_index sizes sort → MayStand (get_or orders sort false) sort number e values → IsBegun P sizes counts sort (number + 1) (set values (4 * sort + number) e)
choice_begun P orders counts sizes sort number e values j b room below may = record {
  long = length-set values (4 * sort + number) e ∙ b.long;
  inside = λ t i h before. inside_at t i h (split t i sort number before);
  apart = λ t T i k f h l before. apart_at t T i k f h l (split t k sort number before);
}
  where
    own : get_or (set values (4 * sort + number) e) (4 * sort + number) 0 ≡ e
    own = read_same counts values sort number e b.long j.few_types j.few room

    inside_at : (t i : ℕ) → i < slice_index counts t → Before t i sort number ⊎ ((t ≡ sort) × (i ≡ number)) → slice_index (set values (4 * sort + number) e) (4 * t + i) < slice_index sizes t
    inside_at t i h (inl before) = subst (λ x. x < slice_index sizes t) (sym (read_other counts values t i sort number e j.few h before)) (b.inside t i h before)
    inside_at t i h (inr here) =
        let at : slice_index (set values (4 * sort + number) e) (4 * t + i) ≡ e = ap (λ k. get_or (set values (4 * sort + number) e) k 0) (let a = here.0 in let c = here.1 in let same : 4 * t + i ≡ 4 * sort + number = omega (arith, a, c) in same) ∙ own in
        subst (λ u. slice_index (set values (4 * sort + number) e) (4 * t + i) < slice_index sizes u) (sym here.0) (subst (λ x. x < slice_index sizes sort) (sym at) below)

    apart_at : (t : ℕ) (T : Sort) (i k : ℕ) → slice_get P.sorts t ≡ Some T → i < k → k < slice_index counts t → Before t k sort number ⊎ ((t ≡ sort) × (k ≡ number)) → Apart T.ordered (slice_index (set values (4 * sort + number) e) (4 * t + i)) (slice_index (set values (4 * sort + number) e) (4 * t + k))
    apart_at t T i k f h l (inl before) =
        moved T.ordered T.ordered _ _ _ _ refl (sym (read_other counts values t i sort number e j.few (omega (arith, h, l)) (sooner before))) (sym (read_other counts values t k sort number e j.few l before)) (b.apart t T i k f h l before)
      where
        sooner : Before t k sort number → Before t i sort number
        sooner (inl x) = inl x
        sooner (inr x) = inr (x.0, let y = x.1 in omega (arith, y, h))
    apart_at t T i k f h l (inr here) =
        let at : slice_index (set values (4 * sort + number) e) (4 * t + k) ≡ e = ap (λ x. get_or (set values (4 * sort + number) e) x 0) (let a = here.0 in let c = here.1 in let same : 4 * t + k ≡ 4 * sort + number = omega (arith, a, c) in same) ∙ own in
        let earlier : i < number = let c = here.1 in omega (arith, c, h) in
        let order : get_or orders sort false ≡ T.ordered = ap (λ u. get_or orders u false) (sym here.0) ∙ j.orders_are t T f in
        moved (get_or orders sort false) T.ordered _ _ _ _ order (ap (λ u. slice_index values (4 * u + i)) (sym here.0) ∙ sym (read_other counts values t i sort number e j.few (omega (arith, h, l)) (inr (here.0, earlier)))) (sym at) (may i earlier)

-- whatever the other variables stand for, the placement has the property
abbrev pub FromHere : Protocol → List ℕ → List ℕ → (List (List ℕ) → Type 0) → ℕ → ℕ → List ℕ → Type 0
FromHere P counts sizes Q sort number values = (elements : List (List ℕ)) → ArePlacements P counts sizes elements → Agree counts sort number elements values → Q elements

pub choice_exact : (P : Protocol) (counts sizes : List ℕ) (Q : List (List ℕ) → Type 0) (sort number e : ℕ) (values : List ℕ) → ((t : ℕ) → slice_index counts t ≤ 4) → FromHere P counts sizes Q sort number values → FromHere P counts sizes Q sort (number + 1) (set values (4 * sort + number) e)
choice_exact P counts sizes Q sort number e values few met elements placed agree =
    met elements placed (λ t i h before. agree t i h (wider t i sort number before) ∙ read_other counts values t i sort number e few h before)

pub sort_at : (Ts : List Sort) (sort : ℕ) → sort < length Ts → (T : Sort) × (slice_get Ts sort ≡ Some T)
sort_at [] sort h = absurd (omega arith)
sort_at (T ∷ Ts) zero h = (T, refl)
sort_at (T ∷ Ts) (suc sort) h = sort_at Ts sort (omega arith)

pub choice_only : (P : Protocol) (orders : List Bool) (counts sizes : List ℕ) (Q : List (List ℕ) → Type 0) (sort number : ℕ) (values : List ℕ) → IsSearched P orders counts → IsBegun P sizes counts sort number values → number < slice_index counts sort → ((e : ℕ) → e < slice_index sizes sort → MayStand (get_or orders sort false) sort number e values → FromHere P counts sizes Q sort (number + 1) (set values (4 * sort + number) e)) → FromHere P counts sizes Q sort number values
choice_only P orders counts sizes Q sort number values j b room h elements placed agree =
    let below = count_inside counts sort number room in
    let found = sort_at P.sorts sort (let k = j.each in omega (arith, k, below)) in
    let here = placed.each sort found.0 found.1 in
    let e = slice_index (of_sort elements sort) number in
    let order : found.0.ordered ≡ get_or orders sort false = sym (j.orders_are sort found.0 found.1) in
    h e (here.inside number room)
    (λ i k. moved found.0.ordered (get_or orders sort false) _ _ _ _ order (agree sort i (omega (arith, k, room)) (inr (refl, k))) refl (here.apart i number k room))
    elements placed
    (λ t i k before. agrees elements t i k (agree t i) (read_same counts values sort number e b.long j.few_types j.few room) e refl (split t i sort number before))
  where
    agrees : (elements : List (List ℕ)) (t i : ℕ) → i < slice_index counts t → (i < slice_index counts t → Before t i sort number → slice_index (of_sort elements t) i ≡ slice_index values (4 * t + i)) → get_or (set values (4 * sort + number) (slice_index (of_sort elements sort) number)) (4 * sort + number) 0 ≡ slice_index (of_sort elements sort) number → (e : ℕ) → e ≡ slice_index (of_sort elements sort) number → Before t i sort number ⊎ ((t ≡ sort) × (i ≡ number)) → slice_index (of_sort elements t) i ≡ slice_index (set values (4 * sort + number) (slice_index (of_sort elements sort) number)) (4 * t + i)
    agrees elements t i k agree own e same (inl before) = agree k before ∙ sym (read_other counts values t i sort number (slice_index (of_sort elements sort) number) j.few k before)
    agrees elements t i k agree own e same (inr here) =
        ap (λ u. slice_index (of_sort elements u) i) here.0 ∙ (ap (λ u. slice_index (of_sort elements sort) u) here.1
        ∙ (sym own ∙ ap (λ x. get_or (set values (4 * sort + number) (slice_index (of_sort elements sort) number)) x 0) (let a = here.0 in let c = here.1 in let place : 4 * sort + number ≡ 4 * t + i = omega (arith, a, c) in place)))

pub searched : (P : Protocol) (orders : List Bool) (counts : List ℕ) (atoms : List Atom) (literals : List ℕ) (s : Structure) → IsJudged P orders counts atoms literals s → IsSearched P orders counts
searched P orders counts atoms literals s j = record {
  orders_are = λ t T h. order_at P.sorts t T orders h j.orders_are;
  each = j.each;
  few_types = j.few_types;
  few = j.few;
}

pub room_left : (counts : List ℕ) (sort number i n : ℕ) → sort < length counts → i ≡ sort → n ≡ get_or counts i n → number ≤ slice_index counts sort → (number ≡ n → ⊥) → number < slice_index counts sort
room_left counts sort number i n below same is most other =
    let here : n ≡ get_or counts sort 0 = is ∙ (get_or_default counts i n 0 (omega (arith, below, same)) ∙ ap (λ k. get_or counts k 0) same) in
    let not_last : number ≢ n = other in
    omega (arith, here, most, not_last)

pub element_below : (sizes : List ℕ) (sort i n e : ℕ) → sort < length sizes → i ≡ sort → n ≡ get_or sizes i n → e < n → e < slice_index sizes sort
element_below sizes sort i n e below same is h =
    let here : n ≡ get_or sizes sort 0 = is ∙ (get_or_default sizes i n 0 (omega (arith, below, same)) ∙ ap (λ k. get_or sizes k 0) same) in
    omega (arith, here, h)

pub all_seen : (sizes : List ℕ) (sort i n m e : ℕ) → sort < length sizes → i ≡ sort → n ≡ get_or sizes i n → n ≤ m → e < slice_index sizes sort → e < m
all_seen sizes sort i n m e below same is past h =
    let here : n ≡ get_or sizes sort 0 = is ∙ (get_or_default sizes i n 0 (omega (arith, below, same)) ∙ ap (λ k. get_or sizes k 0) same) in
    omega (arith, here, past, h)

pub next_element : (Q : ℕ → Type 0) (n e : ℕ) → e < n + 1 → (e < n → Q e) → Q n → Q e
next_element Q n e h earlier last = either (cases_lt e n)
  where
    either : (e < n) ⊎ (n ≤ e) → Q e
    either (inl below) = earlier below
    either (inr past) = subst Q (let same : n ≡ e = omega (arith, h, past) in same) last
