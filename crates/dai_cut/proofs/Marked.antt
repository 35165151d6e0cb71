-- A few elements lie in a cut of few elements: those of the individuals are added, and one of each type that would
-- have none.
use Rattle.std.proofs.Common.{◌≡◌, ◌<◌, ◌≤◌, ◌+◌, length, ℕ, zero, suc, ◌&&◌, ◌||◌, Bool, true, false, cond, List, [], ◌∷◌, ◌++◌, Some, subst, refl, arith}
use Rattle.std.specs.Prelude.{nat_eq, slice_get, max, count_by, if◌then◌else◌}
use Rattle.std.proofs.lemmas.Bool.Decides.{nat_tests}
use Rattle.std.proofs.lemmas.List.Sums.{sum_by-cons}
use Rattle.dai_model.specs.Protocol.{Protocol, Individual}
use Rattle.dai_model.specs.Structure.{Structure, IsStructure, size_of}
use Rattle.dai_model.specs.WellSorted.{IsProtocol}
use Rattle.dai_model.specs.Sizes.{individual_count}
use Rattle.dai_model.proofs.Frame.{or_left, or_right}
use Rattle.dai_cut.specs.Cut.{count_below, nth_below, IsClosed, IsCut, Element, count_in, HoldsEach}
use Rattle.dai_cut.proofs.Numbering.{nth_is}
use Rattle.dai_cut.proofs.Embedded.{both}
use Rattle.dai_cut.proofs.Cutting.{cut_exists}
use Rattle.dai_cut.proofs.Witnesses.{count_in-append, count_in-cons, holds_left, holds_right}

abbrev marked : List Element → ℕ → ℕ → Bool
marked [] sort e = false
marked (m ∷ marks) sort e = (nat_eq m.sort sort && nat_eq m.number e) || marked marks sort e

-- with 0 where a type would have none
abbrev marked_or_first : Structure → List Element → ℕ → ℕ → Bool
marked_or_first s marks sort e = (nat_eq (count_below (marked marks sort) (size_of s sort)) 0 && nat_eq 0 e) || marked marks sort e

either_count : (a b : Bool) → (if a || b then 1 else 0) ≤ (if a then 1 else 0) + (if b then 1 else 0)
either_count true b = omega arith
either_count false b = omega arith

count_either : (p q : ℕ → Bool) (n : ℕ) → count_below (λ e. p e || q e) n ≤ count_below p n + count_below q n
count_either p q zero = omega arith
count_either p q (suc n) = let k = count_either p q n in let l = either_count (p n) (q n) in omega (arith, k, l)

-- at most one number is a
record OneAt (a n : ℕ) (b : Bool) (count : ℕ) : Type 0 where
  once : count ≤ (if b then 1 else 0)
  not_yet : n ≤ a → count ≡ 0

one_step : (a n : ℕ) (b here : Bool) (count : ℕ) → nat_eq a n ≡ here → OneAt a n b count → OneAt a (suc n) b (count + (if b && here then 1 else 0))
one_step a n true true count is rec =
    let e : a ≡ n = grind (arith, nat_tests) in
    let none = rec.not_yet (omega (arith, e)) in
    record { once = omega (arith, none); not_yet = λ h. absurd (omega (arith, e, h)) }
one_step a n true false count is rec =
    let k = rec.once in
    record { once = omega (arith, k); not_yet = λ h. (let l = rec.not_yet (omega (arith, h)) in omega (arith, l)) }
one_step a n false here count is rec =
    let k = rec.once in
    record { once = omega (arith, k); not_yet = λ h. omega (arith, k) }

count_one : (a : ℕ) (b : Bool) (n : ℕ) → OneAt a n b (count_below (λ e. b && nat_eq a e) n)
count_one a true zero = record { once = omega arith; not_yet = λ h. refl }
count_one a false zero = record { once = omega arith; not_yet = λ h. refl }
count_one a b (suc n) = one_step a n b (nat_eq a n) (count_below (λ e. b && nat_eq a e) n) refl (count_one a b n)

count_marked : (marks : List Element) (sort n : ℕ) → count_below (marked marks sort) n ≤ count_in sort marks
count_marked [] sort n = let k = no_count n in omega (arith, k)
  where
    no_count : (n : ℕ) → count_below (λ e. false) n ≡ 0
    no_count zero = refl
    no_count (suc n) = let k = no_count n in omega (arith, k)
count_marked (m ∷ marks) sort n =
    let a = count_either (λ e. nat_eq m.sort sort && nat_eq m.number e) (marked marks sort) n in
    let b = (count_one m.number (nat_eq m.sort sort) n).once in
    let c = count_marked marks sort n in
    let d = count_in-cons sort m marks in
    omega (arith, a, b, c, d)

count_marked_or_first : (s : Structure) (marks : List Element) (sort : ℕ) → count_below (marked_or_first s marks sort) (size_of s sort) ≤ max (count_in sort marks) 1
count_marked_or_first s marks sort =
    let a = count_either (λ e. nat_eq (count_below (marked marks sort) (size_of s sort)) 0 && nat_eq 0 e) (marked marks sort) (size_of s sort) in
    let b = (count_one 0 (nat_eq (count_below (marked marks sort) (size_of s sort)) 0) (size_of s sort)).once in
    let c = count_marked marks sort (size_of s sort) in
    by_test (count_below (marked marks sort) (size_of s sort)) (count_below (marked_or_first s marks sort) (size_of s sort)) (count_in sort marks) (nat_eq (count_below (marked marks sort) (size_of s sort)) 0) refl
    (count_below (λ e. nat_eq (count_below (marked marks sort) (size_of s sort)) 0 && nat_eq 0 e) (size_of s sort)) a b c
  where
    by_test : (own all most : ℕ) (b : Bool) → nat_eq own 0 ≡ b → (first : ℕ) → all ≤ first + own → first ≤ (if b then 1 else 0) → own ≤ most → all ≤ max most 1
    by_test own all most true is first h k l = let e : own ≡ 0 = grind (arith, nat_tests) in omega (arith, e, h, k)
    by_test own all most false is first h k l = omega (arith, h, k, l)

-- an element of each type
one_of_each : (s : Structure) (marks : List Element) (sort : ℕ) → 0 < size_of s sort → (e : ℕ) × (e < size_of s sort) × (marked_or_first s marks sort e ≡ true)
one_of_each s marks sort positive = by_test (nat_eq (count_below (marked marks sort) (size_of s sort)) 0) refl
  where
    by_test : (b : Bool) → nat_eq (count_below (marked marks sort) (size_of s sort)) 0 ≡ b → (e : ℕ) × (e < size_of s sort) × (marked_or_first s marks sort e ≡ true)
    by_test true is = (0, positive, or_left (nat_eq (count_below (marked marks sort) (size_of s sort)) 0 && nat_eq 0 0) (marked marks sort 0) (both (nat_eq (count_below (marked marks sort) (size_of s sort)) 0) (nat_eq 0 0) is refl))
    by_test false is =
        let some_marked : 0 < count_below (marked marks sort) (size_of s sort) = grind (arith, nat_tests) in
        let x = nth_below (marked marks sort) (size_of s sort) 0 in
        let first = nth_is (marked marks sort) (size_of s sort) 0 some_marked in
        (x, first.below, or_right (nat_eq (count_below (marked marks sort) (size_of s sort)) 0 && nat_eq 0 x) (marked marks sort x) first.passes)

holds_marked : (chosen : ℕ → ℕ → Bool) (marks : List Element) → ((sort e : ℕ) → marked marks sort e ≡ true → chosen sort e ≡ true) → HoldsEach chosen marks
holds_marked chosen [] h = tt
holds_marked chosen (m ∷ marks) h = (
  h m.sort m.number (or_left (nat_eq m.sort m.sort && nat_eq m.number m.number) (marked marks m.sort m.number) (itself m.sort m.number)),
  holds_marked chosen marks (λ sort e k. h sort e (or_right (nat_eq m.sort sort && nat_eq m.number e) (marked marks sort e) k)),
)
  where
    itself : (a b : ℕ) → (nat_eq a a && nat_eq b b) ≡ true
    itself a b = let x : nat_eq a a ≡ true = grind (arith, nat_tests) in let y : nat_eq b b ≡ true = grind (arith, nat_tests) in cc

-- the elements of the individuals
individual_marks : Structure → ℕ → List Individual → List Element
individual_marks s k [] = []
individual_marks s k (I ∷ Is) = record { sort = I.sort; number = s.element k } ∷ individual_marks s (suc k) Is

count_individuals : (s : Structure) (k : ℕ) (Is : List Individual) (sort : ℕ) → count_in sort (individual_marks s k Is) ≡ count_by (λ (I : Individual). nat_eq I.sort sort) Is
unfolding individual_marks
count_individuals s k [] sort = refl
count_individuals s k (I ∷ Is) sort =
    let here : Element = record { sort = I.sort; number = s.element k } in
    let a = count_in-cons sort here (individual_marks s (suc k) Is) in
    let b = count_individuals s (suc k) Is sort in
    let c = sum_by-cons (λ (J : Individual). cond (nat_eq J.sort sort) 1 0) I Is in
    omega (arith, a, b, c)

holds_individuals : (s : Structure) (chosen : ℕ → ℕ → Bool) (k : ℕ) (Is : List Individual) (j : ℕ) (I : Individual) → HoldsEach chosen (individual_marks s k Is) → slice_get Is j ≡ Some I → chosen I.sort (s.element (k + j)) ≡ true
unfolding individual_marks
holds_individuals s chosen k [] j I h found = absurd (let n : ⊥ = cc in n)
holds_individuals s chosen k (J ∷ Is) zero I h found =
    let same : J ≡ I = cc in
    let place : k ≡ k + 0 = omega arith in
    subst (λ i. chosen I.sort (s.element i) ≡ true) place (subst (λ (K : Individual). chosen K.sort (s.element k) ≡ true) same h.0)
holds_individuals s chosen k (J ∷ Is) (suc j) I h found =
    let place : suc k + j ≡ k + suc j = omega arith in
    subst (λ i. chosen I.sort (s.element i) ≡ true) place (holds_individuals s chosen (suc k) Is j I h.1 found)

-- a cut that holds the elements, no larger than they need
pub record SmallCut (P : Protocol) (s : Structure) (marks : List Element) : Type 0 where
  pub chosen : ℕ → ℕ → Bool
  pub holds : HoldsEach chosen marks
  pub small : Structure
  pub is_cut : IsCut P s chosen small
  pub few : (sort : ℕ) → sort < length P.sorts → size_of small sort ≤ max (individual_count P sort + count_in sort marks) 1

positive_size : (P : Protocol) (s : Structure) (sort : ℕ) → IsStructure P s → sort < length P.sorts → 0 < size_of s sort
positive_size P s sort st h = let e = st.one_size_each in st.inhabited sort 0 (omega (arith, e, h))

pub small_cut : (P : Protocol) (s : Structure) (marks : List Element) → IsProtocol P → IsStructure P s → SmallCut P s marks
small_cut P s marks p st =
    let all = individual_marks s 0 P.individuals ++ marks in
    let chosen = marked_or_first s all in
    let held = holds_marked chosen all (λ sort e h. or_right (nat_eq (count_below (marked all sort) (size_of s sort)) 0 && nat_eq 0 e) (marked all sort e) h) in
    let of_individuals = holds_left chosen (individual_marks s 0 P.individuals) marks held in
    let closed : IsClosed P s chosen = record {
      inhabited = λ sort below. one_of_each s all sort (positive_size P s sort st below);
      individuals = λ i I h. subst (λ j. chosen I.sort (s.element j) ≡ true) (let e : 0 + i ≡ i = omega arith in e) (holds_individuals s chosen 0 P.individuals i I of_individuals h);
    } in
    let made = cut_exists P s chosen p st closed in
    record {
      chosen = chosen;
      holds = holds_right chosen (individual_marks s 0 P.individuals) marks held;
      small = made.0;
      is_cut = made.1;
      few = λ sort below.
          let size = made.1.sizes sort below in
          let most = count_marked_or_first s all sort in
          let split = count_in-append sort (individual_marks s 0 P.individuals) marks in
          let own = count_individuals s 0 P.individuals sort in
          omega (arith, size, most, split, own);
    }

pub small_cut_exists : (P : Protocol) (s : Structure) (marks : List Element) → IsProtocol P → IsStructure P s → (chosen : ℕ → ℕ → Bool) × (small : Structure) × HoldsEach chosen marks × IsCut P s chosen small × ((sort : ℕ) → sort < length P.sorts → size_of small sort ≤ max (individual_count P sort + count_in sort marks) 1)
small_cut_exists P s marks p st = let made = small_cut P s marks p st in (made.chosen, made.small, made.holds, made.is_cut, made.few)
