-- At most one answer and one report: a list that is in strict order is known by its members.
use Rattle.std.proofs.Common.{◌≡◌, ◌<◌, ℕ, zero, suc, Bool, true, false, List, [], ◌∷◌, length, sym, ◌∙◌, ap, subst, refl, arith, inl, inr, ◌⊎◌}
use Rattle.std.specs.Prelude.{sum, nat_eq}
use Rattle.std.specs.List.{Contains, AllPairs}
use Rattle.std.specs.Cmp.{IsTotalOrder}
use Rattle.std.specs.declared.cmp.Ordering.{Ordering}
use Rattle.std.specs.declared.cmp.Ordering.TheVariants.{Less}
use Rattle.std.proofs.lemmas.Cmp.{nat_cmp_total, nat_list_cmp_total, on_total, then_total, tied_itself}
use Rattle.std.proofs.lemmas.Bool.{eqb-true, eq-eqb}
use Rattle.dai_model.specs.Protocol.{Protocol}
use Rattle.dai_model.specs.Clause.{Clause}
use Rattle.dai_model.specs.Template.{Bounds}
use Rattle.dai_model.specs.Subsumption.{print_order}
use Rattle.dai_model.specs.Classes.{Class}
use Rattle.dai_model.specs.Answer.{IsAnswer, AreMissing}
use Rattle.dai_model.specs.Report.{IsReport, report_of}

-- an order that no two members have both ways
abbrev Asymmetric : {X : Type 0} → (X → X → Type 0) → Type 0
Asymmetric {X} R = (x y : X) → R x y → R y x → ⊥

later_member : {X : Type 0} (x y : X) (ys : List X) → Contains (x ∷ ys) y → (x ≡ y) ⊎ Contains ys y
later_member x y ys (zero, below, is) = inl is
later_member x y ys (suc k, below, is) = inr (k, omega arith, is)

first_below : {X : Type 0} (R : X → X → Type 0) (x y : X) (xs : List X) → AllPairs R (x ∷ xs) → Contains xs y → R x y
first_below R x y xs pairs (k, below, is) = subst (R x) is (pairs 0 (suc k) y (omega arith) (omega arith))

rest_in_order : {X : Type 0} (R : X → X → Type 0) (x : X) (xs : List X) → AllPairs R (x ∷ xs) → AllPairs R xs
rest_in_order R x xs pairs = λ i j d before below. pairs (suc i) (suc j) d (omega arith) (omega arith)

member_later : {X : Type 0} (x y : X) (xs : List X) → Contains xs y → Contains (x ∷ xs) y
member_later x y xs (k, below, is) = (suc k, omega arith, is)

abbrev SameMembers : {X : Type 0} → List X → List X → Type 0
SameMembers {X} xs ys = ((x : X) → Contains xs x → Contains ys x) × ((x : X) → Contains ys x → Contains xs x)

same_first : {X : Type 0} (R : X → X → Type 0) → Asymmetric R → (x y : X) (xs ys : List X) → AllPairs R (x ∷ xs) → AllPairs R (y ∷ ys) → SameMembers (x ∷ xs) (y ∷ ys) → x ≡ y
same_first R asym x y xs ys p q same = by_case (later_member y x ys (same.0 x (0, omega arith, refl))) (later_member x y xs (same.1 y (0, omega arith, refl)))
  where
    by_case : (y ≡ x) ⊎ Contains ys x → (x ≡ y) ⊎ Contains xs y → x ≡ y
    by_case (inl e) other = sym e
    by_case (inr h) (inl e) = e
    by_case (inr h) (inr k) = absurd (asym x y (first_below R x y xs p k) (first_below R y x ys q h))

irreflexive : {X : Type 0} (R : X → X → Type 0) → Asymmetric R → (x y : X) → x ≡ y → R x y → ⊥
irreflexive R asym x y e r = asym x y r (subst (λ z. R z x) e (subst (R x) (sym e) r))

rest_members : {X : Type 0} (R : X → X → Type 0) → Asymmetric R → (x y : X) (xs ys : List X) → x ≡ y → AllPairs R (x ∷ xs) → ((z : X) → Contains (x ∷ xs) z → Contains (y ∷ ys) z) → (z : X) → Contains xs z → Contains ys z
rest_members R asym x y xs ys e p same z h = by_case (later_member y z ys (same z (member_later x z xs h)))
  where
    by_case : (y ≡ z) ⊎ Contains ys z → Contains ys z
    by_case (inr k) = k
    by_case (inl k) = absurd (irreflexive R asym x z (e ∙ k) (first_below R x z xs p h))

pub one_in_order : {X : Type 0} (R : X → X → Type 0) → Asymmetric R → (xs ys : List X) → AllPairs R xs → AllPairs R ys → SameMembers xs ys → xs ≡ ys
one_in_order R asym [] [] p q same = refl
one_in_order R asym [] (y ∷ ys) p q same = absurd (let k = (same.1 y (0, omega arith, refl)).1 in omega arith)
one_in_order R asym (x ∷ xs) [] p q same = absurd (let k = (same.0 x (0, omega arith, refl)).1 in omega arith)
one_in_order R asym (x ∷ xs) (y ∷ ys) p q same =
    let e = same_first R asym x y xs ys p q same in
    let rest = one_in_order R asym xs ys (rest_in_order R x xs p) (rest_in_order R y ys q)
    (rest_members R asym x y xs ys e p same.0, rest_members R asym y x ys xs (sym e) q same.1) in
    cc

-- a total order has no two that are each before the other
less_once : {X : Type 0} (R : X → X → Ordering) → IsTotalOrder R → Asymmetric (λ x y. R x y ≡ Less)
less_once R total x y h k =
    let around = total.trans x y x h k in
    let tied = tied_itself total x in
    let e : ⊥ = cc in e

print_order_total : IsTotalOrder print_order
print_order_total =
    then_total (on_total (λ (c : Clause). sum c.counts) nat_cmp_total)
    (then_total (on_total (λ (c : Clause). c.counts) nat_list_cmp_total)
    (then_total (on_total (λ (c : Clause). length c.literals) nat_cmp_total)
    (on_total (λ (c : Clause). c.literals) nat_list_cmp_total)))

pub one_answer : (C : Class) (P : Protocol) (B : Bounds) (I J : List Clause) → IsAnswer C P B I → IsAnswer C P B J → I ≡ J
one_answer C P B I J i j =
    one_in_order (λ c d. print_order c d ≡ Less) (less_once print_order print_order_total) I J i.in_order j.in_order
    (λ c h. j.complete c (i.sound c h), λ c h. i.complete c (j.sound c h))

below_once : Asymmetric (λ (i j : ℕ). i < j)
below_once i j h k = omega arith

-- whether a number is among those of the list
known : (n : ℕ) (ns : List ℕ) → Contains ns n ⊎ (Contains ns n → ⊥)
known n [] = inr (λ h. let k = h.1 in omega arith)
known n (m ∷ ns) = by_case (nat_eq m n) refl (known n ns)
  where
    none : nat_eq m n ≡ false → (Contains ns n → ⊥) → Contains (m ∷ ns) n → ⊥
    none differ h k = by_place (later_member m n ns k)
      where
        by_place : (m ≡ n) ⊎ Contains ns n → ⊥
        by_place (inl e) = let same : nat_eq m n ≡ true = ap (nat_eq m) (sym e) ∙ eq-eqb m m refl in let f : ⊥ = cc in f
        by_place (inr l) = h l

    by_case : (b : Bool) → nat_eq m n ≡ b → Contains ns n ⊎ (Contains ns n → ⊥) → Contains (m ∷ ns) n ⊎ (Contains (m ∷ ns) n → ⊥)
    by_case true e rest = inl (0, omega arith, eqb-true m n e)
    by_case false e (inl h) = inl (member_later m n ns h)
    by_case false e (inr h) = inr (none e h)

missing_among : (C : Class) (P : Protocol) (B : Bounds) (missing other : List ℕ) → AreMissing C P B missing → AreMissing C P B other → (i : ℕ) → Contains missing i → Contains other i
missing_among C P B missing other m o i h = by_case (known i other)
  where
    by_case : Contains other i ⊎ (Contains other i → ⊥) → Contains other i
    by_case (inl k) = k
    by_case (inr k) = let found = m.refuted i h in absurd (found.2 (o.others i found.0 found.1 k))

one_missing : (C : Class) (P : Protocol) (B : Bounds) (missing other : List ℕ) → AreMissing C P B missing → AreMissing C P B other → missing ≡ other
one_missing C P B missing other m o =
    one_in_order (λ (i j : ℕ). i < j) below_once missing other m.in_order o.in_order
    (missing_among C P B missing other m o, missing_among C P B other missing o m)

pub one_report : (C : Class) (P : Protocol) (B : Bounds) (text other : List ℕ) → IsReport C P B text → IsReport C P B other → text ≡ other
one_report C P B text other r o =
    let answers = one_answer C P B r.answer o.answer r.is_answer o.is_answer in
    let missing = one_missing C P B r.missing o.missing r.are_missing o.are_missing in
    r.text_is ∙ ((λ i. report_of P (answers i) (missing i)) ∙ sym o.text_is)
