-- Clauses about rows, one after another, and what all of them say.
use Rattle.std.proofs.Common.{◌≡◌, ◌+◌, ◌-◌, ◌<◌, ◌≤◌, ℕ, zero, suc, Bool, true, false, not, ◌||◌, List, [], ◌∷◌, length, refl, ap, sym, ◌∙◌, subst, arith, inl, inr, ◌⊎◌}
use Rattle.std.proofs.lemmas.Bool.{cases_lt, cases_order, cases_Bool, both_ways, not-true, not_from_false, false_from_ne_true, lt-ltb, le-ltb, ltb-true, eq-eqb, eqb-true, ne_eqb}
use Rattle.std.proofs.lemmas.List.{get_or_default, get_or_past}
use Rattle.std.proofs.lemmas.List.Folds.{Any-from_list_any, list_any-from_Any}
use Rattle.dai_trail.specs.Formula.{Formula}
use Rattle.dai_circuit.specs.declared.bit.Bit.{Bit}
use Rattle.dai_circuit.specs.declared.bit.Bit.TheVariants.{Known}
use Rattle.dai_circuit.specs.Circuits.{bit_value, negation_of, any_value, Requires}
use Rattle.dai_circuit.proofs.Values.{value-negation, implied, clause_of_implication}
use Rattle.dai_picture.specs.Pictures.{bit_at, Counts}
use Rattle.dai_picture.specs.Rules.{Constrains, FallsBelow, IsUsedFront, AreUsedBelow, IsApartFrom, AreApartBelow, MarksUsed}

pub constrains_none : (f : Formula) (C : List Bool → Type 0) → ((bits : List Bool) → C bits) → Constrains f f C
constrains_none f C all = record { vars = refl; keeps = λ bits met. met; holds = λ bits met. all bits; admits = λ bits met h. met }

-- one condition after another
pub constrains_more : (a b c : Formula) (C D E : List Bool → Type 0) → ((bits : List Bool) → C bits → D bits → E bits) → ((bits : List Bool) → E bits → C bits) → ((bits : List Bool) → E bits → D bits) → Constrains a b C → Constrains b c D → Constrains a c E
constrains_more a b c C D E both left right f g = record {
  vars = g.vars ∙ f.vars;
  keeps = λ bits met. f.keeps bits (g.keeps bits met);
  holds = λ bits met. both bits (f.holds bits (g.keeps bits met)) (g.holds bits met);
  admits = λ bits met h. g.admits bits (f.admits bits met (left bits h)) (right bits h);
}

pub constrains_same : (a b : Formula) (C E : List Bool → Type 0) → ((bits : List Bool) → C bits → E bits) → ((bits : List Bool) → E bits → C bits) → Constrains a b C → Constrains a b E
constrains_same a b C E to from f = record {
  vars = f.vars;
  keeps = f.keeps;
  holds = λ bits met. to bits (f.holds bits met);
  admits = λ bits met h. f.admits bits met (from bits h);
}

-- a condition of each number below one more
pub constrains_each : (a b c : Formula) (P : ℕ → List Bool → Type 0) (n : ℕ) → Constrains a b (λ bits. (j : ℕ) → j < n → P j bits) → Constrains b c (P n) → Constrains a c (λ bits. (j : ℕ) → j < n + 1 → P j bits)
constrains_each a b c P n f g =
    constrains_more a b c (λ bits. (j : ℕ) → j < n → P j bits) (P n) (λ bits. (j : ℕ) → j < n + 1 → P j bits)
    (λ bits all here j l. elim (cases_lt j n) [ inl low ↦ all j low | inr past ↦ subst (λ m. P m bits) (let e : n ≡ j = omega arith in e) here ])
    (λ bits all j l. all j (omega arith))
    (λ bits all. all n (omega arith))
    f g

pub constrains_any : (a b : Formula) (parts : List Bit) → Requires a b parts → Constrains a b (λ bits. any_value parts bits ≡ true)
constrains_any a b parts r = record { vars = r.vars; keeps = r.keeps; holds = r.some; admits = r.admits }

-- a clause that one bit implies another
abbrev pub Implies : Bit → Bit → List Bool → Type 0
Implies x y bits = bit_value bits x ≡ true → bit_value bits y ≡ true

pub constrains_implies : (a b : Formula) (x y denied : Bit) → denied ≡ negation_of x → Requires a b (denied ∷ y ∷ []) → Constrains a b (Implies x y)
constrains_implies a b x y denied e r =
    let value : (bits : List Bool) → any_value (denied ∷ y ∷ []) bits ≡ (not (bit_value bits x) || (bit_value bits y || false)) = λ bits. ap (λ v. v || (bit_value bits y || false)) (ap (bit_value bits) e ∙ value-negation bits x) in
    record {
      vars = r.vars;
      keeps = r.keeps;
      holds = λ bits met. implied (bit_value bits x) (bit_value bits y) (sym (value bits) ∙ r.some bits met);
      admits = λ bits met h. r.admits bits met (value bits ∙ clause_of_implication (bit_value bits x) (bit_value bits y) h);
    }

abbrev pub Excludes : Bit → Bit → List Bool → Type 0
Excludes x y bits = bit_value bits x ≡ true → bit_value bits y ≡ false

pub constrains_excludes : (a b : Formula) (x y denied other : Bit) → denied ≡ negation_of x → other ≡ negation_of y → Requires a b (denied ∷ other ∷ []) → Constrains a b (Excludes x y)
constrains_excludes a b x y denied other e f r =
    let value : (bits : List Bool) → bit_value bits other ≡ not (bit_value bits y) = λ bits. ap (bit_value bits) f ∙ value-negation bits y in
    constrains_same a b (Implies x other) (Excludes x y)
    (λ bits h t. not-true (bit_value bits y) (sym (value bits) ∙ h t))
    (λ bits h t. value bits ∙ not_from_false (bit_value bits y) (h t))
    (constrains_implies a b x other denied e r)

-- ---- the slots at the front
pub falls_none : (row : List Bit) (bits : List Bool) → FallsBelow 1 row bits
falls_none row bits slot l = absurd (omega arith)

pub falls_more : (a b c : Formula) (row : List Bit) (slot : ℕ) (denied : Bit) → 1 ≤ slot → Constrains a b (FallsBelow slot row) → denied ≡ negation_of (bit_at row slot) → Requires b c (denied ∷ bit_at row (slot - 1) ∷ []) → Constrains a c (FallsBelow (slot + 1) row)
falls_more a b c row slot denied some f e r =
    constrains_more a b c (FallsBelow slot row) (Implies (bit_at row slot) (bit_at row (slot - 1))) (FallsBelow (slot + 1) row)
    (λ bits all here k l t.
    elim (cases_lt (k + 1) slot) [
      | inl low ↦ all k low t
      | inr past ↦
          let at : slot - 1 ≡ k = omega arith in
          let next : slot ≡ k + 1 = omega arith in
          ap (λ n. bit_value bits (bit_at row n)) (sym at) ∙ here (ap (λ n. bit_value bits (bit_at row n)) next ∙ t)
    ])
    (λ bits all k l. all k (omega arith))
    (λ bits all t.
    let next : slot ≡ (slot - 1) + 1 = omega arith in
    all (slot - 1) (omega arith) (ap (λ n. bit_value bits (bit_at row n)) (sym next) ∙ t))
    f (constrains_implies b c (bit_at row slot) (bit_at row (slot - 1)) denied e r)

abbrev AllTrueBelow : ℕ → List Bit → List Bool → Type 0
AllTrueBelow n row bits = (slot : ℕ) → slot < n → bit_value bits (bit_at row slot) ≡ true

-- a first slot that isn't used
record Stops (row : List Bit) (bits : List Bool) (n size : ℕ) : Type 0 where
  some : 0 < size
  inside : size < n
  front : AllTrueBelow size row bits
  none : bit_value bits (bit_at row size) ≡ false

stops : (row : List Bit) (bits : List Bool) (n : ℕ) → bit_value bits (bit_at row 0) ≡ true → AllTrueBelow n row bits ⊎ ((size : ℕ) × Stops row bits n size)
stops row bits zero begun = inl (λ slot l. absurd (omega arith))
stops row bits (suc n) begun = by_cases (stops row bits n begun) (cases_Bool (bit_value bits (bit_at row n)))
  where
    positive : (m : ℕ) → bit_value bits (bit_at row m) ≡ false → 0 < m
    positive zero e = absurd (both_ways (bit_value bits (bit_at row 0)) e begun)
    positive (suc m) e = omega arith

    by_cases : AllTrueBelow n row bits ⊎ ((size : ℕ) × Stops row bits n size) → (bit_value bits (bit_at row n) ≡ true) ⊎ (bit_value bits (bit_at row n) ≡ false) → AllTrueBelow (suc n) row bits ⊎ ((size : ℕ) × Stops row bits (suc n) size)
    by_cases (inl all) (inl here) = inl (λ slot l. elim (cases_lt slot n) [ inl low ↦ all slot low | inr past ↦ subst (λ m. bit_value bits (bit_at row m) ≡ true) (let e : n ≡ slot = omega arith in e) here ])
    by_cases (inl all) (inr here) = inr (n, record { some = positive n here; inside = omega arith; front = all; none = here })
    by_cases (inr found) other = inr (found.0, record { some = found.1.some; inside = let l = found.1.inside in omega arith; front = found.1.front; none = found.1.none })

none_after : (row : List Bit) (bits : List Bool) (size d : ℕ) → FallsBelow (length row) row bits → bit_value bits (bit_at row size) ≡ false → size + d < length row → bit_value bits (bit_at row (size + d)) ≡ false
none_after row bits size zero falls none l = ap (λ n. bit_value bits (bit_at row n)) (let e : size + 0 ≡ size = omega arith in e) ∙ none
none_after row bits size (suc d) falls none l =
    let e : size + suc d ≡ (size + d) + 1 = omega arith in
    false_from_ne_true (bit_value bits (bit_at row (size + suc d))) (λ t.
    both_ways (bit_value bits (bit_at row (size + d))) (none_after row bits size d falls none (omega arith))
    (falls (size + d) (omega arith) (ap (λ n. bit_value bits (bit_at row n)) (sym e) ∙ t)))

counted : (row : List Bit) (bits : List Bool) (size : ℕ) → size ≤ length row → AllTrueBelow size row bits → ((slot : ℕ) → size ≤ slot → slot < length row → bit_value bits (bit_at row slot) ≡ false) → Counts bits row size
counted row bits size within front none = record {
  within = within;
  front = λ slot l. elim (cases_lt slot size) [
    | inl low ↦ front slot low ∙ sym (lt-ltb slot size low)
    | inr past ↦ none slot past l ∙ sym (le-ltb slot size past)
  ];
}

first_inside : (row : List Bit) → bit_at row 0 ≡ Known true → 0 < length row
first_inside row begun = by_cases (cases_lt 0 (length row))
  where
    by_cases : (0 < length row) ⊎ (length row ≤ 0) → 0 < length row
    by_cases (inl some) = some
    by_cases (inr none) = absurd (let e : Known false ≡ Known true = sym (get_or_past row 0 (Known false) none) ∙ begun in let k : ⊥ = cc in k)

used_front : (row : List Bit) (bits : List Bool) → bit_at row 0 ≡ Known true → FallsBelow (length row) row bits → IsUsedFront row bits
used_front row bits begun falls = by_cases (stops row bits (length row) (ap (bit_value bits) begun))
  where
    by_cases : AllTrueBelow (length row) row bits ⊎ ((size : ℕ) × Stops row bits (length row) size) → IsUsedFront row bits
    by_cases (inl all) = (length row, first_inside row begun, counted row bits (length row) (omega arith) all (λ slot past l. absurd (omega arith)))
    by_cases (inr found) =
        let inside = found.1.inside in (
          found.0,
          found.1.some,
          counted row bits found.0 (omega arith) found.1.front (λ slot past l.
              let e : found.0 + (slot - found.0) ≡ slot = omega arith in
              subst (λ n. bit_value bits (bit_at row n) ≡ false) e (none_after row bits found.0 (slot - found.0) falls found.1.none (omega arith))),
        )

front_falls : (row : List Bit) (bits : List Bool) (count : ℕ) → IsUsedFront row bits → FallsBelow count row bits
front_falls row bits count front slot l t = by_cases (cases_lt (slot + 1) (length row))
  where
    by_cases : (slot + 1 < length row) ⊎ (length row ≤ slot + 1) → bit_value bits (bit_at row slot) ≡ true
    by_cases (inl inside) =
        let below : slot + 1 < front.0 = ltb-true (slot + 1) front.0 (sym (front.2.front (slot + 1) inside) ∙ t) in
        front.2.front slot (omega arith) ∙ lt-ltb slot front.0 (omega arith)
    by_cases (inr past) = absurd (both_ways (bit_value bits (bit_at row (slot + 1))) (ap (bit_value bits) (get_or_past row (slot + 1) (Known false) past)) t)

pub order_all : (a b : Formula) (row : List Bit) (count : ℕ) → bit_at row 0 ≡ Known true → length row ≤ count → Constrains a b (FallsBelow count row) → Constrains a b (IsUsedFront row)
order_all a b row count begun past f =
    constrains_same a b (FallsBelow count row) (IsUsedFront row)
    (λ bits falls. used_front row bits begun (λ slot l. falls slot (omega arith)))
    (λ bits front. front_falls row bits count front) f

-- ---- the slot that is marked
pub used_more : (a b c : Formula) (used row : List Bit) (slot : ℕ) (denied : Bit) → Constrains a b (AreUsedBelow slot used row) → denied ≡ negation_of (bit_at row slot) → Requires b c (denied ∷ bit_at used slot ∷ []) → Constrains a c (AreUsedBelow (slot + 1) used row)
used_more a b c used row slot denied f e r =
    constrains_each a b c (λ k. Implies (bit_at row k) (bit_at used k)) slot f (constrains_implies b c (bit_at row slot) (bit_at used slot) denied e r)

pub apart_from_more : (a b c : Formula) (row : List Bit) (slot other : ℕ) (denied second : Bit) → Constrains a b (IsApartFrom other row slot) → denied ≡ negation_of (bit_at row slot) → second ≡ negation_of (bit_at row other) → Requires b c (denied ∷ second ∷ []) → Constrains a c (IsApartFrom (other + 1) row slot)
apart_from_more a b c row slot other denied second f e g r =
    constrains_each a b c (λ k. Excludes (bit_at row slot) (bit_at row k)) other f (constrains_excludes b c (bit_at row slot) (bit_at row other) denied second e g r)

pub apart_more : (a b c : Formula) (row : List Bit) (slot : ℕ) → Constrains a b (AreApartBelow slot row) → Constrains b c (IsApartFrom slot row slot) → Constrains a c (AreApartBelow (slot + 1) row)
apart_more a b c row slot f g = constrains_each a b c (λ k. IsApartFrom k row k) slot f g

marks_used : (used row : List Bit) (bits : List Bool) → any_value row bits ≡ true → AreUsedBelow (length row) used row bits → AreApartBelow (length row) row bits → MarksUsed used row bits
marks_used used row bits some inside apart =
    let w = Any-from_list_any (bit_value bits) row some in
    let e = w.0 in
    let below : e < length row = w.2 in
    let here : bit_value bits (bit_at row e) ≡ true = ap (bit_value bits) (get_or_default row e (Known false) w.1 below ∙ w.3) ∙ w.4 in (
      e,
      inside e below here,
      record {
        inside = below;
        marks = λ slot l. elim (cases_order slot e) [
          | inl same ↦ ap (λ n. bit_value bits (bit_at row n)) same ∙ here ∙ sym (eq-eqb slot e same)
          | inr (inl less) ↦ apart e below slot less here ∙ sym (ne_eqb slot e (λ same. absurd (omega arith)))
          | inr (inr more) ↦ false_from_ne_true (bit_value bits (bit_at row slot)) (λ t. both_ways (bit_value bits (bit_at row e)) (apart slot l e more t) here) ∙ sym (ne_eqb slot e (λ same. absurd (omega arith)))
        ];
      },
    )

marked_some : (used row : List Bit) (bits : List Bool) → MarksUsed used row bits → any_value row bits ≡ true
marked_some used row bits h =
    let e = h.0 in
    let below = h.2.inside in
    list_any-from_Any (bit_value bits) row (e, bit_at row e, below, get_or_default row e (bit_at row e) (Known false) below, h.2.marks e below ∙ eq-eqb e e refl)

marked_used : (used row : List Bit) (bits : List Bool) → MarksUsed used row bits → AreUsedBelow (length row) used row bits
marked_used used row bits h slot l t =
    let same : slot ≡ h.0 = eqb-true slot h.0 (sym (h.2.marks slot l) ∙ t) in
    ap (λ n. bit_value bits (bit_at used n)) same ∙ h.1

marked_apart : (used row : List Bit) (bits : List Bool) → MarksUsed used row bits → AreApartBelow (length row) row bits
marked_apart used row bits h slot l other less t =
    let same : slot ≡ h.0 = eqb-true slot h.0 (sym (h.2.marks slot l) ∙ t) in
    h.2.marks other (omega arith) ∙ ne_eqb other h.0 (λ e. absurd (omega arith))

pub mark_all : (a b c d : Formula) (used row : List Bit) → Requires a b row → Constrains b c (AreUsedBelow (length row) used row) → Constrains c d (AreApartBelow (length row) row) → Constrains a d (MarksUsed used row)
mark_all a b c d used row r f g = record {
  vars = g.vars ∙ (f.vars ∙ r.vars);
  keeps = λ bits met. r.keeps bits (f.keeps bits (g.keeps bits met));
  holds = λ bits met. marks_used used row bits (r.some bits (f.keeps bits (g.keeps bits met))) (f.holds bits (g.keeps bits met)) (g.holds bits met);
  admits = λ bits met h. g.admits bits (f.admits bits (r.admits bits met (marked_some used row bits h)) (marked_used used row bits h)) (marked_apart used row bits h);
}
