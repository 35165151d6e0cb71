use Rattle.std.proofs.Common.{◌≡◌, ◌<◌, ◌≤◌, ◌+◌, ◌*◌, ◌/◌, ◌-◌, ◌^◌, ℕ, Bool, List, [], ◌∷◌, ◌++◌, length, get_or, take, map, ap, sym, ◌∙◌, subst, arith, inl, inr}
use Rattle.std.specs.List.{All, Contains}
use Rattle.std.proofs.lemmas.Bool.{cases_lt}
use Rattle.std.proofs.lemmas.List.{length-map, get_or_append_left, get_or_push, length_push, length-take-le}
use Rattle.std.proofs.Math.Nat.{mul-le-mul_right}
use Rattle.dai_trail.specs.declared.cnf.Lit.{Lit}
use Rattle.dai_trail.specs.declared.trail.Trail.{Trail}
use Rattle.dai_trail.specs.Formula.{Formula, AreMetBy, IsTrueAt}
use Rattle.dai_trail.specs.Codes.{lit_of, Agrees}
use Rattle.dai_trail.specs.Trail.{code_at, place_of, IsDecision, IsTrueIn, IsFalseIn, IsMirror, IsTrail, IsForced, KeepsDecisions, CutsTo, IsFullModel, rank_of}
use Rattle.dai_trail.specs.Marks.{AgreesWithAll}
use Rattle.dai_sat.specs.Under.{IsAsked, AreAskedBelow, AreDecisionsAsked, IsUnder, IsPast, IsWanted, AreNames, IsFailure}
use Rattle.dai_trail.proofs.Mirrors.{mirror_le, true_small}
use Rattle.dai_trail.proofs.Forces.{Points, keeps_cut, agrees_at, denied, lost_place}
use Rattle.dai_trail.proofs.Ranks.{rank_le}
use Rattle.dai_trail.proofs.Encodings.{agrees_lit, lit_agrees, get_or-map_lit}

-- a step that keeps decisions keeps where the assumptions stand
pub under_keeps : (asked : List ℕ) (floor : ℕ) (t t' : Trail) → IsUnder asked floor t → KeepsDecisions t t' → IsUnder asked floor t'
under_keeps asked floor t t' u k = record {
  asks = λ i l low is.
      let s = k.stood i l is in
      let le : i ≤ i = omega arith in
      let P : ℕ → Type 0 = λ q. IsAsked asked q in
      subst P (sym (k.same i l is i le)) (u.asks i s.0 low s.1);
  met = λ i l high is.
      let s = k.stood i l is in
      let m = u.met i s.0 high s.1 in
      λ n nl.
      let w = m n nl in
      let le : w.0 ≤ i = let x = w.1 in omega arith in
      (w.0, w.1, k.same i l is w.0 le ∙ w.2);
}

-- a decision behind the place where all assumptions stand
pub under_past : (asked : List ℕ) (floor : ℕ) (t t' : Trail) (code reason : ℕ) → IsPast asked floor t → Points t t' code reason → IsUnder asked floor t'
under_past asked floor t t' code reason past p = record {
  asks = λ i l low is.
      let l' : i < t.len = omega (arith, past.within) in
      let P : ℕ → Type 0 = λ q. IsAsked asked q in
      subst P (sym (p.code_below i l')) (past.under.asks i l' low (sym (p.reason_below i l') ∙ is));
  met = λ i l high is n nl.
      let w = past.met n nl in
      let wl : w.0 < t.len = let x = w.1 in omega (arith, past.within) in
      (w.0, w.1, p.code_below w.0 wl ∙ w.2);
}

-- a decision on an assumption
pub under_wanted : (asked : List ℕ) (floor : ℕ) (t t' : Trail) (code reason number : ℕ) → IsWanted asked floor t number → code ≡ get_or asked number 0 → IsMirror t' → Points t t' code reason → IsUnder asked floor t'
under_wanted asked floor t t' code reason number w e m p = record {
  asks = λ i l low is.
      let P : ℕ → Type 0 = λ q. IsAsked asked q in
      elim (cases_lt i t.len) [
        | inl l' ↦ subst P (sym (p.code_below i l')) (w.asks i l' (sym (p.reason_below i l') ∙ is))
        | inr high ↦
            let at : t.len ≡ i = omega (arith, p.len) in
            let here : code ≡ code_at t' i = sym p.code_here ∙ ap (λ k. code_at t' k) at in
            (number, w.within, sym e ∙ here)
      ];
  met = λ i l high is. absurd (omega (arith, mirror_le t' m, p.room, w.far));
}

-- a trail with no decision
pub under_none : (asked : List ℕ) (floor : ℕ) (t : Trail) → ((i : ℕ) → i < t.len → IsDecision t i → ⊥) → IsUnder asked floor t
under_none asked floor t none = record {
  asks = λ i l low is. absurd (none i l is);
  met = λ i l high is. absurd (none i l is);
}

-- the decisions below the floor, where none stands behind it
pub decisions_asked : (asked : List ℕ) (floor : ℕ) (t : Trail) → IsUnder asked floor t → ((i : ℕ) → floor ≤ i → i < t.len → IsDecision t i → ⊥) → AreDecisionsAsked asked t
decisions_asked asked floor t u none = λ i l is.
    elim (cases_lt i floor) [ inl low ↦ u.asks i l low is | inr high ↦ absurd (none i high l is) ]

-- a true literal stands on the trail
pub stands : (t : Trail) (code : ℕ) → IsMirror t → IsTrueIn t code → (j : ℕ) × (j < t.len) × (code_at t j ≡ code)
stands t code m h =
    let small = true_small t code h in
    let n = m.named (code / 2) small in
    let e : code_at t (place_of t (code / 2)) ≡ code = omega arith in
    (place_of t (code / 2), m.placed (code / 2) small, e)

-- where all assumptions are true and each decision is one of them
pub past_all : (asked : List ℕ) (t : Trail) → IsMirror t → AreDecisionsAsked asked t → ((k : ℕ) → k < length asked → IsTrueIn t (get_or asked k 0)) → IsPast asked t.len t
past_all asked t m asks all =
    let below : AreAskedBelow asked t t.len = λ k kl. stands t (get_or asked k 0) m (all k kl) in
    record {
      under = record { asks = λ i l low is. asks i l is; met = λ i l high is. below };
      within = omega arith;
      met = below;
    }

-- where a decision stands behind the floor
pub past_decision : (asked : List ℕ) (floor : ℕ) (t : Trail) (place : ℕ) → IsUnder asked floor t → place < t.len → floor ≤ place → IsDecision t place → IsPast asked floor t
past_decision asked floor t place u l high is = record {
  under = u;
  within = omega arith;
  met = u.met place l high is;
}

-- on a trail whose literals are the same
pub past_same : (asked : List ℕ) (floor : ℕ) (t t' : Trail) → IsPast asked floor t → CutsTo t t' t.len → IsPast asked floor t'
past_same asked floor t t' past cuts =
    let le : t.len ≤ t.len = omega arith in
    record {
      under = under_keeps asked floor t t' past.under (keeps_cut t t' t.len cuts le);
      within = omega (arith, past.within, cuts.len);
      met = λ k kl. let w = past.met k kl in (w.0, w.1, ap (λ xs. get_or xs w.0 0) cuts.codes ∙ w.2);
    }

-- the assumptions that stand on the trail are true
pub past_true : (asked : List ℕ) (floor : ℕ) (t : Trail) → IsMirror t → IsPast asked floor t → (k : ℕ) → k < length asked → IsTrueIn t (get_or asked k 0)
past_true asked floor t m past k kl =
    let w = past.met k kl in
    let wl : w.0 < t.len = let x = w.1 in omega (arith, past.within) in
    let P : ℕ → Type 0 = λ q. IsTrueIn t q in
    subst P w.2 (m.holding w.0 wl)

-- a model that has the values of the trail meets the assumptions
pub model_asked : (f : Formula) (t : Trail) (bits : List Bool) (asked : List ℕ) → length t.values.items ≡ f.vars → IsFullModel f t bits → ((k : ℕ) → k < length asked → get_or asked k 0 / 2 < f.vars) → ((k : ℕ) → k < length asked → IsTrueIn t (get_or asked k 0)) → All (IsTrueAt bits) (map lit_of asked)
model_asked f t bits asked room full below holds = λ k d l.
    let l' : k < length asked = omega (arith, length-map asked lit_of) in
    let a : Agrees bits (get_or asked k 0) = full.same (get_or asked k 0 / 2) (below k l') ∙ holds k l' in
    let P : Lit → Type 0 = λ x. IsTrueAt bits x in
    subst P (sym (get_or-map_lit asked k d l')) (lit_agrees bits (get_or asked k 0) a)

-- named literals that are assumptions or decisions on them
pub names_asked : (asked : List ℕ) (t : Trail) (code number : ℕ) (names : List ℕ) → number < length asked → get_or asked number 0 ≡ code → AreDecisionsAsked asked t → AreNames t code names → (k : ℕ) → k < length names → IsAsked asked (get_or names k 0)
names_asked asked t code number names l e asks are k kl =
    elim (are k kl) [
      | inl same ↦ (number, l, e ∙ sym same)
      | inr w ↦
          let P : ℕ → Type 0 = λ q. IsAsked asked q in
          subst P (sym w.3) (asks w.0 w.1 w.2)
    ]

-- numbers among the assumptions' numbers are literals among the assumptions
pub contains_asked : (asked names : List ℕ) → ((k : ℕ) → k < length names → IsAsked asked (get_or names k 0)) → All (λ l. Contains (map lit_of asked) l) (map lit_of names)
contains_asked asked names are = λ k d l.
    let l' : k < length names = omega (arith, length-map names lit_of) in
    let w = are k l' in
    let e : get_or (map lit_of names) k d ≡ lit_of (get_or names k 0) = get_or-map_lit names k d l' in
    let P : Lit → Type 0 = λ x. Contains (map lit_of asked) x in
    let wl : w.0 < length (map lit_of asked) = let x = w.1 in omega (arith, length-map asked lit_of) in
    subst P (sym e) (w.0, wl, get_or-map_lit asked w.0 (lit_of (get_or names k 0)) w.1 ∙ ap lit_of w.2)

-- named numbers that no model makes true, as literals
pub failure_of : (f : Formula) (asked names : List ℕ) (lits : List Lit) → lits ≡ map lit_of names → ((k : ℕ) → k < length names → IsAsked asked (get_or names k 0)) → ((bits : List Bool) → AreMetBy f bits → AgreesWithAll bits names → ⊥) → IsFailure f asked lits
failure_of f asked names lits e are refutes =
    let P : List Lit → Type 0 = λ xs. All (λ l. Contains (map lit_of asked) l) xs in
    record {
      asks = subst P (sym e) (contains_asked asked names are);
      refutes = λ bits model all.
          let Q : List Lit → Type 0 = λ xs. All (IsTrueAt bits) xs in
          let all' = subst Q e all in
          refutes bits model (λ k kl.
          let l : k < length (map lit_of names) = omega (arith, length-map names lit_of) in
          let R : Lit → Type 0 = λ x. IsTrueAt bits x in
          let d = lit_of (get_or names k 0) in
          agrees_lit bits (get_or names k 0) (subst R (get_or-map_lit names k (lit_of (get_or names k 0)) kl) (all' k (lit_of (get_or names k 0)) l)));
    }

-- all assumptions fail together where one is false by decisions on others
pub all_fail : (f : Formula) (t : Trail) (asked : List ℕ) (number : ℕ) → IsMirror t → IsForced f t → number < length asked → IsFalseIn t (get_or asked number 0) → AreDecisionsAsked asked t → (bits : List Bool) → AreMetBy f bits → AgreesWithAll bits asked → ⊥
all_fail f t asked number m forced l lost asks bits model all =
    let le : t.len ≤ t.len = omega arith in
    let agree = forced.entails bits model t.len le (λ i il is.
    let w = asks i il is in
    agrees_at bits (get_or asked w.0 0) (code_at t i) w.2 (all w.0 w.1)) in
    denied t (get_or asked number 0) bits m lost (agree (place_of t (get_or asked number 0 / 2)) (lost_place t (get_or asked number 0) m lost)) (all number l)

-- the first name is the false literal
pub names_first : (t : Trail) (code : ℕ) (names : List ℕ) → names ≡ code ∷ [] → AreNames t code names
names_first t code names e = λ k kl.
    let at : 0 ≡ k = omega (arith, ap length e) in
    inl (ap (λ xs. get_or xs k 0) e ∙ ap (λ i. get_or (code ∷ []) i 0) (sym at))

-- one more decision is named
pub names_push : (t : Trail) (code : ℕ) (names names' : List ℕ) (place x : ℕ) → AreNames t code names → names' ≡ names ++ x ∷ [] → place < t.len → IsDecision t place → x ≡ code_at t place → AreNames t code names'
names_push t code names names' place x are e l is here = λ k kl.
    let len = length_push names x in
    let read = ap (λ xs. get_or xs k 0) e in
    elim (cases_lt k (length names)) [
      | inl low ↦
          let r : get_or names' k 0 ≡ get_or names k 0 = read ∙ get_or_append_left names (x ∷ []) 0 k low in
          elim (are k low) [
            | inl same ↦ inl (r ∙ same)
            | inr w ↦ inr (w.0, w.1, w.2, r ∙ w.3)
          ]
      | inr high ↦
          let at : length names ≡ k = omega (arith, ap length e) in
          inr (place, l, is, read ∙ get_or_push names x 0 k at ∙ here)
    ]

product_falls : (a b k : ℕ) → a < b → a * k + k ≤ b * k
product_falls a b k l = let le : a + 1 ≤ b = omega arith in let h : (a + 1) * k ≤ b * k = mul-le-mul_right k le in omega (arith, h)

sum_falls : (a b k r r' : ℕ) → a + (k + 1) ≤ b → r' ≤ k → a + r' ≤ b + r
sum_falls a b k r r' h l = omega arith

-- a restart lessens what is left to do, wherever it leads
pub restart_falls : (restarts : ℕ) (t t' : Trail) → restarts < 2 ^ 64 - 1 → IsTrail t' → length t'.values.items ≡ length t.values.items → (2 ^ 64 - 1 - (restarts + 1)) * (3 ^ length t'.values.items + 1) + rank_of t' ≤ (2 ^ 64 - 1 - restarts) * (3 ^ length t.values.items + 1) + rank_of t
restart_falls restarts t t' l m room =
    let le = mirror_le t' m.mirror in
    let below : t'.len ≤ length t'.reasons.items = omega (arith, m.mirror.reasons_room) in
    let len : length (take t'.len t'.reasons.items) ≡ t'.len = length-take-le t'.len t'.reasons.items below in
    let short : length (take t'.len t'.reasons.items) ≤ length t'.values.items = omega arith in
    let small = rank_le (length t'.values.items) (take t'.len t'.reasons.items) short in
    let a : 2 ^ 64 - 1 - (restarts + 1) < 2 ^ 64 - 1 - restarts = omega arith in
    let P : ℕ → Type 0 = λ n. rank_of t' ≤ 3 ^ n in
    let small' : rank_of t' ≤ 3 ^ length t.values.items = subst P room small in
    let fall = product_falls (2 ^ 64 - 1 - (restarts + 1)) (2 ^ 64 - 1 - restarts) (3 ^ length t.values.items + 1) a in
    let Q : ℕ → Type 0 = λ n. (2 ^ 64 - 1 - (restarts + 1)) * (3 ^ n + 1) + rank_of t' ≤ (2 ^ 64 - 1 - restarts) * (3 ^ length t.values.items + 1) + rank_of t in
    subst Q (sym room) (sum_falls ((2 ^ 64 - 1 - (restarts + 1)) * (3 ^ length t.values.items + 1)) ((2 ^ 64 - 1 - restarts) * (3 ^ length t.values.items + 1)) (3 ^ length t.values.items) (rank_of t) (rank_of t') fall small')
