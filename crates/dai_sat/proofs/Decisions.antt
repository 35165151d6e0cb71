use Rattle.std.proofs.Common.{◌≡◌, ◌<◌, ◌≤◌, ◌+◌, ◌*◌, ◌/◌, ◌%◌, ◌==◌, ℕ, Bool, length, get_or, ap, sym, ◌∙◌, subst, arith, inl, inr}
use Rattle.std.proofs.lemmas.Bool.{cases_lt}
use Rattle.dai_trail.specs.declared.trail.Trail.{Trail}
use Rattle.dai_trail.specs.Codes.{digit}
use Rattle.dai_trail.specs.Trail.{value_in, code_at, place_of, IsDecision, IsFreeIn, IsMirror, Enters, KeepsDecisions, IsGuided, IsOrdered}
use Rattle.dai_trail.proofs.Forces.{Points, enters_points}
use Rattle.dai_trail.proofs.Encodings.{digit_lt, eqb_digit}

-- the variable of a code
pub code_var : (code var : ℕ) (b : Bool) → code ≡ 2 * var + digit b → code / 2 ≡ var
code_var code var b e = let small = digit_lt b in omega arith

pub code_sign : (code var : ℕ) (b : Bool) → code ≡ 2 * var + digit b → (code % 2 == 1) ≡ b
code_sign code var b e =
    let small = digit_lt b in
    let s : digit b ≡ code % 2 = omega arith in
    eqb_digit b (code % 2) s

-- a decision with the preferred value
pub guided_points : (prefers : ℕ → Bool → Type 0) (t t' : Trail) (code reason : ℕ) → Points t t' code reason → IsGuided prefers t → prefers (code / 2) (code % 2 == 1) → IsGuided prefers t'
guided_points prefers t t' code reason p g here = record {
  preferred = λ i l is.
      let P : ℕ → Type 0 = λ c. prefers (c / 2) (c % 2 == 1) in
      elim (cases_lt i t.len) [
        | inl low ↦
            let is' : IsDecision t i = sym (p.reason_below i low) ∙ is in
            subst P (sym (p.code_below i low)) (g.preferred i low is')
        | inr high ↦
            let e : t.len ≡ i = omega (arith, p.len) in
            let c : code ≡ code_at t' i = sym p.code_here ∙ ap (λ i. code_at t' i) e in
            subst P c here
      ];
}

pub decide_guided : (prefers : ℕ → Bool → Type 0) (t t' : Trail) (code reason var : ℕ) (b : Bool) → IsGuided prefers t → IsMirror t → IsFreeIn t code → Enters t t' code reason → code ≡ 2 * var + digit b → prefers var b → IsGuided prefers t'
decide_guided prefers t t' code reason var b g mirror free e is post =
    let P : ℕ → Type 0 = λ v. prefers v b in
    let Q : Bool → Type 0 = λ x. prefers (code / 2) x in
    guided_points prefers t t' code reason (enters_points t t' code reason mirror free e) g
    (subst Q (sym (code_sign code var b is)) (subst P (sym (code_var code var b is)) post))

-- one more literal, which is decided at the first free variable if at all
pub ordered_points : (t t' : Trail) (code reason : ℕ) → IsMirror t → Points t t' code reason → IsOrdered t → ((u : ℕ) → u < code / 2 → value_in t u < 2) → IsOrdered t'
ordered_points t t' code reason m p o first = record {
  ordered = λ i h d u below.
      elim (cases_lt i t.len) [
        | inl l ↦
            let q = p.code_below i l in
            let b : u < code_at t i / 2 = omega arith in
            let w = o.ordered i l (sym (p.reason_below i l) ∙ d) u b in
            let wl : w.0 < t.len = let x = w.1 in omega arith in
            (w.0, w.1, ap (λ q. q / 2) (p.code_below w.0 wl) ∙ w.2)
        | inr high ↦
            let e : i ≡ t.len = omega (arith, p.len) in
            let q : code_at t' i ≡ code = ap (λ k. code_at t' k) e ∙ p.code_here in
            let b : u < code / 2 = omega arith in
            let v = first u b in
            let l = m.placed u v in
            let n = m.named u v in
            let c = p.code_below (place_of t u) l in
            let l' : place_of t u < i = omega arith in
            let s : code_at t' (place_of t u) / 2 ≡ u = omega arith in
            (place_of t u, l', s)
      ];
}

pub ordered_keeps : (t t' : Trail) → IsOrdered t → KeepsDecisions t t' → IsOrdered t'
ordered_keeps t t' o k = record {
  ordered = λ i l is u below.
      let s = k.stood i l is in
      let le : i ≤ i = omega arith in
      let q = k.same i l is i le in
      let b : u < code_at t i / 2 = omega arith in
      let w = o.ordered i s.0 s.1 u b in
      let wl : w.0 ≤ i = let x = w.1 in omega arith in
      (w.0, w.1, ap (λ q. q / 2) (k.same i l is w.0 wl) ∙ w.2);
}

-- with the same values a literal is as free
pub free_same : (t t' : Trail) (code : ℕ) → t'.values.items ≡ t.values.items → IsFreeIn t code → IsFreeIn t' code
free_same t t' code e free =
    let n : length t'.values.items ≡ length t.values.items = ap length e in
    let v : value_in t' (code / 2) ≡ value_in t (code / 2) = ap (λ xs. get_or xs (code / 2) 2) e in
    let l = free.0 in
    let f = free.1 in
    (omega arith, omega arith)

-- a literal of a free variable is free
pub code_free : (t : Trail) (code var : ℕ) (b : Bool) → code ≡ 2 * var + digit b → var < length t.values.items → 2 ≤ value_in t var → IsFreeIn t code
code_free t code var b is l free =
    let v = code_var code var b is in
    let e : value_in t (code / 2) ≡ value_in t var = ap (λ u. value_in t u) v in
    (omega arith, omega arith)
