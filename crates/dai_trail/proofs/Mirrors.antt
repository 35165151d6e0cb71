use Rattle.std.proofs.Common.{Vec, Global, ◌≡◌, ◌<◌, ◌≤◌, ◌+◌, ◌*◌, ◌/◌, ◌%◌, ℕ, zero, suc, List, [], ◌∷◌, ◌++◌, length, get_or, take, set, refl, ap, sym, ◌∙◌, subst, arith, inl, inr, length-set}
use Rattle.std.specs.List.{sum_by}
use Rattle.std.specs.Prelude.{min}
use Rattle.std.proofs.lemmas.Bool.{cases_eq, cases_lt}
use Rattle.std.proofs.lemmas.List.{get_or-set_same, get_or-set_other, get_or_past, get_or_append_left, get_or_push, length_push, take_more_set, length-take-le}
use Rattle.std.proofs.lemmas.Grind.{common_steps}
use Rattle.dai_trail.specs.declared.trail.Trail.{Trail}
use Rattle.dai_trail.specs.declared.trail.TheConstants.{DECISION}
use Rattle.dai_trail.specs.Rank.{rank}
use Rattle.dai_trail.specs.Trail.{value_in, code_at, place_of, IsDecision, IsTrueIn, IsFalseIn, IsFreeIn, one_if_assigned, IsMirror, IsTrail, CutsTo, Widens, ForgetsReasons, rank_of}
use Rattle.dai_trail.proofs.Ranks.{rank_push}

-- a count is at most the length
pub count_le : (xs : List ℕ) → sum_by one_if_assigned xs ≤ length xs
count_le [] = omega arith
count_le (x ∷ xs) = let rest = count_le xs in grind (arith, common_steps)

-- where some variable is free, the count is below the length
pub count_lt : (xs : List ℕ) (i : ℕ) → i < length xs → 2 ≤ get_or xs i 2 → sum_by one_if_assigned xs < length xs
count_lt [] i l h = absurd (omega arith)
count_lt (x ∷ xs) zero l h = let rest = count_le xs in grind (arith, common_steps)
count_lt (x ∷ xs) (suc i) l h = let low : i < length xs = omega arith in let rest = count_lt xs i low h in grind (arith, common_steps)

-- a value for a free variable adds one
pub count_assign : (xs : List ℕ) (i b : ℕ) → i < length xs → 2 ≤ get_or xs i 2 → b < 2 → sum_by one_if_assigned (set xs i b) ≡ sum_by one_if_assigned xs + 1
count_assign [] i b l h s = absurd (omega arith)
count_assign (x ∷ xs) zero b l h s = grind (arith, common_steps)
count_assign (x ∷ xs) (suc i) b l h s = let low : i < length xs = omega arith in let rest = count_assign xs i b low h s in grind (arith, common_steps)

-- a value that goes takes one away at most
pub count_free : (xs : List ℕ) (i : ℕ) → sum_by one_if_assigned xs ≤ sum_by one_if_assigned (set xs i 2) + 1
count_free [] i = omega arith
count_free (x ∷ xs) zero = grind (arith, common_steps)
count_free (x ∷ xs) (suc i) = let rest = count_free xs i in grind (arith, common_steps)

pub mirror_le : (t : Trail) → IsMirror t → t.len ≤ length t.values.items
mirror_le t m = omega (arith, m.count, count_le t.values.items)

pub mirror_lt : (t : Trail) (var : ℕ) → IsMirror t → var < length t.values.items → 2 ≤ value_in t var → t.len < length t.values.items
mirror_lt t var m l f = omega (arith, m.count, count_lt t.values.items var l f)

-- a variable with a value is below the count
pub in_range : (t : Trail) (var : ℕ) → value_in t var < 2 → var < length t.values.items
in_range t var h = elim (cases_lt var (length t.values.items)) [ inl l ↦ l | inr g ↦ let e : value_in t var ≡ 2 = get_or_past t.values.items var 2 g in absurd (omega arith) ]

pub value_small : (t : Trail) (code : ℕ) → IsFalseIn t code → value_in t (code / 2) < 2
value_small t code h = omega arith

pub true_small : (t : Trail) (code : ℕ) → IsTrueIn t code → value_in t (code / 2) < 2
true_small t code h = omega arith

-- the trail after one literal was added, entry by entry
pub record Adds (t t' : Trail) (code reason : ℕ) : Type 0 where
  pub small : code / 2 < length t.values.items
  pub below_room : t.len < length t.values.items
  pub freed : 2 ≤ value_in t (code / 2)
  pub len : t'.len ≡ t.len + 1
  pub value_here : value_in t' (code / 2) ≡ code % 2
  pub value_else : (u : ℕ) → (u ≡ code / 2 → ⊥) → value_in t' u ≡ value_in t u
  pub place_here : place_of t' (code / 2) ≡ t.len
  pub place_else : (u : ℕ) → (u ≡ code / 2 → ⊥) → place_of t' u ≡ place_of t u
  pub code_here : code_at t' t.len ≡ code
  pub code_below : (i : ℕ) → i < t.len → code_at t' i ≡ code_at t i
  pub reason_here : get_or t'.reasons.items t.len 0 ≡ reason
  pub reason_below : (i : ℕ) → i < t.len → get_or t'.reasons.items i 0 ≡ get_or t.reasons.items i 0

-- what stands on the trail has a value, so it is another variable
pub apart_from_free : (t t' : Trail) (code reason : ℕ) → Adds t t' code reason → (u : ℕ) → value_in t u < 2 → u ≡ code / 2 → ⊥
apart_from_free t t' code reason a u h e =
    let same : value_in t u ≡ value_in t (code / 2) = ap (λ v. value_in t v) e in
    let f = a.freed in omega arith

adds_placed : (t t' : Trail) (code reason : ℕ) → IsMirror t → Adds t t' code reason → (var : ℕ) → value_in t' var < 2 → place_of t' var < t'.len
adds_placed t t' code reason m a var h =
    elim (cases_eq var (code / 2)) [
      | inl e ↦ let p : place_of t' var ≡ t.len = ap (λ v. place_of t' v) e ∙ a.place_here in omega (arith, a.len)
      | inr n ↦ let v = a.value_else var n in let old : value_in t var < 2 = omega arith in
          let p = a.place_else var n in let q = m.placed var old in omega (arith, a.len)
    ]

adds_named : (t t' : Trail) (code reason : ℕ) → IsMirror t → Adds t t' code reason → (var : ℕ) → value_in t' var < 2 → code_at t' (place_of t' var) ≡ 2 * var + value_in t' var
adds_named t t' code reason m a var h =
    elim (cases_eq var (code / 2)) [
      | inl e ↦
          let p : place_of t' var ≡ t.len = ap (λ v. place_of t' v) e ∙ a.place_here in
          let q : code_at t' (place_of t' var) ≡ code = ap (λ i. code_at t' i) p ∙ a.code_here in
          let v : value_in t' var ≡ code % 2 = ap (λ u. value_in t' u) e ∙ a.value_here in
          omega arith
      | inr n ↦
          let v = a.value_else var n in let old : value_in t var < 2 = omega arith in
          let p = a.place_else var n in let l = m.placed var old in
          let q : code_at t' (place_of t' var) ≡ code_at t (place_of t var) = ap (λ i. code_at t' i) p ∙ a.code_below (place_of t var) l in
          let s = m.named var old in omega arith
    ]

adds_entered : (t t' : Trail) (code reason : ℕ) → IsMirror t → Adds t t' code reason → (i : ℕ) → i < t'.len → place_of t' (code_at t' i / 2) ≡ i
adds_entered t t' code reason m a i h =
    elim (cases_eq i t.len) [
      | inl e ↦
          let q : code_at t' i ≡ code = ap (λ k. code_at t' k) e ∙ a.code_here in
          let p : place_of t' (code_at t' i / 2) ≡ t.len = ap (λ q. place_of t' (q / 2)) q ∙ a.place_here in
          p ∙ sym e
      | inr n ↦
          let l : i < t.len = omega (arith, a.len) in
          let q = a.code_below i l in
          let hold = m.holding i l in
          let v : value_in t (code_at t i / 2) < 2 = true_small t (code_at t i) hold in
          let ne = apart_from_free t t' code reason a (code_at t i / 2) v in
          let p = a.place_else (code_at t i / 2) ne in
          ap (λ q. place_of t' (q / 2)) q ∙ p ∙ m.entered i l
    ]

adds_holding : (t t' : Trail) (code reason : ℕ) → IsMirror t → Adds t t' code reason → (i : ℕ) → i < t'.len → IsTrueIn t' (code_at t' i)
adds_holding t t' code reason m a i h =
    elim (cases_eq i t.len) [
      | inl e ↦
          let q : code_at t' i ≡ code = ap (λ k. code_at t' k) e ∙ a.code_here in
          let P : ℕ → Type 0 = λ q. IsTrueIn t' q in
          subst P (sym q) a.value_here
      | inr n ↦
          let l : i < t.len = omega (arith, a.len) in
          let q = a.code_below i l in
          let hold = m.holding i l in
          let v : value_in t (code_at t i / 2) < 2 = true_small t (code_at t i) hold in
          let ne = apart_from_free t t' code reason a (code_at t i / 2) v in
          let P : ℕ → Type 0 = λ q. IsTrueIn t' q in
          subst P (sym q) (a.value_else (code_at t i / 2) ne ∙ hold)
    ]

pub adds_mirror : (t t' : Trail) (code reason : ℕ) → IsMirror t → Adds t t' code reason → t'.values.items ≡ set t.values.items (code / 2) (code % 2) → length t'.codes.items ≡ length t.codes.items → length t'.reasons.items ≡ length t.reasons.items → length t'.places.items ≡ length t.places.items → IsMirror t'
adds_mirror t t' code reason m a v c r p =
    let n : length t'.values.items ≡ length t.values.items = ap length v ∙ length-set t.values.items (code / 2) (code % 2) in
    let b : code % 2 < 2 = omega arith in
    let s : sum_by one_if_assigned t'.values.items ≡ sum_by one_if_assigned t.values.items + 1 = ap (sum_by one_if_assigned) v ∙ count_assign t.values.items (code / 2) (code % 2) a.small a.freed b in
    record {
      codes_room = c ∙ m.codes_room ∙ sym n;
      reasons_room = r ∙ m.reasons_room ∙ sym n;
      places_room = p ∙ m.places_room ∙ sym n;
      count = omega (arith, a.len, m.count);
      placed = adds_placed t t' code reason m a;
      named = adds_named t t' code reason m a;
      entered = adds_entered t t' code reason m a;
      holding = adds_holding t t' code reason m a;
    }

pub adds_trail : (t t' : Trail) (code reason : ℕ) → IsTrail t → Adds t t' code reason → IsMirror t' → t'.root ≡ t.root → t'.next ≡ t.next → IsTrail t'
adds_trail t t' code reason m a new r x = record {
  mirror = new;
  root_in = omega (arith, a.len, m.root_in);
  root_forced = λ i l d.
      let low : i < t.root = omega arith in
      let in' : i < t.len = omega (arith, m.root_in) in
      m.root_forced i low (sym (a.reason_below i in') ∙ d);
  next_after = λ u l.
      let low : u < t.next = omega arith in
      let v = m.next_after u low in
      let ne = apart_from_free t t' code reason a u v in
      let e = a.value_else u ne in omega arith;
}

-- what the writes of `assign` come to
pub adds_from_writes : (t t' : Trail) (code reason : ℕ) → IsMirror t → IsFreeIn t code → t'.len ≡ t.len + 1 → t'.values.items ≡ set t.values.items (code / 2) (code % 2) → t'.places.items ≡ set t.places.items (code / 2) t.len → t'.codes.items ≡ set t.codes.items t.len code → t'.reasons.items ≡ set t.reasons.items t.len reason → Adds t t' code reason
adds_from_writes t t' code reason m f len v p c r =
    let room = mirror_lt t (code / 2) m f.0 f.1 in
    let in_places : code / 2 < length t.places.items = omega (arith, f.0, m.places_room) in
    let in_codes : t.len < length t.codes.items = omega (arith, m.codes_room) in
    let in_reasons : t.len < length t.reasons.items = omega (arith, m.reasons_room) in
    record {
      small = f.0;
      below_room = room;
      freed = f.1;
      len = len;
      value_here = ap (λ xs. get_or xs (code / 2) 2) v ∙ get_or-set_same t.values.items (code / 2) (code % 2) 2 f.0;
      value_else = λ u n. ap (λ xs. get_or xs u 2) v ∙ get_or-set_other t.values.items (code / 2) u (code % 2) 2 n;
      place_here = ap (λ xs. get_or xs (code / 2) 0) p ∙ get_or-set_same t.places.items (code / 2) t.len 0 in_places;
      place_else = λ u n. ap (λ xs. get_or xs u 0) p ∙ get_or-set_other t.places.items (code / 2) u t.len 0 n;
      code_here = ap (λ xs. get_or xs t.len 0) c ∙ get_or-set_same t.codes.items t.len code 0 in_codes;
      code_below = λ i l. let n : i ≡ t.len → ⊥ = λ e. absurd (omega arith) in ap (λ xs. get_or xs i 0) c ∙ get_or-set_other t.codes.items t.len i code 0 n;
      reason_here = ap (λ xs. get_or xs t.len 0) r ∙ get_or-set_same t.reasons.items t.len reason 0 in_reasons;
      reason_below = λ i l. let n : i ≡ t.len → ⊥ = λ e. absurd (omega arith) in ap (λ xs. get_or xs i 0) r ∙ get_or-set_other t.reasons.items t.len i reason 0 n;
    }

-- the whole step
pub assign_trail : (t t' : Trail) (code reason : ℕ) → IsTrail t → IsFreeIn t code → t'.len ≡ t.len + 1 → t'.root ≡ t.root → t'.next ≡ t.next → t'.values.items ≡ set t.values.items (code / 2) (code % 2) → t'.places.items ≡ set t.places.items (code / 2) t.len → t'.codes.items ≡ set t.codes.items t.len code → t'.reasons.items ≡ set t.reasons.items t.len reason → IsTrail t'
assign_trail t t' code reason m f len root next v p c r =
    let a = adds_from_writes t t' code reason m.mirror f len v p c r in
    let cl : length t'.codes.items ≡ length t.codes.items = ap length c ∙ length-set t.codes.items t.len code in
    let rl : length t'.reasons.items ≡ length t.reasons.items = ap length r ∙ length-set t.reasons.items t.len reason in
    let pl : length t'.places.items ≡ length t.places.items = ap length p ∙ length-set t.places.items (code / 2) t.len in
    adds_trail t t' code reason m a (adds_mirror t t' code reason m.mirror a v cl rl pl) root next

-- a step makes the rank fall
pub assign_falls : (t : Trail) (code reason : ℕ) → IsTrail t → IsFreeIn t code → rank (length (set t.values.items (code / 2) (code % 2))) (take (t.len + 1) (set t.reasons.items t.len reason)) < rank_of t
assign_falls t code reason m f =
    let room = mirror_lt t (code / 2) m.mirror f.0 f.1 in
    let in_reasons : t.len < length t.reasons.items = omega (arith, m.mirror.reasons_room) in
    let below : t.len ≤ length t.reasons.items = omega arith in
    let l : length (take t.len t.reasons.items) ≡ t.len = length-take-le t.len t.reasons.items below in
    let short : length (take t.len t.reasons.items) < length t.values.items = omega arith in
    let fall = rank_push (length t.values.items) (take t.len t.reasons.items) reason short in
    rw (length-set t.values.items (code / 2) (code % 2), take_more_set t.reasons.items t.len reason in_reasons) fall

-- the trail without its last literal, entry by entry
pub record Drops (t t' : Trail) (place : ℕ) : Type 0 where
  pub last : t.len ≡ place + 1
  pub len : t'.len ≡ place
  pub codes : t'.codes.items ≡ t.codes.items
  pub reasons : t'.reasons.items ≡ t.reasons.items
  pub places : t'.places.items ≡ t.places.items
  pub values : t'.values.items ≡ set t.values.items (code_at t place / 2) 2

drops_free : (t t' : Trail) (place : ℕ) → IsMirror t → Drops t t' place → (u : ℕ) → value_in t' u < 2 → (value_in t' u ≡ value_in t u) × (u ≡ code_at t place / 2 → ⊥)
drops_free t t' place m d u h =
    let v = code_at t place / 2 in
    let top : place < t.len = omega (arith, d.last) in
    let small = in_range t (code_at t place / 2) (true_small t (code_at t place) (m.holding place top)) in
    elim (cases_eq u (code_at t place / 2)) [
      | inl e ↦
          let two : value_in t' (code_at t place / 2) ≡ 2 = ap (λ xs. get_or xs (code_at t place / 2) 2) d.values ∙ get_or-set_same t.values.items (code_at t place / 2) 2 2 small in
          let same : value_in t' u ≡ value_in t' (code_at t place / 2) = ap (λ u. value_in t' u) e in
          absurd (omega arith)
      | inr n ↦ (ap (λ xs. get_or xs u 2) d.values ∙ get_or-set_other t.values.items (code_at t place / 2) u 2 2 n, n)
    ]

drops_kept : (t t' : Trail) (place : ℕ) → IsMirror t → Drops t t' place → (i : ℕ) → i < place → value_in t' (code_at t i / 2) ≡ value_in t (code_at t i / 2)
drops_kept t t' place m d i l =
    let a : i < t.len = omega (arith, d.last) in
    let top : place < t.len = omega (arith, d.last) in
    let n : code_at t i / 2 ≡ code_at t place / 2 → ⊥ = λ e.
    let p : place_of t (code_at t i / 2) ≡ place_of t (code_at t place / 2) = ap (λ u. place_of t u) e in
    let q = m.entered i a in let r = m.entered place top in absurd (omega arith) in
    ap (λ xs. get_or xs (code_at t i / 2) 2) d.values ∙ get_or-set_other t.values.items (code_at t place / 2) (code_at t i / 2) 2 2 n

pub drops_mirror : (t t' : Trail) (place : ℕ) → IsMirror t → Drops t t' place → IsMirror t'
drops_mirror t t' place m d =
    let n : length t'.values.items ≡ length t.values.items = ap length d.values ∙ length-set t.values.items (code_at t place / 2) 2 in
    let cs : (i : ℕ) → code_at t' i ≡ code_at t i = λ i. ap (λ xs. get_or xs i 0) d.codes in
    let ps : (u : ℕ) → place_of t' u ≡ place_of t u = λ u. ap (λ xs. get_or xs u 0) d.places in
    let sum : sum_by one_if_assigned t'.values.items ≡ sum_by one_if_assigned (set t.values.items (code_at t place / 2) 2) = ap (sum_by one_if_assigned) d.values in
    record {
      codes_room = ap length d.codes ∙ m.codes_room ∙ sym n;
      reasons_room = ap length d.reasons ∙ m.reasons_room ∙ sym n;
      places_room = ap length d.places ∙ m.places_room ∙ sym n;
      count = omega (arith, d.last, d.len, m.count, count_free t.values.items (code_at t place / 2));
      placed = λ u h.
          let f = drops_free t t' place m d u h in
          let old : value_in t u < 2 = omega (arith, f.0) in
          let l = m.placed u old in
          let p = ps u in
          elim (cases_eq (place_of t u) place) [
            | inl e ↦
                let c = m.named u old in
                let e' : code_at t (place_of t u) ≡ code_at t place = ap (λ i. code_at t i) e in
                let s : u ≡ code_at t place / 2 = omega arith in
                absurd (f.1 s)
            | inr ne ↦ omega (arith, d.last, d.len)
          ];
      named = λ u h.
          let f = drops_free t t' place m d u h in
          let old : value_in t u < 2 = omega (arith, f.0) in
          let c = m.named u old in
          let e : code_at t' (place_of t' u) ≡ code_at t (place_of t u) = ap (λ i. code_at t' i) (ps u) ∙ cs (place_of t u) in
          let v = f.0 in omega arith;
      entered = λ i h.
          let l : i < t.len = omega (arith, d.last, d.len) in
          ps (code_at t' i / 2) ∙ ap (λ c. place_of t (c / 2)) (cs i) ∙ m.entered i l;
      holding = λ i h.
          let l : i < t.len = omega (arith, d.last, d.len) in
          let low : i < place = omega (arith, d.len) in
          ap (λ c. value_in t' (c / 2)) (cs i) ∙ drops_kept t t' place m d i low ∙ m.holding i l ∙ ap (λ c. c % 2) (sym (cs i));
    }

-- the parts that a mirror does not look at
pub mirror_beside : (t : Trail) (head root next : ℕ) → IsMirror t → IsMirror (record t { head = head; root = root; next = next })
mirror_beside t head root next m = record {
  codes_room = m.codes_room;
  reasons_room = m.reasons_room;
  places_room = m.places_room;
  count = m.count;
  placed = m.placed;
  named = m.named;
  entered = m.entered;
  holding = m.holding;
}

pub cuts_refl : (t : Trail) → CutsTo t t t.len
cuts_refl t = record { codes = refl; reasons = refl; places = refl; len = refl; room = refl }

pub cuts_more : (t m t' : Trail) (place : ℕ) → CutsTo t m m.len → CutsTo m t' place → CutsTo t t' place
cuts_more t m t' place a b = record {
  codes = b.codes ∙ a.codes;
  reasons = b.reasons ∙ a.reasons;
  places = b.places ∙ a.places;
  len = b.len;
  room = b.room ∙ a.room;
}

-- a decision stands behind the root
pub decision_above : (t : Trail) (place : ℕ) → IsTrail t → IsDecision t place → t.root ≤ place
decision_above t place m d = elim (cases_lt place t.root) [ inl b ↦ absurd (m.root_forced place b d) | inr b ↦ b ]

-- without its last literal, which isn't below the root, a trail is one
pub drops_trail : (t t' : Trail) (place : ℕ) → IsTrail t → t.root < t.len → Drops t t' place → t'.root ≡ t.root → t'.next ≡ min t.next (code_at t place / 2) → IsTrail t'
drops_trail t t' place m above d root next = record {
  mirror = drops_mirror t t' place m.mirror d;
  root_in = omega (arith, d.last, d.len);
  root_forced = λ i b is.
      let b' : i < t.root = omega arith in
      m.root_forced i b' (ap (λ xs. get_or xs i 0) (sym d.reasons) ∙ is);
  next_after = λ u b.
      let low : u < t.next = omega arith in
      let n : u ≡ code_at t place / 2 → ⊥ = λ e. absurd (omega arith) in
      let e : value_in t' u ≡ value_in t u = ap (λ xs. get_or xs u 2) d.values ∙ get_or-set_other t.values.items (code_at t place / 2) u 2 2 n in
      let h = m.next_after u low in
      omega arith;
}

-- the head is no part of what makes a trail
pub trail_beside : (t : Trail) (head : ℕ) → IsTrail t → IsTrail (record t { head = head })
trail_beside t head m = record {
  mirror = mirror_beside t head t.root t.next m.mirror;
  root_in = m.root_in;
  root_forced = m.root_forced;
  next_after = m.next_after;
}

-- one more element, which is what is read past the end, changes no read
pub get_or-push_default : (xs : List ℕ) (i d : ℕ) → get_or (xs ++ d ∷ []) i d ≡ get_or xs i d
get_or-push_default xs i d =
    elim (cases_lt i (length xs)) [
      | inl l ↦ get_or_append_left xs (d ∷ []) d i l
      | inr h ↦ elim (cases_eq i (length xs)) [
        | inl e ↦ get_or_push xs d d i (sym e) ∙ sym (get_or_past xs i d h)
        | inr n ↦
            let len = length_push xs d in
            let past : length (xs ++ d ∷ []) ≤ i = omega arith in
            get_or_past (xs ++ d ∷ []) i d past ∙ sym (get_or_past xs i d h)
      ]
    ]

sum_by-push_free : (xs : List ℕ) → sum_by one_if_assigned (xs ++ 2 ∷ []) ≡ sum_by one_if_assigned xs
sum_by-push_free [] = grind (arith, common_steps)
sum_by-push_free (x ∷ xs) = let rest = sum_by-push_free xs in grind (arith, common_steps)

-- one more variable, which is free
pub record Grows (t t' : Trail) : Type 0 where
  pub values : t'.values.items ≡ t.values.items ++ 2 ∷ []
  pub places : t'.places.items ≡ t.places.items ++ 0 ∷ []
  pub codes : t'.codes.items ≡ t.codes.items ++ 0 ∷ []
  pub reasons : t'.reasons.items ≡ t.reasons.items ++ 0 ∷ []
  pub len : t'.len ≡ t.len
  pub root : t'.root ≡ t.root
  pub next : t'.next ≡ t.next

pub grows_trail : (t t' : Trail) → IsTrail t → Grows t t' → IsTrail t'
grows_trail t t' m g =
    let v : (u : ℕ) → value_in t' u ≡ value_in t u = λ u. ap (λ xs. get_or xs u 2) g.values ∙ get_or-push_default t.values.items u 2 in
    let p : (u : ℕ) → place_of t' u ≡ place_of t u = λ u. ap (λ xs. get_or xs u 0) g.places ∙ get_or-push_default t.places.items u 0 in
    let c : (i : ℕ) → code_at t' i ≡ code_at t i = λ i. ap (λ xs. get_or xs i 0) g.codes ∙ get_or-push_default t.codes.items i 0 in
    let r : (i : ℕ) → get_or t'.reasons.items i 0 ≡ get_or t.reasons.items i 0 = λ i. ap (λ xs. get_or xs i 0) g.reasons ∙ get_or-push_default t.reasons.items i 0 in
    let vl = ap length g.values ∙ length_push t.values.items 2 in
    let s : sum_by one_if_assigned t'.values.items ≡ sum_by one_if_assigned t.values.items = ap (sum_by one_if_assigned) g.values ∙ sum_by-push_free t.values.items in
    record {
      mirror = record {
        codes_room = omega (arith, m.mirror.codes_room, vl, ap length g.codes ∙ length_push t.codes.items 0);
        reasons_room = omega (arith, m.mirror.reasons_room, vl, ap length g.reasons ∙ length_push t.reasons.items 0);
        places_room = omega (arith, m.mirror.places_room, vl, ap length g.places ∙ length_push t.places.items 0);
        count = omega (arith, m.mirror.count, s, g.len);
        placed = λ u h. let e = v u in let old : value_in t u < 2 = omega arith in let b = m.mirror.placed u old in let q = p u in omega (arith, g.len);
        named = λ u h. let e = v u in let old : value_in t u < 2 = omega arith in let b = m.mirror.named u old in
            let q : code_at t' (place_of t' u) ≡ code_at t (place_of t u) = ap (λ i. code_at t' i) (p u) ∙ c (place_of t u) in omega arith;
        entered = λ i h. let l : i < t.len = omega (arith, g.len) in
            ap (λ q. place_of t' (q / 2)) (c i) ∙ p (code_at t i / 2) ∙ m.mirror.entered i l;
        holding = λ i h. let l : i < t.len = omega (arith, g.len) in
            ap (λ q. value_in t' (q / 2)) (c i) ∙ v (code_at t i / 2) ∙ m.mirror.holding i l ∙ ap (λ q. q % 2) (sym (c i));
      };
      root_in = omega (arith, m.root_in, g.root, g.len);
      root_forced = λ i b is. let l : i < t.root = omega (arith, g.root) in m.root_forced i l (sym (r i) ∙ is);
      next_after = λ u b. let l : u < t.next = omega (arith, g.next) in let h = m.next_after u l in let e = v u in omega arith;
    }

pub grows_widens : (a t t' : Trail) → Grows t t' → Widens a t → Widens a t'
grows_widens a t t' g w = record {
  len = g.len ∙ w.len;
  codes = λ i. ap (λ xs. get_or xs i 0) g.codes ∙ get_or-push_default t.codes.items i 0 ∙ w.codes i;
  reasons = λ i. ap (λ xs. get_or xs i 0) g.reasons ∙ get_or-push_default t.reasons.items i 0 ∙ w.reasons i;
}

pub widens_refl : (t : Trail) → Widens t t
widens_refl t = record { len = refl; codes = λ i. refl; reasons = λ i. refl }

pub forgets_refl : (t : Trail) → ForgetsReasons t t
forgets_refl t = record { codes = refl; values = refl; len = refl; decisions = λ i l is. is; kept = λ i l is. is }

pub forgets_trans : (a b c : Trail) → ForgetsReasons a b → ForgetsReasons b c → ForgetsReasons a c
forgets_trans a b c p q = record {
  codes = q.codes ∙ p.codes;
  values = q.values ∙ p.values;
  len = q.len ∙ p.len;
  decisions = λ i l is. let l' : i < b.len = omega (arith, p.len) in p.decisions i l (q.decisions i l' is);
  kept = λ i l is. let l' : i < b.len = omega (arith, p.len) in q.kept i l' (p.kept i l is);
}

-- a reason that is no decision gives way to another that is none
pub forget_decisions : (t : Trail) (place reason : ℕ) → IsTrail t → place < t.len → (IsDecision t place → ⊥) → (reason ≡ DECISION → ⊥) → (i : ℕ) → (get_or (set t.reasons.items place reason) i 0 ≡ DECISION → IsDecision t i) × (IsDecision t i → get_or (set t.reasons.items place reason) i 0 ≡ DECISION)
forget_decisions t place reason m l not_here none i =
    let low : place < length t.reasons.items = omega (arith, mirror_le t m.mirror, m.mirror.reasons_room) in
    elim (cases_eq i place) [
      | inl e ↦
          let here : get_or (set t.reasons.items place reason) i 0 ≡ reason = ap (λ k. get_or (set t.reasons.items place reason) k 0) e ∙ get_or-set_same t.reasons.items place reason 0 low in
          (λ is. absurd (none (sym here ∙ is)), λ is. absurd (not_here (ap (λ k. get_or t.reasons.items k 0) (sym e) ∙ is)))
      | inr n ↦
          let same : get_or (set t.reasons.items place reason) i 0 ≡ get_or t.reasons.items i 0 = get_or-set_other t.reasons.items place i reason 0 n in
          (λ is. sym same ∙ is, λ is. same ∙ is)
    ]

pub forget_trail : (t : Trail) (reasons : Vec ℕ Global) → IsTrail t → length reasons.items ≡ length t.reasons.items → ((i : ℕ) → get_or reasons.items i 0 ≡ DECISION → IsDecision t i) → IsTrail (record t { reasons = reasons })
forget_trail t reasons m len back = record {
  mirror = record {
    codes_room = m.mirror.codes_room;
    reasons_room = len ∙ m.mirror.reasons_room;
    places_room = m.mirror.places_room;
    count = m.mirror.count;
    placed = m.mirror.placed;
    named = m.mirror.named;
    entered = m.mirror.entered;
    holding = m.mirror.holding;
  };
  root_in = m.root_in;
  root_forced = λ i l is. m.root_forced i l (back i is);
  next_after = m.next_after;
}
