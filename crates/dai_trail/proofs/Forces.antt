use Rattle.std.proofs.Common.{◌≡◌, ◌<◌, ◌≤◌, ◌+◌, ◌/◌, ◌%◌, ◌⊎◌, ◌==◌, ℕ, Bool, List, length, get_or, take, refl, ap, sym, ◌∙◌, subst, arith, inl, inr}
use Rattle.std.proofs.lemmas.Bool.{cases_eq, cases_lt}
use Rattle.std.proofs.lemmas.List.{get_or-set_same, get_or-set_other}
use Rattle.dai_trail.specs.declared.trail.Trail.{Trail}
use Rattle.dai_trail.specs.declared.trail.TheConstants.{DECISION}
use Rattle.dai_trail.specs.Formula.{Formula, AreMetBy, value_at}
use Rattle.dai_trail.specs.Codes.{digit, Agrees}
use Rattle.dai_trail.specs.Trail.{value_in, code_at, place_of, IsDecision, IsFalseIn, IsFreeIn, IsMirror, Enters, CutsTo, AgreesBelow, Widens, ForgetsReasons, AgreesWithDecisions, IsForced, IsTrail, IsSound, KeepsDecisions, IsGuided, IsRefuted, rank_of}
use Rattle.dai_trail.specs.Rank.{rank}
use Rattle.dai_trail.specs.Marks.{IsImplied}
use Rattle.dai_trail.proofs.Mirrors.{mirror_lt}

-- where an assignment makes the trail's literal of a variable true, it makes a false literal false
pub denied : (t : Trail) (code : ℕ) (bits : List Bool) → IsMirror t → IsFalseIn t code → Agrees bits (code_at t (place_of t (code / 2))) → Agrees bits code → ⊥
denied t code bits m lost a b =
    let small : value_in t (code / 2) < 2 = omega arith in
    let n = m.named (code / 2) small in
    let var : code_at t (place_of t (code / 2)) / 2 ≡ code / 2 = omega arith in
    let sign : code_at t (place_of t (code / 2)) % 2 ≡ value_in t (code / 2) = omega arith in
    let same : digit (value_at bits (code_at t (place_of t (code / 2)) / 2)) ≡ digit (value_at bits (code / 2)) = ap (λ v. digit (value_at bits v)) var in
    absurd (omega arith)

pub lost_place : (t : Trail) (code : ℕ) → IsMirror t → IsFalseIn t code → place_of t (code / 2) < t.len
lost_place t code m lost = let small : value_in t (code / 2) < 2 = omega arith in m.placed (code / 2) small

-- one more literal, entry by entry
pub record Points (t t' : Trail) (code reason : ℕ) : Type 0 where
  pub len : t'.len ≡ t.len + 1
  pub code_here : code_at t' t.len ≡ code
  pub code_below : (i : ℕ) → i < t.len → code_at t' i ≡ code_at t i
  pub reason_here : get_or t'.reasons.items t.len 0 ≡ reason
  pub reason_below : (i : ℕ) → i < t.len → get_or t'.reasons.items i 0 ≡ get_or t.reasons.items i 0
  pub room : length t'.values.items ≡ length t.values.items

pub enters_points : (t t' : Trail) (code reason : ℕ) → IsMirror t → IsFreeIn t code → Enters t t' code reason → Points t t' code reason
enters_points t t' code reason m f e =
    let room = mirror_lt t (code / 2) m f.0 f.1 in
    let in_codes : t.len < length t.codes.items = omega (arith, m.codes_room) in
    let in_reasons : t.len < length t.reasons.items = omega (arith, m.reasons_room) in
    record {
      len = e.len;
      code_here = ap (λ xs. get_or xs t.len 0) e.codes ∙ get_or-set_same t.codes.items t.len code 0 in_codes;
      code_below = λ i l. let n : i ≡ t.len → ⊥ = λ e. absurd (omega arith) in ap (λ xs. get_or xs i 0) e.codes ∙ get_or-set_other t.codes.items t.len i code 0 n;
      reason_here = ap (λ xs. get_or xs t.len 0) e.reasons ∙ get_or-set_same t.reasons.items t.len reason 0 in_reasons;
      reason_below = λ i l. let n : i ≡ t.len → ⊥ = λ e. absurd (omega arith) in ap (λ xs. get_or xs i 0) e.reasons ∙ get_or-set_other t.reasons.items t.len i reason 0 n;
      room = e.room;
    }

pub agrees_at : (bits : List Bool) (a b : ℕ) → a ≡ b → Agrees bits a → Agrees bits b
agrees_at bits a b e h = let P : ℕ → Type 0 = λ c. Agrees bits c in subst P e h

-- the models of the decisions below a place also make the literals below it true, one literal later
pub forced_points : (f : Formula) (t t' : Trail) (code reason : ℕ) → IsForced f t → Points t t' code reason → ((bits : List Bool) → AreMetBy f bits → AgreesBelow bits t t.len → (reason ≡ DECISION → ⊥) → Agrees bits code) → IsForced f t'
forced_points f t t' code reason forced p follows = record {
  entails = λ bits model k kl dec j jl.
      let old : (k : ℕ) → k ≤ t.len → AgreesWithDecisions bits t' k → AgreesBelow bits t k =
      λ k l d. forced.entails bits model k l (λ i il is.
      let low : i < t.len = omega arith in
      agrees_at bits (code_at t' i) (code_at t i) (p.code_below i low) (d i il (p.reason_below i low ∙ is))) in
      elim (cases_lt j t.len) [
        | inl low ↦
            elim (cases_lt t.len k) [
              | inl above ↦
                  let l : t.len ≤ t.len = omega arith in
                  let d : AgreesWithDecisions bits t' t.len = λ i il is. let il' : i < k = omega arith in dec i il' is in
                  agrees_at bits (code_at t j) (code_at t' j) (sym (p.code_below j low)) (old t.len l d j low)
              | inr under ↦ agrees_at bits (code_at t j) (code_at t' j) (sym (p.code_below j low)) (old k under dec j jl)
            ]
        | inr high ↦
            let e : j ≡ t.len = omega (arith, p.len) in
            let c : code_at t' j ≡ code = ap (λ i. code_at t' i) e ∙ p.code_here in
            elim (cases_eq reason DECISION) [
              | inl is ↦
                  let d : IsDecision t' j = ap (λ i. get_or t'.reasons.items i 0) e ∙ p.reason_here ∙ is in
                  dec j jl d
              | inr differs ↦
                  let l : t.len ≤ t.len = omega arith in
                  let d : AgreesWithDecisions bits t' t.len = λ i il is. let il' : i < k = omega arith in dec i il' is in
                  agrees_at bits code (code_at t' j) (sym c) (follows bits model (old t.len l d) differs)
            ]
      ];
}

pub forced_cut : (f : Formula) (t t' : Trail) (place : ℕ) → IsForced f t → CutsTo t t' place → place ≤ t.len → IsForced f t'
forced_cut f t t' place forced cuts le = record {
  entails = λ bits model k kl dec j jl.
      let l : k ≤ t.len = omega (arith, cuts.len) in
      let d : AgreesWithDecisions bits t k = λ i il is.
      agrees_at bits (code_at t' i) (code_at t i) (ap (λ xs. get_or xs i 0) cuts.codes) (dec i il (ap (λ xs. get_or xs i 0) cuts.reasons ∙ is)) in
      agrees_at bits (code_at t j) (code_at t' j) (ap (λ xs. get_or xs j 0) (sym cuts.codes)) (forced.entails bits model k l d j jl);
}

pub keeps_refl : (t : Trail) → KeepsDecisions t t
keeps_refl t = record { stood = λ i l is. (l, is); same = λ i l is j jl. refl; room = refl }

pub keeps_trans : (a b c : Trail) → KeepsDecisions a b → KeepsDecisions b c → KeepsDecisions a c
keeps_trans a b c p q = record {
  stood = λ i l is. let s = q.stood i l is in p.stood i s.0 s.1;
  same = λ i l is j jl. let s = q.stood i l is in q.same i l is j jl ∙ p.same i s.0 s.1 j jl;
  room = q.room ∙ p.room;
}

pub keeps_points : (t t' : Trail) (code reason : ℕ) → Points t t' code reason → (reason ≡ DECISION → ⊥) → KeepsDecisions t t'
keeps_points t t' code reason p differs =
    let low : (i : ℕ) → i < t'.len → IsDecision t' i → i < t.len = λ i l is.
    elim (cases_lt i t.len) [
      | inl b ↦ b
      | inr a ↦
          let e : i ≡ t.len = omega (arith, p.len) in
          absurd (differs (sym p.reason_here ∙ ap (λ i. get_or t'.reasons.items i 0) (sym e) ∙ is))
    ] in
    record {
      stood = λ i l is. (low i l is, sym (p.reason_below i (low i l is)) ∙ is);
      same = λ i l is j jl. let b = low i l is in let b' : j < t.len = omega arith in p.code_below j b';
      room = p.room;
    }

pub keeps_cut : (t t' : Trail) (place : ℕ) → CutsTo t t' place → place ≤ t.len → KeepsDecisions t t'
keeps_cut t t' place cuts le = record {
  stood = λ i l is. let b : i < t.len = omega (arith, cuts.len) in (b, ap (λ xs. get_or xs i 0) (sym cuts.reasons) ∙ is);
  same = λ i l is j jl. ap (λ xs. get_or xs j 0) cuts.codes;
  room = cuts.room;
}

pub guided_keeps : (prefers : ℕ → Bool → Type 0) (t t' : Trail) → IsGuided prefers t → KeepsDecisions t t' → IsGuided prefers t'
guided_keeps prefers t t' g k = record {
  preferred = λ i l is.
      let s = k.stood i l is in
      let le : i ≤ i = omega arith in
      let e : code_at t i ≡ code_at t' i = sym (k.same i l is i le) in
      let P : ℕ → Type 0 = λ c. prefers (c / 2) (c % 2 == 1) in
      subst P e (g.preferred i s.0 s.1);
}

-- a clause with false literals alone refutes the trail
pub refuted_clause : (f : Formula) (t : Trail) (codes : List ℕ) → IsMirror t → IsImplied f codes → ((k : ℕ) → k < length codes → IsFalseIn t (get_or codes k 0)) → IsRefuted f t
refuted_clause f t codes m implied lost = record {
  refutes = λ bits model agrees. implied.implies bits model (λ k kl b.
      denied t (get_or codes k 0) bits m (lost k kl) (agrees (place_of t (get_or codes k 0 / 2)) (lost_place t (get_or codes k 0) m (lost k kl))) b);
}

-- a clause whose other literals are false makes the one that is left true
pub unit_follows : (f : Formula) (t : Trail) (codes : List ℕ) (other : ℕ) → IsMirror t → IsImplied f codes → ((k : ℕ) → k < length codes → (get_or codes k 0 ≡ other) ⊎ IsFalseIn t (get_or codes k 0)) → (bits : List Bool) → AreMetBy f bits → AgreesBelow bits t t.len → Agrees bits other
unit_follows f t codes other m implied lost bits model agrees =
    elim (cases_eq (digit (value_at bits (other / 2))) (other % 2)) [
      | inl same ↦ same
      | inr differs ↦ absurd (implied.implies bits model (λ k kl b.
          elim (lost k kl) [
            | inl e ↦ differs (agrees_at bits (get_or codes k 0) other e b)
            | inr h ↦ denied t (get_or codes k 0) bits m h (agrees (place_of t (get_or codes k 0 / 2)) (lost_place t (get_or codes k 0) m h)) b
          ]))
    ]

-- one more literal, at a sound trail
pub sound_points : (f : Formula) (db : List (List ℕ)) (t t' : Trail) (code reason : ℕ) → IsSound f db t → IsTrail t' → Points t t' code reason → ((bits : List Bool) → AreMetBy f bits → AgreesBelow bits t t.len → (reason ≡ DECISION → ⊥) → Agrees bits code) → IsSound f db t'
sound_points f db t t' code reason s trail p follows = record {
  trail = trail;
  forced = forced_points f t t' code reason s.forced p follows;
  implied = s.implied;
}

-- back to a place, at a sound trail
pub sound_cut : (f : Formula) (db : List (List ℕ)) (t t' : Trail) (place : ℕ) → IsSound f db t → IsTrail t' → CutsTo t t' place → place ≤ t.len → IsSound f db t'
sound_cut f db t t' place s trail cuts le = record {
  trail = trail;
  forced = forced_cut f t t' place s.forced cuts le;
  implied = s.implied;
}

-- more variables, at a sound trail
pub forced_widens : (f : Formula) (t t' : Trail) → IsForced f t → Widens t t' → IsForced f t'
forced_widens f t t' forced w = record {
  entails = λ bits model k kl dec j jl.
      let l : k ≤ t.len = omega (arith, w.len) in
      let d : AgreesWithDecisions bits t k = λ i il is. agrees_at bits (code_at t' i) (code_at t i) (w.codes i) (dec i il (w.reasons i ∙ is)) in
      agrees_at bits (code_at t j) (code_at t' j) (sym (w.codes j)) (forced.entails bits model k l d j jl);
}

pub forced_forgets : (f : Formula) (t t' : Trail) → IsForced f t → ForgetsReasons t t' → IsForced f t'
forced_forgets f t t' forced w = record {
  entails = λ bits model k kl dec j jl.
      let l : k ≤ t.len = omega (arith, w.len) in
      let d : AgreesWithDecisions bits t k = λ i il is.
      let il' : i < t.len = omega arith in
      agrees_at bits (code_at t' i) (code_at t i) (ap (λ xs. get_or xs i 0) w.codes) (dec i il (w.kept i il' is)) in
      agrees_at bits (code_at t j) (code_at t' j) (ap (λ xs. get_or xs j 0) (sym w.codes)) (forced.entails bits model k l d j jl);
}

-- the rank of a trail whose literals are the same
pub rank_same : (t t' : Trail) → CutsTo t t' t.len → rank_of t' ≡ rank_of t
rank_same t t' cuts =
    ap (λ n. rank n (take t'.len t'.reasons.items)) cuts.room
    ∙ ap (λ n. rank (length t.values.items) (take n t'.reasons.items)) cuts.len
    ∙ ap (λ xs. rank (length t.values.items) (take t.len xs)) cuts.reasons

-- a trail with no decision keeps those of any trail of its room
pub keeps_none : (t t' : Trail) → ((i : ℕ) → i < t'.len → IsDecision t' i → ⊥) → length t'.values.items ≡ length t.values.items → KeepsDecisions t t'
keeps_none t t' none room = record {
  stood = λ i l is. absurd (none i l is);
  same = λ i l is j jl. absurd (none i l is);
  room = room;
}
