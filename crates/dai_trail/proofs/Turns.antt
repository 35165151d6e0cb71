use Rattle.std.proofs.Common.{◌≡◌, ◌<◌, ◌≤◌, ◌+◌, ◌/◌, ◌%◌, ◌-◌, ℕ, Bool, List, [], ◌∷◌, ◌++◌, length, get_or, take, drop, set, ap, sym, ◌∙◌, subst, arith, inl, inr}
use Rattle.std.proofs.lemmas.Bool.{cases_eq, cases_lt}
use Rattle.std.proofs.lemmas.List.{get_or_append_left, get_or_push, length_push, get_or-drop, get_or-take, length-drop, length-take-le, take_more_set, take-take}
use Rattle.dai_trail.specs.declared.trail.Trail.{Trail}
use Rattle.dai_trail.specs.declared.trail.TheConstants.{DECISION}
use Rattle.dai_trail.specs.Formula.{Formula, AreMetBy, IsContradiction, value_at}
use Rattle.dai_trail.specs.Codes.{digit, Agrees, AreDenied}
use Rattle.dai_trail.specs.Trail.{value_in, code_at, place_of, IsDecision, IsFalseIn, IsFreeIn, IsMirror, Enters, CutsTo, AgreesBelow, IsForced, AreImplied, KeepsDecisions, IsRefuted, rank_of}
use Rattle.dai_trail.specs.Marks.{IsImplied, IsUnitAt}
use Rattle.dai_trail.proofs.Ranks.{rank_turn}
use Rattle.dai_trail.proofs.Mirrors.{mirror_le, in_range}
use Rattle.dai_trail.proofs.Forces.{denied, lost_place, agrees_at, enters_points, forced_points, forced_cut, keeps_trans, keeps_points, keeps_cut}
use Rattle.dai_trail.proofs.Encodings.{digit_lt}

-- a variable whose literal stood from the place on is free after the cut
pub freed_by_cut : (t t' : Trail) (place code : ℕ) → IsMirror t' → CutsTo t t' place → value_in t (code / 2) < 2 → place ≤ place_of t (code / 2) → IsFreeIn t' code
freed_by_cut t t' place code m cuts small high =
    let n = in_range t (code / 2) small in (
      omega (arith, cuts.room),
      elim (cases_lt (value_in t' (code / 2)) 2) [
        | inl l ↦
            let p = m.placed (code / 2) l in
            let e : place_of t' (code / 2) ≡ place_of t (code / 2) = ap (λ xs. get_or xs (code / 2) 0) cuts.places in
            absurd (omega (arith, cuts.len))
        | inr h ↦ h
      ],
    )

-- a literal that was false by one below the place stays false
pub lost_after_cut : (t t' : Trail) (place code : ℕ) → IsMirror t → IsMirror t' → CutsTo t t' place → IsFalseIn t code → place_of t (code / 2) < place → IsFalseIn t' code
lost_after_cut t t' place code m m' cuts lost low =
    let small : value_in t (code / 2) < 2 = omega arith in
    let n = m.named (code / 2) small in
    let p = place_of t (code / 2) in
    let l : place_of t (code / 2) < t'.len = omega (arith, cuts.len) in
    let h = m'.holding (place_of t (code / 2)) l in
    let c : code_at t' (place_of t (code / 2)) ≡ code_at t (place_of t (code / 2)) = ap (λ xs. get_or xs (place_of t (code / 2)) 0) cuts.codes in
    let var : code_at t' (place_of t (code / 2)) / 2 ≡ code / 2 = omega arith in
    let sign : code_at t' (place_of t (code / 2)) % 2 ≡ value_in t (code / 2) = omega arith in
    let v : value_in t' (code_at t' (place_of t (code / 2)) / 2) ≡ value_in t' (code / 2) = ap (λ u. value_in t' u) var in
    omega arith

-- a decision that becomes a literal which follows makes the rank fall
pub turn_falls : (t t' t'' : Trail) (place code reason : ℕ) → IsMirror t → place < t.len → IsDecision t place → CutsTo t t' place → Enters t' t'' code reason → (reason ≡ DECISION → ⊥) → rank_of t'' < rank_of t
turn_falls t t' t'' place code reason m l d cuts e differs =
    let le = mirror_le t m in
    let short : t.len ≤ length t.reasons.items = omega (arith, m.reasons_room) in
    let len : length (take t.len t.reasons.items) ≡ t.len = length-take-le t.len t.reasons.items short in
    let room : length t''.values.items ≡ length t.values.items = e.room ∙ cuts.room in
    let low : place < length t.reasons.items = omega arith in
    let k : place ≤ t.len = omega arith in
    let r : t''.reasons.items ≡ set t.reasons.items place reason = e.reasons ∙ ap (λ xs. set xs t'.len reason) cuts.reasons ∙ ap (λ n. set t.reasons.items n reason) cuts.len in
    let n : t''.len ≡ place + 1 = omega (arith, e.len, cuts.len) in
    let same : take t''.len t''.reasons.items ≡ take place (take t.len t.reasons.items) ++ reason ∷ [] =
    ap (λ n. take n t''.reasons.items) n ∙ ap (λ xs. take (place + 1) xs) r ∙ take_more_set t.reasons.items place reason low
    ∙ ap (λ xs. xs ++ reason ∷ []) (sym (take-take place t.len t.reasons.items k)) in
    let at : get_or (take t.len t.reasons.items) place 0 ≡ DECISION = get_or-take t.len t.reasons.items place 0 l ∙ d in
    let fits : length (take t.len t.reasons.items) ≤ length t.values.items = omega arith in
    let in' : place < length (take t.len t.reasons.items) = omega arith in
    let fall = rank_turn (length t.values.items) (take t.len t.reasons.items) place reason fits in' at differs in
    rw (same, room) fall

pub turn_keeps : (t t' t'' : Trail) (place code reason : ℕ) → IsMirror t' → IsFreeIn t' code → place < t.len → CutsTo t t' place → Enters t' t'' code reason → (reason ≡ DECISION → ⊥) → KeepsDecisions t t''
turn_keeps t t' t'' place code reason m f l cuts e differs =
    let le : place ≤ t.len = omega arith in
    keeps_trans t t' t'' (keeps_cut t t' place cuts le) (keeps_points t' t'' code reason (enters_points t' t'' code reason m f e) differs)

-- one more clause
pub implied_push : (f : Formula) (db : List (List ℕ)) (codes : List ℕ) → AreImplied f db → IsImplied f codes → AreImplied f (db ++ codes ∷ [])
implied_push f db codes a b = record {
  implies = λ bits model k kl deny.
      let len = length_push db codes in
      elim (cases_lt k (length db)) [
        | inl low ↦
            let P : List ℕ → Type 0 = λ xs. AreDenied bits xs in
            a.implies bits model k low (subst P (get_or_append_left db (codes ∷ []) [] k low) deny)
        | inr high ↦
            let at : length db ≡ k = omega arith in
            let P : List ℕ → Type 0 = λ xs. AreDenied bits xs in
            b.implies bits model (subst P (get_or_push db codes [] k at) deny)
      ];
}

-- the first literal of a learned clause follows after the cut
pub unit_at_follows : (f : Formula) (t t' : Trail) (codes : List ℕ) (place : ℕ) → IsMirror t → IsMirror t' → CutsTo t t' place → IsImplied f codes → IsUnitAt t codes place → (bits : List Bool) → AreMetBy f bits → AgreesBelow bits t' t'.len → Agrees bits (get_or codes 0 0)
unit_at_follows f t t' codes place m m' cuts implied unit bits model agree =
    elim (cases_eq (digit (value_at bits (get_or codes 0 0 / 2))) (get_or codes 0 0 % 2)) [
      | inl same ↦ same
      | inr differs ↦ absurd (implied.implies bits model (λ k kl b.
          elim (cases_eq k 0) [
            | inl e ↦ differs (agrees_at bits (get_or codes k 0) (get_or codes 0 0) (ap (λ i. get_or codes i 0) e) b)
            | inr n ↦
                let len = length-drop 1 codes in
                let i : k - 1 < length (drop 1 codes) = omega arith in
                let back : 1 + (k - 1) ≡ k = omega arith in
                let e : get_or (drop 1 codes) (k - 1) 0 ≡ get_or codes k 0 = get_or-drop 1 codes (k - 1) 0 ∙ ap (λ i. get_or codes i 0) back in
                let low : place_of t (get_or codes k 0 / 2) < place = let P : ℕ → Type 0 = λ q. place_of t (q / 2) < place in subst P e (unit.others.below (k - 1) i) in
                let lost : IsFalseIn t (get_or codes k 0) = let P : ℕ → Type 0 = λ q. IsFalseIn t q in subst P e (unit.others.lost (k - 1) i) in
                let lost' = lost_after_cut t t' place (get_or codes k 0) m m' cuts lost low in
                denied t' (get_or codes k 0) bits m' lost' (agree (place_of t' (get_or codes k 0 / 2)) (lost_place t' (get_or codes k 0) m' lost')) b
          ]))
    ]

-- where no model makes all literals true, the last decision turns round
pub flip_follows : (f : Formula) (t t' : Trail) (place neg : ℕ) → IsForced f t → IsRefuted f t → place < t.len → CutsTo t t' place → neg / 2 ≡ code_at t place / 2 → neg % 2 + code_at t place % 2 ≡ 1 → ((i : ℕ) → place < i → i < t.len → IsDecision t i → ⊥) → (bits : List Bool) → AreMetBy f bits → AgreesBelow bits t' t'.len → Agrees bits neg
flip_follows f t t' place neg forced refuted l cuts var sign none bits model agree =
    elim (cases_eq (digit (value_at bits (neg / 2))) (neg % 2)) [
      | inl same ↦ same
      | inr differs ↦
          let small = digit_lt (value_at bits (neg / 2)) in
          let bit : digit (value_at bits (neg / 2)) ≡ digit (value_at bits (code_at t place / 2)) = ap (λ v. digit (value_at bits v)) var in
          let here : Agrees bits (code_at t place) = omega arith in
          let le : t.len ≤ t.len = omega arith in
          absurd (refuted.refutes bits model (forced.entails bits model t.len le (λ i il is.
          elim (cases_lt i place) [
            | inl low ↦
                let low' : i < t'.len = omega (arith, cuts.len) in
                agrees_at bits (code_at t' i) (code_at t i) (ap (λ xs. get_or xs i 0) cuts.codes) (agree i low')
            | inr high ↦ elim (cases_eq i place) [
              | inl e ↦ agrees_at bits (code_at t place) (code_at t i) (ap (λ i. code_at t i) (sym e)) here
              | inr n ↦ let above : place < i = omega arith in absurd (none i above il is)
            ]
          ])))
    ]

-- with no decision a refuted trail leaves no model
pub none_contradiction : (f : Formula) (t : Trail) → IsForced f t → IsRefuted f t → ((i : ℕ) → i < t.len → IsDecision t i → ⊥) → IsContradiction f
none_contradiction f t forced refuted none = λ bits model.
    let le : t.len ≤ t.len = omega arith in
    refuted.refutes bits model (forced.entails bits model t.len le (λ i il is. absurd (none i il is)))

-- the variable of the decision is free after the cut
pub flip_freed : (t t' : Trail) (place code neg : ℕ) → IsMirror t → place < t.len → IsMirror t' → CutsTo t t' place → code ≡ code_at t place → neg / 2 ≡ code / 2 → IsFreeIn t' neg
flip_freed t t' place code neg m l m' cuts here var =
    let h = m.holding place l in
    let small : value_in t (code_at t place / 2) < 2 = omega arith in
    let at = m.entered place l in
    let high : place ≤ place_of t (code_at t place / 2) = omega arith in
    let f = freed_by_cut t t' place (code_at t place) m' cuts small high in
    let same : code_at t place / 2 ≡ neg / 2 = sym (var ∙ ap (λ x. x / 2) here) in
    let P : ℕ → Type 0 = λ v. (v < length t'.values.items) × (2 ≤ value_in t' v) in
    subst P same f

pub flip_forced : (f : Formula) (t t' t'' : Trail) (place code neg reason : ℕ) → IsMirror t → IsForced f t → IsRefuted f t → place < t.len → IsMirror t' → CutsTo t t' place → Enters t' t'' neg reason → code ≡ code_at t place → neg / 2 ≡ code / 2 → neg % 2 + code % 2 ≡ 1 → ((i : ℕ) → place < i → i < t.len → IsDecision t i → ⊥) → IsForced f t''
flip_forced f t t' t'' place code neg reason m forced refuted l m' cuts e here var sign none =
    let le : place ≤ t.len = omega arith in
    let free = flip_freed t t' place code neg m l m' cuts here var in
    let var' : neg / 2 ≡ code_at t place / 2 = var ∙ ap (λ x. x / 2) here in
    let sign' : neg % 2 + code_at t place % 2 ≡ 1 = ap (λ x. neg % 2 + x % 2) (sym here) ∙ sign in
    forced_points f t' t'' neg reason (forced_cut f t t' place forced cuts le) (enters_points t' t'' neg reason m' free e)
    (λ bits model agree differs. flip_follows f t t' place neg forced refuted l cuts var' sign' none bits model agree)
