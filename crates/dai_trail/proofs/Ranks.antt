use Rattle.std.proofs.Common.{◌≡◌, ◌<◌, ◌≤◌, ◌^◌, ℕ, zero, suc, Bool, true, false, cond, eqb, List, [], ◌∷◌, ◌++◌, length, get_or, take, arith, eq-eqb, inl, inr}
use Rattle.std.proofs.lemmas.Bool.Decides.{eqb_tells}
use Rattle.std.proofs.Math.Nat.{pow-suc}
use Rattle.dai_trail.specs.declared.trail.TheConstants.{DECISION}
use Rattle.dai_trail.specs.Rank.{rank}

pow_pos : (k : ℕ) → 0 < 3 ^ k
pow_pos zero = omega arith
pow_pos (suc k) = let h = pow_pos k in omega (arith, pow-suc 3 k)

cond_le : (b : Bool) (w : ℕ) → cond b w 0 ≤ w
cond_le true w = omega arith
cond_le false w = omega arith

-- a rank is above 0
pub rank_pos : (room : ℕ) (rs : List ℕ) → length rs ≤ room → 0 < rank room rs
rank_pos room [] h = pow_pos room
rank_pos zero (r ∷ rs) h = absurd (omega arith)
rank_pos (suc room) (r ∷ rs) h =
    let here : length rs ≤ room = omega arith in
    let rest = rank_pos room rs here in omega arith

-- a rank is at most that of the empty trail
pub rank_le : (room : ℕ) (rs : List ℕ) → length rs ≤ room → rank room rs ≤ 3 ^ room
rank_le room [] h = omega arith
rank_le zero (r ∷ rs) h = absurd (omega arith)
rank_le (suc room) (r ∷ rs) h =
    let here : length rs ≤ room = omega arith in
    let rest = rank_le room rs here in
    let first = cond_le (eqb r DECISION) (3 ^ room) in
    omega (arith, pow-suc 3 room)

-- it falls where a literal is added
pub rank_push : (room : ℕ) (rs : List ℕ) (r : ℕ) → length rs < room → rank room (rs ++ r ∷ []) < rank room rs
rank_push zero rs r h = absurd (omega arith)
rank_push (suc room) [] r h =
    let first = cond_le (eqb r DECISION) (3 ^ room) in
    let p = pow_pos room in
    omega (arith, pow-suc 3 room)
rank_push (suc room) (x ∷ xs) r h =
    let here : length xs < room = omega arith in
    let rest = rank_push room xs r here in omega arith

-- it falls where the trail goes back to a decision and follows with another literal
pub rank_turn : (room : ℕ) (rs : List ℕ) (k r : ℕ) → length rs ≤ room → k < length rs → get_or rs k 0 ≡ DECISION → (r ≡ DECISION → ⊥) → rank room (take k rs ++ r ∷ []) < rank room rs
rank_turn room [] k r h l d n = absurd (omega arith)
rank_turn zero (x ∷ xs) k r h l d n = absurd (omega arith)
rank_turn (suc room) (x ∷ xs) zero r h l d n =
    let here : length xs ≤ room = omega arith in
    let p = rank_pos room xs here in
    let no : eqb r DECISION ≡ false = elim (eqb_tells r DECISION) [ inl e ↦ absurd (n e.1) | inr e ↦ e.0 ] in
    let yes : eqb x DECISION ≡ true = eq-eqb x DECISION d in
    rw (no, yes) (omega arith)
rank_turn (suc room) (x ∷ xs) (suc k) r h l d n =
    let here : length xs ≤ room = omega arith in
    let low : k < length xs = omega arith in
    let rest = rank_turn room xs k r here low d n in omega arith
