-- Lists of small numbers of one length are ordered as the numbers that they write in base 256.
use Rattle.std.proofs.Common.{◌≡◌, ◌<◌, ◌≤◌, ◌+◌, ◌*◌, ◌^◌, ℕ, suc, List, [], ◌∷◌, length, ◌∙◌, ap, refl, arith}
use Rattle.std.specs.Ordering.{nat_cmp, ordering_then, MatchOrdering}
use Rattle.std.specs.Cmp.Lexicographic.{slice_cmp}
use Rattle.std.specs.declared.cmp.Ordering.{Ordering}
use Rattle.std.specs.declared.cmp.Ordering.TheVariants.{Less, Equal, Greater}
use Rattle.std.proofs.lemmas.Cmp.{ranked}
use Rattle.std.proofs.Math.Nat.{mul-le-mul, pow-suc}
use Rattle.dai_model.proofs.Below.{Each}

abbrev pub written : List ℕ → ℕ
written [] = 0
written (x ∷ xs) = x * 256 ^ length xs + written xs

written_below : (xs : List ℕ) → Each (λ x. x < 256) xs → written xs < 256 ^ length xs
written_below [] h = omega arith
written_below (x ∷ xs) h =
    let rest = written_below xs h.1 in
    let e : 256 ^ suc (length xs) ≡ 256 ^ length xs * 256 = pow-suc 256 (length xs) in
    let here : x + 1 ≤ 256 = let k = h.0 in omega (arith, k) in
    let most : (x + 1) * 256 ^ length xs ≤ 256 * 256 ^ length xs = mul-le-mul here (let same : 256 ^ length xs ≤ 256 ^ length xs = omega arith in same) in
    omega (arith, rest, e, most)

pub less_written : (xs ys : List ℕ) → length xs ≡ length ys → Each (λ x. x < 256) xs → Each (λ y. y < 256) ys → slice_cmp nat_cmp xs ys ≡ Less → written xs < written ys
less_written [] [] long h k less = absurd (let bottom : ⊥ = cc in bottom)
less_written [] (y ∷ ys) long h k less = absurd (omega arith)
less_written (x ∷ xs) [] long h k less = absurd (omega arith)
less_written (x ∷ xs) (y ∷ ys) long h k less =
    by_first (nat_cmp x y) (ranked x y (nat_cmp x y) refl) less (λ rest. less_written xs ys (omega (arith, long)) h.1 k.1 rest)
  where
    by_first : (o : Ordering) → MatchOrdering o (x < y) (x ≡ y) (y < x) → ordering_then o (slice_cmp nat_cmp xs ys) ≡ Less → (slice_cmp nat_cmp xs ys ≡ Less → written xs < written ys) → x * 256 ^ length xs + written xs < y * 256 ^ length ys + written ys
    by_first Less below e rest =
        let before : x < y = below in
        let few = written_below xs h.1 in
        let same : 256 ^ length ys ≡ 256 ^ length xs = ap (λ n. 256 ^ n) (let l : length ys ≡ length xs = omega (arith, long) in l) in
        let up : (x + 1) * 256 ^ length xs ≤ y * 256 ^ length xs = mul-le-mul (let step : x + 1 ≤ y = omega (arith, before) in step) (let one : 256 ^ length xs ≤ 256 ^ length xs = omega arith in one) in
        let there : y * 256 ^ length ys ≡ y * 256 ^ length xs = ap (λ n. y * n) same in
        omega (arith, few, up, there)
    by_first Equal tied e rest =
        let same : x ≡ y = tied in
        let later = rest e in
        let here : x * 256 ^ length xs ≡ y * 256 ^ length ys = ap (λ n. n * 256 ^ length xs) same ∙ ap (λ n. y * 256 ^ n) (let l : length xs ≡ length ys = omega (arith, long) in l) in
        omega (arith, later, here)
    by_first Greater above e rest = absurd (let bottom : ⊥ = cc in bottom)
