-- Lists beside their numbers.
use Rattle.std.proofs.Common.{ℕ, ◌+◌, List, [], ◌∷◌}
use Rattle.std.specs.List.{AllByRecursion, enumerate_from}

pub good_numbered : {X : Type 0} (Good : X → Type 0) (n : ℕ) (xs : List X) → AllByRecursion Good xs → AllByRecursion (λ (p : ℕ × X). Good p.1) (enumerate_from n xs)
good_numbered Good n [] good = tt
good_numbered Good n (x ∷ xs) good = (good.0, good_numbered Good (n + 1) xs good.1)
