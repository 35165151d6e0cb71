-- The variables that are spoken of are among those that there are.
use Rattle.std.specs.Prelude.{ℕ, ◌<◌, List}
use Rattle.std.specs.List.{All}
use Rattle.dai_rules.specs.Types.{Use, typed, linked}
use Rattle.dai_rules.specs.Sites.{Ordering}

abbrev pub IsUseWithin : ℕ → Use → Type 0
IsUseWithin count (typed v t) = v < count
IsUseWithin count (linked v w) = (v < count) × (w < count)

abbrev pub AreUsesWithin : ℕ → List Use → Type 0
AreUsesWithin count uses = All (IsUseWithin count) uses

abbrev pub AreOrderingsWithin : ℕ → List Ordering → Type 0
AreOrderingsWithin count orderings = All (λ (o : Ordering). o.variable < count) orderings
