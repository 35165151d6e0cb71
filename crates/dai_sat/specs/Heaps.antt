use Rattle.std.specs.Prelude.{◌<◌, ℕ, List}
use Rattle.std.specs.List.{All}

-- the variables of a heap are below a count
abbrev pub AreHeaped : ℕ → List ℕ → Type 0
AreHeaped count heap = All (λ var. var < count) heap
