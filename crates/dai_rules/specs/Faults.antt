-- The faults of a file, and the one that is told: that of the least place, and at one place of the least number.
use Rattle.std.specs.Prelude.{◌≡◌, ℕ, ◌<◌, ◌≤◌, ◌⊎◌, List}
use Rattle.std.specs.List.{Contains}
use Rattle.dai_syntax.specs.Tree.{Declaration}
use Rattle.dai_rules.specs.declared.first.Fault.{Fault}
use Rattle.dai_rules.specs.Sites.{Site, sites_of}
use Rattle.dai_rules.specs.Rules.{Breaks}

pub record IsSortFault (ds : List Declaration) (number at : ℕ) : Type 0 where
  pub site : Site
  pub stands : Contains (sites_of ds) site
  pub breaks : Breaks site number at

-- no later than another place, or at the same one with no greater number
abbrev pub ComesFirst : ℕ → ℕ → ℕ → ℕ → Type 0
ComesFirst number at other place = (at < place) ⊎ ((at ≡ place) × (number ≤ other))

pub record IsFirstSortFault (ds : List Declaration) (number at : ℕ) : Type 0 where
  pub fault : IsSortFault ds number at
  pub first : (other place : ℕ) → IsSortFault ds other place → ComesFirst number at other place

-- no rule is broken
abbrev pub IsFaultless : List Declaration → Type 0
IsFaultless ds = (number at : ℕ) → IsSortFault ds number at → ⊥

-- the fault that is told is the first one
abbrev pub IsTold : List Declaration → Fault → Type 0
IsTold ds f = IsFirstSortFault ds f.number f.at
