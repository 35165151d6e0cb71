-- What the refusal of a file says.
use Rattle.std.specs.Prelude.{List}
use Rattle.dai_syntax.specs.Tree.{Declaration}
use Rattle.dai_rules.specs.Faults.{IsFirstSortFault}
use Rattle.dai_sorts.specs.declared.error.SortError.{SortError}
use Rattle.dai_sorts.specs.declared.error.SortError.TheVariants.{Bad, Spent}

-- a refusal names the first fault, and want of memory says nothing
abbrev pub IsTrueFault : List Declaration → SortError → Type 0
IsTrueFault ds (Bad number at) = IsFirstSortFault ds number at
IsTrueFault ds Spent = Unit {0}
