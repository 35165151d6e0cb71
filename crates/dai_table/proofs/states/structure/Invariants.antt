use Rattle.std.proofs.Common.{◌≡◌, ◌++◌, map, drop}
use Rattle.dai_logic.specs.Tables.{bits_of}
use Rattle.dai_table.specs.Flags.{alone}
use Rattle.dai_table.proofs.states.structure.Given as goal

-- with those of the flags to come, these are the tables of all
abbrev pub invariant-loop-flag : goal.invariant-loop-flag
invariant-loop-flag l = bits_of l.tables ++ map alone (drop l.flag-index l.flags) ≡ map alone l.flags
