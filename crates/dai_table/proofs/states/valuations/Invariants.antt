use Rattle.std.proofs.Common.{◌≡◌}
use Rattle.dai_logic.specs.Tables.{bits_of}
use Rattle.dai_table.specs.Flags.{valuations}
use Rattle.dai_table.proofs.states.valuations.Given as goal

abbrev pub invariant-loop-flag : goal.invariant-loop-flag
invariant-loop-flag l = bits_of l.all ≡ valuations l._flag
