use Rattle.std.proofs.Common.{◌≡◌, drop}
use Rattle.std.specs.List.{list_any}
use Rattle.dai_table.specs.Flags.{holds_in}
use Rattle.dai_table.proofs.states.is_met.Given as goal

-- no literal so far is true
abbrev pub invariant-loop-literal : goal.invariant-loop-literal
invariant-loop-literal l = list_any (holds_in l.flags) (drop l.literal-index l.literal-items) ≡ list_any (holds_in l.flags) l.literal-items
