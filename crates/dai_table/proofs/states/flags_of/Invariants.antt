use Rattle.std.proofs.Common.{◌≡◌, ◌++◌, Bool, Vec, map, drop}
use Rattle.std.specs.declared.alloc.Global.{Global}
use Rattle.dai_model.specs.Protocol.{Protocol}
use Rattle.dai_table.specs.Flags.{IsFlags, alone}
use Rattle.dai_table.proofs.states.flags_of.Given as goal

-- with the tables to come, these are all
abbrev pub invariant-loop-table : goal.invariant-loop-table
invariant-loop-table l = (P : Protocol) → IsFlags P l.s → map alone l.flags.items ++ map (λ (t : Vec Bool Global). t.items) (drop l.table-index l.table-items) ≡ map (λ (t : Vec Bool Global). t.items) l.table-items
