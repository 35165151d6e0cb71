use Rattle.std.proofs.Common.{◌≡◌, Bool, map, take, Vec}
use Rattle.std.specs.declared.alloc.Global.{Global}
use Rattle.dai_logic.proofs.copying.copy_tables.Given as goal

-- the tables so far are those of the structure
abbrev pub invariant-loop-table : goal.invariant-loop-table
invariant-loop-table l = map (λ (t : Vec Bool Global). t.items) l.copied.items ≡ take l.table-index (map (λ (t : Vec Bool Global). t.items) l.tables.items)
