use Rattle.std.proofs.Common.{◌≡◌, ◌++◌, Bool, Vec, map, drop}
use Rattle.std.specs.List.{flat_map}
use Rattle.std.specs.declared.alloc.Global.{Global}
use Rattle.dai_logic.specs.Tables.{bits_of}
use Rattle.dai_table.specs.Flags.{with_either}
use Rattle.dai_table.proofs.states.with_one_more.Given as goal

-- with those of the lists to come, these are all
abbrev pub invariant-loop-rest : goal.invariant-loop-rest
invariant-loop-rest l = bits_of l.all ++ flat_map with_either (map (λ (v : Vec Bool Global). v.items) (drop l.rest-index l.shorter)) ≡ flat_map with_either (map (λ (v : Vec Bool Global). v.items) l.shorter)
