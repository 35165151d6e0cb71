use Rattle.std.proofs.Common.{◌≡◌, ◌++◌, map, take}
use Rattle.std.specs.List.{flat_map, zip}
use Rattle.dai_logic.specs.Parts.{sort_of}
use Rattle.dai_print.specs.Counts.{bound_line}
use Rattle.dai_print.proofs.counts.add_bounds.Given as goal

-- the lines so far
abbrev pub invariant-loop-place : goal.invariant-loop-place
invariant-loop-place l = l.text.items ≡ l.fn.text.items ++ flat_map bound_line (take l.place (zip (map sort_of l.sorts) l.bounds))
