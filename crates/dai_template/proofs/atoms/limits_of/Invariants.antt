-- the counts of the types so far
use Rattle.std.proofs.Common.{◌≡◌, map, take}
use Rattle.std.specs.Prelude.{slice_index}
use Rattle.dai_template.proofs.atoms.limits_of.Given as goal

abbrev pub invariant-loop-sort : goal.invariant-loop-sort
invariant-loop-sort l = l.limits.items ≡ map (slice_index l.counts) (take l.sort-index l.sorts)
