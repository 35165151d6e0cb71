-- the types so far have enough elements
use Rattle.std.proofs.Common.{ℕ, ◌<◌, ◌≤◌}
use Rattle.std.specs.Prelude.{slice_index}
use Rattle.dai_template.proofs.meeting.are_enough.Given as goal

abbrev pub invariant-loop-sort : goal.invariant-loop-sort
invariant-loop-sort l = (t : ℕ) → t < l.sort → slice_index l.counts t ≤ slice_index l.sizes t
