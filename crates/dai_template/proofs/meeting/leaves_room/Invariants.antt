-- the element may stand beside those so far
use Rattle.std.proofs.Common.{ℕ, ◌<◌, ◌+◌, ◌*◌}
use Rattle.std.specs.Prelude.{slice_index}
use Rattle.dai_template.specs.Meeting.{IsBound, IsBeside}
use Rattle.dai_template.proofs.meeting.leaves_room.Given as goal

abbrev pub invariant-loop-other : goal.invariant-loop-other
invariant-loop-other l = (i : ℕ) → i < l.other → IsBound l.bound (record { sort = l.var.0; number = i }) → IsBeside l.ordered l.var.1 l.element i (slice_index l.values (4 * l.var.0 + i))
