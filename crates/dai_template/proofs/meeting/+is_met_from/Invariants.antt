-- each element so far that may stand for the variable is met
use Rattle.std.proofs.Common.{◌≡◌, ◌<◌, ◌+◌, ◌*◌, ◌-◌, ℕ, true, false, length, map, get_or, drop}
use Rattle.std.specs.Prelude.{slice_set}
use Rattle.dai_model.specs.Protocol.{Protocol}
use Rattle.dai_template.specs.Atoms.{atom_of}
use Rattle.dai_template.specs.Meeting.{IsJudged, IsPartial, IsMetFrom, LeavesRoom}
use Rattle.dai_template.proofs.Partial.{open_count}
use Rattle.dai_template.proofs.meeting.+is_met_from.Given as goal

abbrev pub decreases-is_met_from : goal.decreases-is_met_from
decreases-is_met_from l = (length l.literals.now - l.at) + open_count l.bound.now

abbrev pub invariant-loop-element : goal.invariant-loop-element
invariant-loop-element l = record {
  bound : l.bound ≡ l.initial.bound;
  values : l.values ≡ l.initial.values;
  met : (P : Protocol) → IsJudged P l.ordered l.shape.counts.items (map atom_of l.shape.atoms.items) l.literals l.s → IsPartial P l.s.sizes.items l.shape.counts.items l.initial.bound l.initial.values → (e : ℕ) → e < l.element → LeavesRoom (get_or l.ordered l.var.0 false) (get_or l.shape.counts.items l.var.0 0) (get_or l.s.sizes.items l.var.0 0) l.var.0 l.var.1 e l.initial.bound l.initial.values → IsMetFrom P l.shape.counts.items (map atom_of l.shape.atoms.items) (drop l.at l.literals) l.s (slice_set l.initial.bound (4 * l.var.0 + l.var.1) true) (slice_set l.initial.values (4 * l.var.0 + l.var.1) e);
}
