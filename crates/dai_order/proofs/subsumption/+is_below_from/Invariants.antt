-- no way to go on with one of the numbers so far takes the literals to others
use Rattle.std.proofs.Common.{◌<◌, ◌+◌, ◌*◌, ◌-◌, ℕ, length, get_or, false}
use Rattle.std.specs.Prelude.{slice_set}
use Rattle.dai_model.specs.Protocol.{Protocol}
use Rattle.dai_template.specs.Meeting.{IsBegun, MayStand}
use Rattle.dai_order.specs.Sides.{AreSides, IsNoneFrom}
use Rattle.dai_order.proofs.subsumption.+is_below_from.Given as goal

abbrev pub decreases-is_below_from : goal.decreases-is_below_from
decreases-is_below_from l = (length l.left.now.counts.items - l.sort) * 8 + (8 - l.number)

abbrev pub invariant-loop-new : goal.invariant-loop-new
invariant-loop-new l = (P : Protocol) → AreSides P l.ordered l.left l.literals l.right l.others → IsBegun P l.right.counts.items l.left.counts.items l.sort l.number l.to → (n : ℕ) → n < l.new → MayStand (get_or l.ordered l.sort false) l.sort l.number n l.to → IsNoneFrom P l.left l.literals l.right l.others l.sort (l.number + 1) (slice_set l.to (4 * l.sort + l.number) n)
