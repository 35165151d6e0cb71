-- no renaming with one of the new numbers so far gives literals that come before
use Rattle.std.proofs.Common.{◌<◌, ◌+◌, ◌*◌, ◌-◌, ℕ, length, map, get_or, false}
use Rattle.std.specs.Prelude.{slice_set}
use Rattle.dai_model.specs.Protocol.{Protocol}
use Rattle.dai_template.specs.Atoms.{atom_of}
use Rattle.dai_template.specs.Meeting.{IsBegun, MayStand}
use Rattle.dai_template.specs.Renamings.{IsShapeOf, AreLiterals, IsLeastFrom}
use Rattle.dai_template.proofs.canonical.+smaller_from.Given as goal

abbrev pub decreases-smaller_from : goal.decreases-smaller_from
decreases-smaller_from l = (length l.shape.now.counts.items - l.sort) * 8 + (8 - l.number)

abbrev pub invariant-loop-new : goal.invariant-loop-new
invariant-loop-new l = (P : Protocol) → IsShapeOf P l.ordered l.shape.counts.items (map atom_of l.shape.atoms.items) → AreLiterals P l.shape.counts.items l.literals → IsBegun P l.shape.counts.items l.shape.counts.items l.sort l.number l.to → (n : ℕ) → n < l.new → MayStand (get_or l.ordered l.sort false) l.sort l.number n l.to → IsLeastFrom P l.shape.counts.items l.literals l.sort (l.number + 1) (slice_set l.to (4 * l.sort + l.number) n)
