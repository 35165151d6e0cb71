use Rattle.std.proofs.Common.{◌-◌, ◌+◌, length, vec_len}
use Rattle.dai_trail.proofs.uses.Uses.glue.Given as goal

abbrev pub decreases-loop-self : goal.decreases-loop-self
decreases-loop-self l = length l.levels + 1 - vec_len l.self.seen
