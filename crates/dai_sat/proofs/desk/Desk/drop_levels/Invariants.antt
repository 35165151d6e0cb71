use Rattle.std.proofs.Common.{◌≡◌, vec_len}
use Rattle.dai_sat.proofs.desk.Desk.drop_levels.Given as goal

abbrev pub invariant-loop-last : goal.invariant-loop-last
invariant-loop-last l = l.self.marks ≡ l.initial.self.marks

abbrev pub decreases-loop-last : goal.decreases-loop-last
decreases-loop-last l = vec_len l.self.levels
