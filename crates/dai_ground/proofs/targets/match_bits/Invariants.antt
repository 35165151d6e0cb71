use Rattle.std.proofs.Common.{◌≡◌, take, map}
use Rattle.dai_logic.specs.Trees.{term_of}
use Rattle.dai_ground.specs.Updating.{match_bits}
use Rattle.dai_ground.proofs.targets.match_bits.Given as goal

abbrev pub invariant-loop-place : goal.invariant-loop-place
invariant-loop-place l = l.bits.items ≡ match_bits l.scene.frame.now l.scene.picture.now (take l.place (map term_of l.update.target.now)) (take l.place l.tuple)
