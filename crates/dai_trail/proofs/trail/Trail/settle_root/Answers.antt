use Rattle.std.proofs.Common.{arith, ◌<◌, length, sym, ◌∙◌}
use Rattle.std.proofs.lemmas.List.{get_or_read}
use Rattle.dai_trail.proofs.Mirrors.{mirror_le}
use Rattle.dai_trail.proofs.trail.Trail.settle_root.Goals as goal

pub index-requires : goal.index-requires
index-requires c =
    let m = c.loop-self.invariant.trail.mirror in
    omega (arith, mirror_le c.loop-self.self m, m.reasons_room)

pub returns-else-index-clause-stop : goal.returns-else-index-clause-stop
returns-else-index-clause-stop c = λ below.
    let m = c.loop-self.invariant.trail.mirror in
    let l : c.loop-self.self.root < length c.loop-self.self.reasons.items = omega (arith, mirror_le c.loop-self.self m, m.reasons_room) in
    sym (get_or_read c.loop-self.self.reasons.items c.loop-self.self.root c.index.result.now l c.index.ensures 0) ∙ c.if-index.false
