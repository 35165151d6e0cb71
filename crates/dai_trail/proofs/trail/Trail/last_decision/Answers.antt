use Rattle.std.proofs.Common.{arith, ◌<◌, ◌≤◌, ◌-◌, length, sym, ◌∙◌}
use Rattle.std.proofs.lemmas.List.{get_or_read}
use Rattle.dai_trail.proofs.Mirrors.{mirror_le}
use Rattle.dai_trail.proofs.trail.Trail.last_decision.Goals as goal

pub index-requires : goal.index-requires
index-requires c = omega (arith, mirror_le c.args.self.now c.requires.mirror, c.requires.mirror.reasons_room, c.loop-place.invariant.within)

pub returns-then-index : goal.returns-then-index
returns-then-index c =
    let l : c.loop-place.place - 1 < length c.args.self.now.reasons.items = omega (arith, mirror_le c.args.self.now c.requires.mirror, c.requires.mirror.reasons_room, c.loop-place.invariant.within, c.loop-place-test.true) in
    let r = get_or_read c.args.self.now.reasons.items (c.loop-place.place - 1) c.index.result.now l c.index.ensures 0 in
    record { found = (omega arith, sym r ∙ c.if-index.true, λ i a b. let a' : c.loop-place.place ≤ i = omega arith in c.loop-place.invariant.none i a' b) }
