use Rattle.std.proofs.Common.{arith, ◌≡◌, ◌<◌, ◌+◌, length}
use Rattle.std.proofs.lemmas.Grind.{common_steps}
use Rattle.dai_trail.proofs.Mirrors.{mirror_le}
use Rattle.dai_trail.proofs.propagation.propagate.Goals as goal

pub index-code-requires : goal.index-code-requires
index-code-requires c =
    let m = c.loop-trail.invariant.sound.trail.mirror in
    omega (arith, mirror_le c.loop-trail.trail m, m.codes_room)

pub overflow_add-trail : goal.overflow_add-trail
overflow_add-trail c =
    let m = c.loop-trail.invariant.sound.trail.mirror in
    let low : c.loop-trail.trail.head < length c.loop-trail.trail.codes.items = omega (arith, mirror_le c.loop-trail.trail m, m.codes_room) in
    grind (arith, common_steps)

pub loop-trail-smaller : goal.loop-trail-smaller
loop-trail-smaller c =
    let low : c.loop-trail.trail.head < length c.args.trail.now.values.items = omega (arith, mirror_le c.loop-trail.trail c.loop-trail.invariant.sound.trail.mirror, c.loop-trail.invariant.kept.room) in
    let e : c.look_at_all.new.trail.head ≡ c.loop-trail.trail.head + 1 = c.in_ok-found.ensures.head in
    omega arith
