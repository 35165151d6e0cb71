use Rattle.std.proofs.Common.{arith, ◌/◌, refl}
use Rattle.std.proofs.lemmas.Grind.{common_steps}
use Rattle.dai_trail.proofs.Mirrors.{mirror_lt, assign_trail, assign_falls}
use Rattle.dai_trail.proofs.trail.Trail.assign.Goals as goal

pub index_mut-requires-3 : goal.index_mut-requires-3
index_mut-requires-3 c = omega (arith, mirror_lt c.args.self.now (c.args.code / 2) c.requires.trail.mirror c.requires.free.0 c.requires.free.1, c.requires.trail.mirror.codes_room)

pub index_mut-requires-4 : goal.index_mut-requires-4
index_mut-requires-4 c = omega (arith, mirror_lt c.args.self.now (c.args.code / 2) c.requires.trail.mirror c.requires.free.0 c.requires.free.1, c.requires.trail.mirror.reasons_room)

pub overflow_add-self : goal.overflow_add-self
overflow_add-self c =
    let low = mirror_lt c.args.self.now (c.args.code / 2) c.requires.trail.mirror c.requires.free.0 c.requires.free.1 in
    grind (arith, common_steps)

pub returns-clause-trail : goal.returns-clause-trail
returns-clause-trail c = assign_trail c.args.self.now _ c.args.code c.args.reason c.requires.trail c.requires.free refl refl refl refl refl refl refl

pub returns-clause-falls : goal.returns-clause-falls
returns-clause-falls c = assign_falls c.args.self.now c.args.code c.args.reason c.requires.trail c.requires.free
