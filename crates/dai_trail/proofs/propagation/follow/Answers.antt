use Rattle.std.proofs.Common.{refl}
use Rattle.dai_trail.proofs.Forces.{sound_points, enters_points, unit_follows}
use Rattle.dai_trail.proofs.propagation.follow.Goals as goal

pub returns-then-is_free-clause-sound : goal.returns-then-is_free-clause-sound
returns-then-is_free-clause-sound c =
    let m = c.requires.sound.trail.mirror in
    let free = c.if-is_free.ensures.0 refl in
    sound_points c.args.cnf.now c.args.learned.now c.args.trail.now c.assign.new.self c.args.code c.args.name c.requires.sound c.assign.ensures.trail
    (enters_points c.args.trail.now c.assign.new.self c.args.code c.args.name m free c.assign.ensures.enters)
    (λ bits model agrees differs. unit_follows c.args.cnf.now c.args.trail.now c.args.codes.now c.args.code m c.requires.implied c.requires.others bits model agrees)
