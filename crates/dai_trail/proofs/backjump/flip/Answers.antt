use Rattle.std.proofs.Common.{arith, ◌<◌, length}
use Rattle.std.proofs.lemmas.List.{get_or_read}
use Rattle.dai_trail.specs.declared.trail.TheConstants.{FLIPPED}
use Rattle.dai_trail.proofs.Mirrors.{mirror_le}
use Rattle.dai_trail.proofs.Turns.{flip_freed, flip_forced, turn_falls}
use Rattle.dai_trail.proofs.backjump.flip.Goals as goal

pub assign-requires-clause-free : goal.assign-requires-clause-free
assign-requires-clause-free c =
    let m = c.requires.sound.trail.mirror in
    let l : c.in-Some.place < length c.args.trail.now.codes.items = omega (arith, c.in-Some.ensures.found.0, mirror_le c.args.trail.now m, m.codes_room) in
    let here = get_or_read c.args.trail.now.codes.items c.in-Some.place c.index-code.result.now l c.index-code.ensures 0 in
    flip_freed c.args.trail.now c.cut.new.self c.in-Some.place c.index-code.result.now c.negation.result m c.in-Some.ensures.found.0 c.cut.ensures.trail.mirror c.cut.ensures.cuts here c.negation.ensures.variable

pub returns-clause-sound : goal.returns-clause-sound
returns-clause-sound c =
    let m = c.requires.sound.trail.mirror in
    let l : c.in-Some.place < length c.args.trail.now.codes.items = omega (arith, c.in-Some.ensures.found.0, mirror_le c.args.trail.now m, m.codes_room) in
    let here = get_or_read c.args.trail.now.codes.items c.in-Some.place c.index-code.result.now l c.index-code.ensures 0 in
    record {
      trail = c.assign.ensures.trail;
      forced = flip_forced c.args.cnf.now c.args.trail.now c.cut.new.self c.assign.new.self c.in-Some.place c.index-code.result.now c.negation.result FLIPPED m c.requires.sound.forced c.requires.refuted c.in-Some.ensures.found.0 c.cut.ensures.trail.mirror c.cut.ensures.cuts c.assign.ensures.enters here c.negation.ensures.variable c.negation.ensures.sign c.in-Some.ensures.found.2;
      implied = c.requires.sound.implied;
    }

pub returns-clause-rank : goal.returns-clause-rank
returns-clause-rank c = λ t. turn_falls c.args.trail.now c.cut.new.self c.assign.new.self c.in-Some.place c.negation.result FLIPPED c.requires.sound.trail.mirror c.in-Some.ensures.found.0 c.in-Some.ensures.found.1 c.cut.ensures.cuts c.assign.ensures.enters (λ e. absurd (omega arith))
