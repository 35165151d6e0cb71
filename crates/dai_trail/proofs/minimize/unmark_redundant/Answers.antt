use Rattle.std.proofs.Common.{arith, rules, ◌<◌, ◌/◌, length, refl}
use Rattle.std.proofs.lemmas.List.{get_or_read}
use Rattle.dai_trail.proofs.Mirrors.{mirror_le}
use Rattle.dai_trail.proofs.Resolutions.{marks_drop, marks_listed}
use Rattle.dai_trail.proofs.minimize.unmark_redundant.Goals as goal

pub index-requires : goal.index-requires
index-requires c = omega (arith, mirror_le c.args.trail.now c.requires.sound.trail.mirror, c.requires.sound.trail.mirror.codes_room)

pub returns-clause-marks : goal.returns-clause-marks
returns-clause-marks c =
    let within : c.in-Some.place < c.args.trail.now.len = omega arith in
    let l : c.in-Some.place < length c.args.trail.now.codes.items = omega (arith, mirror_le c.args.trail.now c.requires.sound.trail.mirror, c.requires.sound.trail.mirror.codes_room) in
    let here = get_or_read c.args.trail.now.codes.items c.in-Some.place c.index.result.now l c.index.ensures 0 in
    record {
      stamps = search (rules, c.unmark.ensures.stamps);
      listed = marks_listed c.args.trail.now c.args.marks.now c.unmark.new.self (c.index.result.now / 2) c.requires.marks.listed c.unmark.ensures.unmarks;
      refute = marks_drop c.args.cnf.now c.args.trail.now c.args.marks.now c.unmark.new.self c.in-Some.place c.index.result.now
          c.requires.sound.trail c.requires.sound.forced c.requires.marks.refute (c.if-not-is_redundant.ensures refl) c.unmark.ensures.unmarks within here;
    }
