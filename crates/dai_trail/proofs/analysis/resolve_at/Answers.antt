use Rattle.std.proofs.Common.{arith, ◌<◌, ◌∙◌, length}
use Rattle.std.proofs.lemmas.List.{get_or_read}
use Rattle.dai_trail.proofs.Mirrors.{mirror_le}
use Rattle.dai_trail.proofs.Resolutions.{all_ok, ok_map, marks_resolve}
use Rattle.dai_trail.proofs.analysis.resolve_at.Goals as goal

pub index-reason-requires : goal.index-reason-requires
index-reason-requires c = omega (arith, mirror_le c.args.trail.now c.requires.sound.trail.mirror, c.requires.sound.trail.mirror.reasons_room)

pub index-code-requires : goal.index-code-requires
index-code-requires c = omega (arith, mirror_le c.args.trail.now c.requires.sound.trail.mirror, c.requires.sound.trail.mirror.codes_room)

pub returns-clause-marks : goal.returns-clause-marks
returns-clause-marks c =
    let l : c.args.place < length c.args.trail.now.codes.items = omega (arith, mirror_le c.args.trail.now c.requires.sound.trail.mirror, c.requires.sound.trail.mirror.codes_room) in
    let here = get_or_read c.args.trail.now.codes.items c.args.place c.index-code.result.now l c.index-code.ensures 0 in
    all_ok c.mark_clause.result c.mark_clause.ensures.stamps c.mark_clause.ensures.listed c.mark_clause.ensures.more c.mark_clause.ensures.covered
    (λ stamps listed more covered. record {
      stamps = stamps;
      listed = listed;
      refute = marks_resolve c.args.cnf.now c.args.trail.now c.args.marks.now c.unmark.new.self c.mark_clause.new.self c.in-Some.codes.now c.args.place c.index-code.result.now
          c.requires.sound.trail c.requires.sound.forced c.in-Some.ensures c.requires.marks.refute c.unmark.ensures.unmarks more c.requires.within here covered;
    })

pub returns-clause-named : goal.returns-clause-named
returns-clause-named c = ok_map c.mark_clause.result c.mark_clause.ensures.more (λ more. more.named ∙ c.unmark.ensures.unmarks.named)
