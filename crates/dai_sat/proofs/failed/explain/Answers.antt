use Rattle.std.proofs.Common.{arith, ◌<◌, ℕ, length, sym, ◌∙◌, subst}
use Rattle.std.proofs.lemmas.List.{get_or_read}
use Rattle.dai_trail.specs.Marks.{AreStamps}
use Rattle.dai_trail.proofs.Mirrors.{mirror_le}
use Rattle.dai_trail.proofs.Resolutions.{marks_name, names_listed}
use Rattle.dai_sat.proofs.Unders.{names_push}
use Rattle.dai_sat.proofs.failed.explain.Goals as goal

pub index-requires : goal.index-requires
index-requires c = omega (arith, mirror_le c.args.trail.now c.requires.sound.trail.mirror, c.requires.sound.trail.mirror.reasons_room)

pub index-requires-2 : goal.index-requires-2
index-requires-2 c = omega (arith, mirror_le c.args.trail.now c.requires.sound.trail.mirror, c.requires.sound.trail.mirror.codes_room)

pub returns-clause-marks : goal.returns-clause-marks
returns-clause-marks c = λ t.
    let l : c.args.place < length c.args.trail.now.codes.items = omega (arith, mirror_le c.args.trail.now c.requires.sound.trail.mirror, c.requires.sound.trail.mirror.codes_room) in
    let here = get_or_read c.args.trail.now.codes.items c.args.place c.index-2.result.now l c.index-2.ensures 0 in
    let P : ℕ → Type 0 = λ n. AreStamps c.name.new.self n in
    record {
      stamps = subst P c.requires.marks.stamps.room c.in_ok-name.ensures.stamps;
      listed = names_listed c.args.trail.now c.args.marks.now c.name.new.self c.index-2.result.now c.requires.marks.listed c.in_ok-name.ensures.names;
      refute = marks_name c.args.cnf.now c.args.trail.now c.args.marks.now c.name.new.self c.args.place c.index-2.result.now c.requires.sound.trail c.requires.marks.refute c.in_ok-name.ensures.names c.requires.within here;
    }

pub returns-clause-names : goal.returns-clause-names
returns-clause-names c = λ t.
    let m = c.requires.sound.trail.mirror in
    let l : c.args.place < length c.args.trail.now.codes.items = omega (arith, mirror_le c.args.trail.now m, m.codes_room) in
    let l' : c.args.place < length c.args.trail.now.reasons.items = omega (arith, mirror_le c.args.trail.now m, m.reasons_room) in
    let here = get_or_read c.args.trail.now.codes.items c.args.place c.index-2.result.now l c.index-2.ensures 0 in
    let is = sym (get_or_read c.args.trail.now.reasons.items c.args.place c.index.result.now l' c.index.ensures 0) ∙ c.if-index.false in
    names_push c.args.trail.now c.args.code c.args.marks.now.named.items c.name.new.self.named.items c.args.place c.index-2.result.now c.requires.names c.in_ok-name.ensures.names.named c.requires.within is here
