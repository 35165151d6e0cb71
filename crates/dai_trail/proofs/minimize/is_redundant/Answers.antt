use Rattle.std.proofs.Common.{arith, ◌≡◌, ◌<◌, ◌⊎◌, ℕ, length, get_or, subst}
use Rattle.std.proofs.lemmas.List.{get_or_read}
use Rattle.dai_trail.specs.Marks.{IsCoveredBeside}
use Rattle.dai_trail.proofs.Mirrors.{mirror_le}
use Rattle.dai_trail.proofs.minimize.is_redundant.Goals as goal

pub index-reason-requires : goal.index-reason-requires
index-reason-requires c = omega (arith, mirror_le c.args.trail.now c.requires.sound.trail.mirror, c.requires.sound.trail.mirror.reasons_room)

pub index-requires : goal.index-requires
index-requires c = omega (arith, mirror_le c.args.trail.now c.requires.sound.trail.mirror, c.requires.sound.trail.mirror.codes_room)

pub returns : goal.returns
returns c = λ yes.
    let l : c.args.place < length c.args.trail.now.codes.items = omega (arith, mirror_le c.args.trail.now c.requires.sound.trail.mirror, c.requires.sound.trail.mirror.codes_room) in
    let here = get_or_read c.args.trail.now.codes.items c.args.place c.index.result.now l c.index.ensures 0 in
    let Q : ℕ → Type 0 = λ q. (k : ℕ) → k < length c.in-Some.codes.now → (get_or c.in-Some.codes.now k 0 ≡ q) ⊎ IsCoveredBeside c.args.trail.now c.args.marks.now q (get_or c.in-Some.codes.now k 0) in
    record { codes = c.in-Some.codes.now; implied = c.in-Some.ensures; covers = subst Q here (c.are_covered.ensures yes) }
