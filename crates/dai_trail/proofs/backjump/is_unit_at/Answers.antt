use Rattle.std.proofs.Common.{arith, ◌<◌, ◌/◌, ℕ, List, length, get_or, refl, sym, ◌∙◌, subst}
use Rattle.std.proofs.lemmas.List.{get_or_read, take_rest}
use Rattle.std.proofs.lemmas.Grind.{common_steps}
use Rattle.dai_trail.specs.Trail.{IsFalseIn}
use Rattle.dai_trail.specs.Marks.{AreFalseBelow}
use Rattle.dai_trail.proofs.Mirrors.{mirror_le, in_range, value_small}
use Rattle.dai_trail.proofs.backjump.is_unit_at.Goals as goal

pub index-requires : goal.index-requires
index-requires c = omega (arith, mirror_le c.args.trail.now c.requires.mirror, c.requires.mirror.reasons_room)

pub returns-then-at-place : goal.returns-then-at-place
returns-then-at-place c = λ yes.
    let l : c.args.place < length c.args.trail.now.reasons.items = omega (arith, mirror_le c.args.trail.now c.requires.mirror, c.requires.mirror.reasons_room) in
    let lost : IsFalseIn c.args.trail.now (get_or c.args.codes.now 0 0) = c.if-not-is_false.ensures.0 refl in
    let small = in_range c.args.trail.now (get_or c.args.codes.now 0 0 / 2) (value_small c.args.trail.now (get_or c.args.codes.now 0 0) lost) in
    let small' : get_or c.args.codes.now 0 0 / 2 < length c.args.trail.now.places.items = omega (arith, small, c.requires.mirror.places_room) in
    let r = get_or_read c.args.trail.now.places.items (get_or c.args.codes.now 0 0 / 2) c.index-at.result.now small' c.index-at.ensures 0 in
    let P : List ℕ → Type 0 = λ xs. AreFalseBelow c.args.trail.now xs c.args.place in
    record {
      within = omega arith;
      decision = sym (get_or_read c.args.trail.now.reasons.items c.args.place c.index.result.now l c.index.ensures 0) ∙ c.if-index.false;
      some = grind (arith, common_steps);
      assigned = lost;
      freed = rw (← r) c.if-at-place.true;
      others = subst P (take_rest c.args.codes.now 1) (c.are_false_below.ensures yes);
    }
