use Rattle.std.proofs.Common.{arith, ◌≡◌, ◌<◌, ◌≤◌, ◌-◌, ◌/◌, ℕ, length, ap, sym, ◌∙◌, subst, inl, inr}
use Rattle.std.proofs.lemmas.Bool.{cases_eq}
use Rattle.std.proofs.lemmas.List.{get_or_read}
use Rattle.dai_trail.specs.Trail.{code_at}
use Rattle.dai_trail.specs.Marks.{IsMarked}
use Rattle.dai_trail.proofs.Mirrors.{mirror_le}
use Rattle.dai_trail.proofs.marks.Marks.last_marked.Goals as goal

pub index-requires : goal.index-requires
index-requires c = omega (arith, mirror_le c.args.trail.now c.requires.trail.mirror, c.requires.trail.mirror.codes_room, c.loop-place.invariant.within, c.requires.within)

pub loop-place-preserved : goal.loop-place-preserved
loop-place-preserved c = record {
  within = omega (arith, c.loop-place.invariant.within);
  none = λ i a b h. elim (cases_eq i (c.loop-place.place - 1)) [
    | inl e ↦
        let l : c.loop-place.place - 1 < length c.args.trail.now.codes.items = omega (arith, mirror_le c.args.trail.now c.requires.trail.mirror, c.requires.trail.mirror.codes_room, c.loop-place.invariant.within, c.requires.within, c.loop-place-test.true) in
        let r = get_or_read c.args.trail.now.codes.items (c.loop-place.place - 1) c.index.result.now l c.index.ensures 0 in
        let q : code_at c.args.trail.now i / 2 ≡ c.index.result.now / 2 = ap (λ j. code_at c.args.trail.now j / 2) e ∙ ap (λ x. x / 2) (sym r) in
        let P : ℕ → Type 0 = λ v. IsMarked c.args.self.now v in
        let marked : IsMarked c.args.self.now (c.index.result.now / 2) = subst P q h in
        let no = c.if-is_marked.ensures.1 marked in
        cc
    | inr n ↦ let a' : c.loop-place.place ≤ i = omega arith in c.loop-place.invariant.none i a' b h
  ];
}
