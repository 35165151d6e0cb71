use Rattle.std.proofs.Common.{arith, ◌≡◌, ◌<◌, ◌+◌, ◌-◌, ◌/◌, length, refl, ap, ◌∙◌, set}
use Rattle.std.specs.Prelude.{min}
use Rattle.std.proofs.lemmas.List.{get_or_read}
use Rattle.dai_trail.specs.Trail.{code_at}
use Rattle.dai_trail.proofs.Mirrors.{mirror_le, drops_trail, true_small, in_range}
use Rattle.dai_trail.proofs.trail.Trail.pop.Goals as goal

pub index-code-requires : goal.index-code-requires
index-code-requires c = omega (arith, mirror_le c.args.self.now c.requires.trail.mirror, c.requires.trail.mirror.codes_room)

pub index_mut-requires : goal.index_mut-requires
index_mut-requires c =
    let top : c.args.self.now.len - 1 < c.args.self.now.len = omega (arith, c.requires.above) in
    let l : c.args.self.now.len - 1 < length c.args.self.now.codes.items = omega (arith, mirror_le c.args.self.now c.requires.trail.mirror, c.requires.trail.mirror.codes_room) in
    let r : c.index-code.result.now ≡ code_at c.args.self.now (c.args.self.now.len - 1) = get_or_read c.args.self.now.codes.items (c.args.self.now.len - 1) c.index-code.result.now l c.index-code.ensures 0 in
    let small = in_range c.args.self.now _ (true_small c.args.self.now _ (c.requires.trail.mirror.holding (c.args.self.now.len - 1) top)) in
    rw r (omega (arith, small))

pub returns-clause-trail : goal.returns-clause-trail
returns-clause-trail c =
    let l : c.args.self.now.len - 1 < length c.args.self.now.codes.items = omega (arith, c.requires.above, mirror_le c.args.self.now c.requires.trail.mirror, c.requires.trail.mirror.codes_room) in
    let r : c.index-code.result.now ≡ code_at c.args.self.now (c.args.self.now.len - 1) = get_or_read c.args.self.now.codes.items (c.args.self.now.len - 1) c.index-code.result.now l c.index-code.ensures 0 in
    let e : c.args.self.now.len ≡ (c.args.self.now.len - 1) + 1 = omega (arith, c.requires.above) in
    drops_trail c.args.self.now _ (c.args.self.now.len - 1) c.requires.trail c.requires.above
    (record { last = e; len = refl; codes = refl; reasons = refl; places = refl; values = ap (λ x. set c.args.self.now.values.items (x / 2) 2) r })
    refl
    (c.min-self.ensures ∙ ap (λ x. min c.args.self.now.next (x / 2)) r)
