use Rattle.std.proofs.Common.{arith, ◌<◌, ◌≤◌, ◌≡◌, ℕ, length, set, get_or, refl, sym, ◌∙◌, subst, length-set, inl, inr}
use Rattle.std.proofs.lemmas.Bool.{cases_eq}
use Rattle.std.proofs.lemmas.List.{get_or_read, get_or-set_same, get_or-set_other}
use Rattle.dai_trail.specs.declared.trail.TheConstants.{FLIPPED, DECISION}
use Rattle.dai_trail.proofs.Mirrors.{mirror_le, forgets_refl, forget_decisions, forget_trail}
use Rattle.dai_trail.proofs.trail.Trail.forget_reason.Goals as goal

pub index-requires : goal.index-requires
index-requires c = omega (arith, mirror_le c.args.self.now c.requires.trail.mirror, c.requires.trail.mirror.reasons_room)

pub index_mut-requires : goal.index_mut-requires
index_mut-requires c = omega (arith, mirror_le c.args.self.now c.requires.trail.mirror, c.requires.trail.mirror.reasons_room)

pub returns-then-index-clause-forgets : goal.returns-then-index-clause-forgets
returns-then-index-clause-forgets c = forgets_refl c.args.self.now

pub returns-then-index-clause-here : goal.returns-then-index-clause-here
returns-then-index-clause-here c =
    let l : c.args.place < length c.args.self.now.reasons.items = omega (arith, mirror_le c.args.self.now c.requires.trail.mirror, c.requires.trail.mirror.reasons_room) in
    let is = sym (get_or_read c.args.self.now.reasons.items c.args.place c.index.result.now l c.index.ensures 0) ∙ c.if-index.true in
    omega (arith, is)

pub returns-clause-trail : goal.returns-clause-trail
returns-clause-trail c =
    let l : c.args.place < length c.args.self.now.reasons.items = omega (arith, mirror_le c.args.self.now c.requires.trail.mirror, c.requires.trail.mirror.reasons_room) in
    let n : get_or c.args.self.now.reasons.items c.args.place 0 ≡ DECISION → ⊥ = λ e. c.if-index.false (get_or_read c.args.self.now.reasons.items c.args.place c.index.result.now l c.index.ensures 0 ∙ e) in
    let f : FLIPPED ≡ DECISION → ⊥ = λ e. absurd (omega arith) in
    forget_trail c.args.self.now _ c.requires.trail (length-set c.args.self.now.reasons.items c.args.place FLIPPED)
    (λ i. (forget_decisions c.args.self.now c.args.place FLIPPED c.requires.trail c.requires.within n f i).0)

pub returns-clause-forgets : goal.returns-clause-forgets
returns-clause-forgets c =
    let l : c.args.place < length c.args.self.now.reasons.items = omega (arith, mirror_le c.args.self.now c.requires.trail.mirror, c.requires.trail.mirror.reasons_room) in
    let n : get_or c.args.self.now.reasons.items c.args.place 0 ≡ DECISION → ⊥ = λ e. c.if-index.false (get_or_read c.args.self.now.reasons.items c.args.place c.index.result.now l c.index.ensures 0 ∙ e) in
    let f : FLIPPED ≡ DECISION → ⊥ = λ e. absurd (omega arith) in
    record {
      codes = refl;
      values = refl;
      len = refl;
      decisions = λ i il. (forget_decisions c.args.self.now c.args.place FLIPPED c.requires.trail c.requires.within n f i).0;
      kept = λ i il. (forget_decisions c.args.self.now c.args.place FLIPPED c.requires.trail c.requires.within n f i).1;
    }

pub returns-clause-here : goal.returns-clause-here
returns-clause-here c =
    let l : c.args.place < length c.args.self.now.reasons.items = omega (arith, mirror_le c.args.self.now c.requires.trail.mirror, c.requires.trail.mirror.reasons_room) in
    omega (arith, get_or-set_same c.args.self.now.reasons.items c.args.place FLIPPED 0 l)

pub returns-clause-others : goal.returns-clause-others
returns-clause-others c = λ i h.
    let l : c.args.place < length c.args.self.now.reasons.items = omega (arith, mirror_le c.args.self.now c.requires.trail.mirror, c.requires.trail.mirror.reasons_room) in
    elim (cases_eq i c.args.place) [
      | inl e ↦
          let P : ℕ → Type 0 = λ k. FLIPPED ≤ get_or (set c.args.self.now.reasons.items c.args.place FLIPPED) k 0 in
          subst P (sym e) (omega (arith, get_or-set_same c.args.self.now.reasons.items c.args.place FLIPPED 0 l))
      | inr n ↦ omega (arith, get_or-set_other c.args.self.now.reasons.items c.args.place i FLIPPED 0 n)
    ]
