use Rattle.std.proofs.Common.{arith, ℕ, ◌≤◌, get_or, below_more}
use Rattle.dai_trail.specs.declared.trail.TheConstants.{FLIPPED}
use Rattle.dai_trail.proofs.Mirrors.{forgets_refl, forgets_trans}
use Rattle.dai_trail.proofs.trail.Trail.forget_reasons.Goals as goal

pub loop-place-init : goal.loop-place-init
loop-place-init c = record { trail = c.requires; forgets = forgets_refl c.args.self.now; none = λ i l. absurd (omega arith) }

pub loop-place-preserved : goal.loop-place-preserved
loop-place-preserved c =
    let i = c.loop-place.invariant in
    let P : ℕ → Type 0 = λ k. FLIPPED ≤ get_or c.forget_reason.new.self.reasons.items k 0 in
    record {
      trail = c.forget_reason.ensures.trail;
      forgets = forgets_trans c.args.self.now c.loop-place.self c.forget_reason.new.self i.forgets c.forget_reason.ensures.forgets;
      none = below_more P c.loop-place.place (λ k l. c.forget_reason.ensures.others k (i.none k l)) c.forget_reason.ensures.here;
    }
