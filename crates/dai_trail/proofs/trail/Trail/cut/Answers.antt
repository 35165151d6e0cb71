use Rattle.std.proofs.Common.{arith, ◌≡◌, refl, ◌∙◌}
use Rattle.dai_trail.proofs.Mirrors.{cuts_refl, decision_above, trail_beside}
use Rattle.dai_trail.proofs.trail.Trail.cut.Goals as goal

pub loop-self-init : goal.loop-self-init
loop-self-init c = record { trail = c.requires.trail; cuts = cuts_refl c.args.self.now; above = omega arith; root = refl }

pub pop-requires-clause-above : goal.pop-requires-clause-above
pop-requires-clause-above c =
    omega (arith, decision_above c.args.self.now c.args.place c.requires.trail c.requires.decision, c.loop-self.invariant.above, c.loop-self.invariant.root, c.loop-self-test.true)

pub loop-self-preserved : goal.loop-self-preserved
loop-self-preserved c =
    let a = c.loop-self.invariant.cuts in
    let b = c.pop.ensures.cuts in
    record {
      trail = c.pop.ensures.trail;
      cuts = record { codes = b.codes ∙ a.codes; reasons = b.reasons ∙ a.reasons; places = b.places ∙ a.places; len = refl; room = b.room ∙ a.room };
      above = omega (arith, b.len, c.loop-self-test.true);
      root = c.pop.ensures.root ∙ c.loop-self.invariant.root;
    }

pub returns-clause-trail : goal.returns-clause-trail
returns-clause-trail c = trail_beside c.loop-self.self c.args.place c.loop-self.invariant.trail

pub returns-clause-cuts : goal.returns-clause-cuts
returns-clause-cuts c =
    let a = c.loop-self.invariant.cuts in
    let e : c.loop-self.self.len ≡ c.args.place = omega (arith, c.loop-self.invariant.above, c.loop-self-test.false) in
    record { codes = a.codes; reasons = a.reasons; places = a.places; len = e; room = a.room }
