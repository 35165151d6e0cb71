use Rattle.std.proofs.Common.{arith, refl, ap, length}
use Rattle.std.proofs.lemmas.List.{length_push}
use Rattle.dai_trail.proofs.Mirrors.{Grows, grows_trail, grows_widens, widens_refl}
use Rattle.dai_trail.proofs.trail.Trail.fit.Goals as goal

pub loop-self-init : goal.loop-self-init
loop-self-init c = record { trail = c.requires.trail; room = c.requires.more; same = widens_refl c.args.self.now }

pub loop-self-preserved : goal.loop-self-preserved
loop-self-preserved c =
    let g : Grows c.loop-self.self _ = record {
      values = c.in_ok-push.ensures.items;
      places = c.in_ok-push-2.ensures.items;
      codes = c.in_ok-push-3.ensures.items;
      reasons = c.in_ok-push-4.ensures.items;
      len = refl;
      root = refl;
      next = refl;
    } in
    record {
      trail = grows_trail c.loop-self.self _ c.loop-self.invariant.trail g;
      room = omega (arith, ap length g.values, length_push c.loop-self.self.values.items 2, c.loop-self-test.true);
      same = grows_widens c.args.self.now c.loop-self.self _ g c.loop-self.invariant.same;
    }
