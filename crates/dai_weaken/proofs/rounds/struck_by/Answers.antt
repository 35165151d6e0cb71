use Rattle.std.proofs.Common.{◌∙◌, sym, arith}
use Rattle.dai_weaken.proofs.Striking.{struck_next, others_kept, as_long}
use Rattle.dai_weaken.proofs.rounds.struck_by.Goals as goal

pub strike_if_broken-requires-clause-asked : goal.strike_if_broken-requires-clause-asked
strike_if_broken-requires-clause-asked c =
    let members = c.args.members.now in
    let here = c.loop-place.place in
    let m = c.index-members-place.result in
    let are = c.requires.members.are in
    record {
      protocol = c.requires.members.protocol;
      bounds = are.bounds;
      is = are.each m (here, c.loop-place-test.true, sym c.index-members-place.is);
      fits = c.requires.members.fits;
    }

pub loop-place-preserved : goal.loop-place-preserved
loop-place-preserved c =
    let space = c.args.space.now in
    let s = c.args.state.now in
    let members = c.args.members.now in
    let here = c.loop-place.place in
    let m = c.index-members-place.result in
    let old = c.args.struck.now.items in
    let struck = c.loop-place.struck.items in
    let new = c.strike_if_broken.new.struck.items in
    let clauses = c.loop-place.clauses.items in
    let more = c.strike_if_broken.new.clauses.items in
    let known = c.loop-place.invariant in
    let one = c.in_ok-strike_if_broken.ensures in
    record {
      long = as_long space s m here struck new clauses more one ∙ known.long;
      rest = others_kept space s m here old struck new clauses more one known.rest;
      struck = λ P are fits. struck_next P space s members old struck here m clauses known.long c.loop-place-test.true c.index-members-place.is are fits (known.rest here (let e = c.loop-place-test.true in omega (arith, e))) (known.struck P are fits) new more one;
    }
