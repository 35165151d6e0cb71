use Rattle.std.proofs.Common.{arith, ◌<◌, sym, ◌∙◌}
use Rattle.dai_trail.proofs.Forces.{forced_widens, forced_cut}
use Rattle.dai_trail.proofs.Turns.{none_contradiction}
use Rattle.dai_sat.proofs.entry.prepare.Goals as goal

pub enter_all-requires : goal.enter_all-requires
enter_all-requires c = record {
  sound = record {
    trail = c.in_ok-fit.ensures.trail;
    forced = forced_widens c.args.cnf.now c.restart.new.self c.fit.new.self
        (forced_cut c.args.cnf.now c.args.trail.now c.restart.new.self c.restart.new.self.len c.requires.sound.forced c.restart.ensures.cuts c.restart.ensures.within)
        c.in_ok-fit.ensures.same;
    implied = c.requires.sound.implied;
  };
}

pub returns-clause-none : goal.returns-clause-none
returns-clause-none c = λ t.
    none_contradiction c.args.cnf.now c.enter_all.new.trail c.in_ok-refuted.ensures.sound.forced (c.in_ok-refuted.ensures.conflict t)
    (λ i l is.
    let s = c.in_ok-refuted.ensures.kept.stood i l is in
    let w = c.in_ok-fit.ensures.same in
    let l' : i < c.restart.new.self.len = let x = s.0 in omega (arith, w.len) in
    c.restart.ensures.none i l' (sym (w.reasons i) ∙ s.1))
