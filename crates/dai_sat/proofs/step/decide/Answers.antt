use Rattle.std.proofs.Common.{arith, ◌≤◌, refl}
use Rattle.dai_trail.specs.declared.trail.TheConstants.{DECISION}
use Rattle.dai_trail.proofs.Forces.{forced_points, forced_cut, enters_points}
use Rattle.dai_sat.proofs.Decisions.{free_same}
use Rattle.dai_sat.proofs.step.decide.Goals as goal

pub returns-clause-sound : goal.returns-clause-sound
returns-clause-sound c =
    let le : c.args.trail.now.len ≤ c.args.trail.now.len = omega arith in
    record {
      trail = c.assign.ensures.trail;
      forced = forced_points c.args.cnf.now c.settle_root.new.self c.assign.new.self c.args.code DECISION
          (forced_cut c.args.cnf.now c.args.trail.now c.settle_root.new.self c.args.trail.now.len c.requires.sound.forced c.settle_root.ensures.same le)
          (enters_points c.settle_root.new.self c.assign.new.self c.args.code DECISION c.settle_root.ensures.trail.mirror
          (free_same c.args.trail.now c.settle_root.new.self c.args.code c.settle_root.ensures.values c.requires.free) c.assign.ensures.enters)
          (λ bits model agree differs. absurd (differs refl));
      implied = c.requires.sound.implied;
    }
