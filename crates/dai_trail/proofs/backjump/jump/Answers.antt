use Rattle.std.proofs.Common.{arith, ◌≡◌, ◌≤◌, ◌++◌, ◌∷◌, [], ℕ, List, get_or, sym, subst}
use Rattle.dai_trail.specs.Trail.{AreImplied}
use Rattle.dai_trail.proofs.Mirrors.{value_small}
use Rattle.dai_trail.proofs.Forces.{forced_points, forced_cut, enters_points}
use Rattle.dai_trail.proofs.Turns.{freed_by_cut, turn_falls, implied_push, unit_at_follows}
use Rattle.dai_trail.proofs.backjump.jump.Goals as goal

pub returns-clause-sound : goal.returns-clause-sound
returns-clause-sound c =
    let u = c.requires.unit in
    let m = c.requires.sound.trail.mirror in
    let small = value_small c.args.trail.now (get_or c.args.codes.now 0 0) u.assigned in
    let f = freed_by_cut c.args.trail.now c.cut.new.self c.args.target.place (get_or c.args.codes.now 0 0) c.cut.ensures.trail.mirror c.cut.ensures.cuts small u.freed in
    let le : c.args.target.place ≤ c.args.trail.now.len = omega (arith, u.within) in
    let e : c.add.new.self ≡ c.args.learned.now ++ c.args.codes.now ∷ [] = c.in_ok-add.ensures.ok in
    let P : List (List ℕ) → Type 0 = λ db. AreImplied c.args.cnf.now db in
    record {
      trail = c.assign.ensures.trail;
      forced = forced_points c.args.cnf.now c.cut.new.self c.assign.new.self _ _
          (forced_cut c.args.cnf.now c.args.trail.now c.cut.new.self c.args.target.place c.requires.sound.forced c.cut.ensures.cuts le)
          (enters_points c.cut.new.self c.assign.new.self _ _ c.cut.ensures.trail.mirror f c.assign.ensures.enters)
          (λ bits model agree differs. unit_at_follows c.args.cnf.now c.args.trail.now c.cut.new.self c.args.codes.now c.args.target.place m c.cut.ensures.trail.mirror c.cut.ensures.cuts c.requires.implied u bits model agree);
      implied = subst P (sym e) (implied_push c.args.cnf.now c.args.learned.now c.args.codes.now c.requires.sound.implied c.requires.implied);
    }

pub returns-clause-rank : goal.returns-clause-rank
returns-clause-rank c =
    turn_falls c.args.trail.now c.cut.new.self c.assign.new.self c.args.target.place _ _ c.requires.sound.trail.mirror c.requires.unit.within c.requires.unit.decision c.cut.ensures.cuts c.assign.ensures.enters (λ e. absurd (omega (arith, c.learned_name-name.ensures)))
