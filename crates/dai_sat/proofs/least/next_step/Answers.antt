use Rattle.std.proofs.Common.{arith, ◌≤◌}
use Rattle.dai_trail.proofs.Forces.{sound_cut}
use Rattle.dai_sat.proofs.least.next_step.Goals as goal

pub returns-in-Some-clause-sound : goal.returns-in-Some-clause-sound
returns-in-Some-clause-sound c = let le : c.advance.new.trail.len ≤ c.advance.new.trail.len = omega arith in sound_cut c.args.cnf.now c.advance.new.learned c.advance.new.trail c.first_free.new.self c.advance.new.trail.len c.in_ok-advance.ensures.sound c.first_free.ensures.trail c.first_free.ensures.same le

pub full_model-requires-clause-sound : goal.full_model-requires-clause-sound
full_model-requires-clause-sound c = let le : c.advance.new.trail.len ≤ c.advance.new.trail.len = omega arith in sound_cut c.args.cnf.now c.advance.new.learned c.advance.new.trail c.first_free.new.self c.advance.new.trail.len c.in_ok-advance.ensures.sound c.first_free.ensures.trail c.first_free.ensures.same le

pub returns-in-Some-2-clause-sound : goal.returns-in-Some-2-clause-sound
returns-in-Some-2-clause-sound c = let le : c.advance.new.trail.len ≤ c.advance.new.trail.len = omega arith in sound_cut c.args.cnf.now c.advance.new.learned c.advance.new.trail c.first_free.new.self c.advance.new.trail.len c.in_ok-advance.ensures.sound c.first_free.ensures.trail c.first_free.ensures.same le

pub turn-requires-clause-sound : goal.turn-requires-clause-sound
turn-requires-clause-sound c = let le : c.advance.new.trail.len ≤ c.advance.new.trail.len = omega arith in sound_cut c.args.cnf.now c.advance.new.learned c.advance.new.trail c.first_free.new.self c.advance.new.trail.len c.in_ok-advance.ensures.sound c.first_free.ensures.trail c.first_free.ensures.same le
