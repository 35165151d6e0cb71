use Rattle.dai_trail.proofs.Forces.{forced_forgets}
use Rattle.dai_trail.proofs.Mirrors.{forgets_refl}
use Rattle.dai_sat.proofs.pace.let_go.Goals as goal

pub returns-then-not-is_full-clause-forgets : goal.returns-then-not-is_full-clause-forgets
returns-then-not-is_full-clause-forgets c = forgets_refl c.args.trail.now

pub sweep-requires-clause-sound : goal.sweep-requires-clause-sound
sweep-requires-clause-sound c = record {
  trail = c.forget_reasons.ensures.trail;
  forced = forced_forgets c.args.cnf.now c.args.trail.now c.forget_reasons.new.self c.requires.forced c.forget_reasons.ensures.forgets;
  implied = c.requires.implied;
}
