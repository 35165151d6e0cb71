use Rattle.std.proofs.Common.{true, false, refl}
use Rattle.dai_logic.specs.Protocols.{protocol_of}
use Rattle.dai_logic.proofs.Calls.{made_entered, stepped_left}
use Rattle.dai_logic.proofs.execution.exec.Goals as goal

pub step-requires-clause-call : goal.step-requires-clause-call
step-requires-clause-call c =
    made_entered (protocol_of c.args.protocol.now) c.args.block c.args.s.now c.in_ok-env.env c.args.args.now c.args.choices.now c.requires.call c.in_ok-env.ensures

pub returns-then-step : goal.returns-then-step
returns-then-step c = record {
  left = stepped_left (protocol_of c.args.protocol.now) c.args.block c.args.s.now c.step.new.work.after c.in_ok-env.env c.args.args.now c.args.choices.now true c.in_ok-env.ensures c.if-step.ensures.stepped;
  fits = c.if-step.ensures.stepped.fits refl;
}

pub returns : goal.returns
returns c = record { left = stepped_left (protocol_of c.args.protocol.now) c.args.block c.args.s.now c.step.new.work.after c.in_ok-env.env c.args.args.now c.args.choices.now false c.in_ok-env.ensures c.if-step.ensures.stepped; fits = tt }
