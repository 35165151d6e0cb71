use Rattle.dai_ground.proofs.Choices.{choose_defines}
use Rattle.dai_ground.proofs.choosing.choose.Goals as goal

pub returns : goal.returns
returns c =
    choose_defines c.args.circuit.now c.all.new.self c.all-2.new.self c.any.new.self c.args.condition c.negation.result c.args.first c.args.second c.in_ok-met.met c.in_ok-unmet.unmet c.any.result c.negation.ensures c.all.ensures.extends c.in_ok-met.ensures.answer c.all-2.ensures.extends c.in_ok-unmet.ensures.answer c.any.ensures
