use Rattle.std.proofs.Common.{ap, ◌∙◌}
use Rattle.dai_circuit.specs.declared.bit.Bit.TheVariants.{Known}
use Rattle.dai_ground.proofs.Choices.{choose_same, choose_first, choose_second}
use Rattle.dai_ground.proofs.choosing.if_then_else.Goals as goal

pub returns-then-is_same : goal.returns-then-is_same
returns-then-is_same c = choose_same c.args.circuit.now c.args.condition c.args.first c.args.second (c.is_same.ensures c.if-is_same.true) c.requires.first

pub returns-in-Known-true : goal.returns-in-Known-true
returns-in-Known-true c = choose_first c.args.circuit.now c.args.condition c.args.first c.args.second (c.in-Known-true.is ∙ ap Known c.in-Known-true.field-0-test) c.requires.first

pub returns-in-Known-false : goal.returns-in-Known-false
returns-in-Known-false c = choose_second c.args.circuit.now c.args.condition c.args.first c.args.second (c.in-Known-false.is ∙ ap Known c.in-Known-false.field-0-test) c.requires.second
