use Rattle.dai_circuit.proofs.Extensions.{same_second_known, same_second_is}
use Rattle.dai_circuit.proofs.circuit.Circuit.same_as_literal.Goals as goal

pub returns-in-Known : goal.returns-in-Known
returns-in-Known c = same_second_known c.args.self.now c.args.first c.args.second c.signed.result c.in-Known.value c.in-Known.is c.signed.ensures c.requires.first

pub returns-in-Is : goal.returns-in-Is
returns-in-Is c = same_second_is c.args.self.now c.same_literals.new.self c.same_literals.result c.args.first c.args.second c.in-Is.lit c.in-Is.is c.same_literals.ensures
