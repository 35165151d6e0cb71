use Rattle.dai_circuit.proofs.Extensions.{same_first_known, same_first_is}
use Rattle.dai_circuit.proofs.circuit.Circuit.same.Goals as goal

pub returns-in-Known : goal.returns-in-Known
returns-in-Known c = same_first_known c.args.self.now c.args.first c.args.second c.signed.result c.in-Known.value c.in-Known.is c.signed.ensures c.requires.second

pub returns-in-Is : goal.returns-in-Is
returns-in-Is c = same_first_is c.args.self.now c.same_as_literal.new.self c.same_as_literal.result c.args.first c.args.second c.in-Is.lit c.in-Is.is c.same_as_literal.ensures
