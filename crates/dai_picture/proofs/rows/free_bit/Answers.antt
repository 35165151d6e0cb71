use Rattle.dai_picture.proofs.FreeRows.{bit_known, bit_input}
use Rattle.dai_picture.proofs.rows.free_bit.Goals as goal

pub returns-then-known : goal.returns-then-known
returns-then-known c = bit_known c.args.circuit.now c.args.known c.if-known.true

pub returns : goal.returns
returns c = bit_input c.args.circuit.now c.input.new.self c.args.known c.input.result c.if-known.false c.input.ensures.ok
