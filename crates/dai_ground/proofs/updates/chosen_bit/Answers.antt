use Rattle.std.proofs.Common.{map}
use Rattle.dai_logic.specs.Protocols.{protocol_of}
use Rattle.dai_logic.specs.Trees.{term_of, formula_of}
use Rattle.dai_ground.proofs.TableBits.{chosen_finds}
use Rattle.dai_ground.proofs.updates.chosen_bit.Goals as goal

pub returns : goal.returns
returns c =
    chosen_finds (protocol_of c.args.scene.now.protocol.now) c.args.scene.now.frame.now c.args.scene.now.picture.now (map term_of c.args.update.now.target.now) c.args.update.now.sorts.now c.args.tuple.now (formula_of c.args.update.now.body.now) c.args.old c.args.condition c.in_ok-value.value c.args.circuit.now c.body_bit.new.circuit c.if_then_else.new.circuit c.if_then_else.result c.requires.condition c.body_bit.ensures.extends c.in_ok-value.ensures.answer c.if_then_else.ensures
