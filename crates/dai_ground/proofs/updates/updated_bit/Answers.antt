use Rattle.std.proofs.Common.{map, ap, ◌∙◌}
use Rattle.dai_circuit.specs.declared.bit.Bit.TheVariants.{Known}
use Rattle.dai_logic.specs.Protocols.{protocol_of}
use Rattle.dai_logic.specs.Trees.{term_of, formula_of}
use Rattle.dai_ground.proofs.TableBits.{kept_finds}
use Rattle.dai_ground.proofs.updates.updated_bit.Goals as goal

pub returns-in-Known-false : goal.returns-in-Known-false
returns-in-Known-false c =
    kept_finds (protocol_of c.args.scene.now.protocol.now) c.args.scene.now.frame.now c.args.scene.now.picture.now (map term_of c.args.update.now.target.now) c.args.update.now.sorts.now c.args.tuple.now (formula_of c.args.update.now.body.now) c.args.old c.in_ok-condition.condition c.args.circuit.now c.matching.new.circuit (c.in-Known-false.is ∙ ap Known c.in-Known-false.field-0-test) c.matching.ensures.extends c.in_ok-condition.ensures.answer c.requires.old
