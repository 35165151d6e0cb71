use Rattle.std.proofs.Common.{ap, ◌∙◌, subst}
use Rattle.dai_logic.specs.Protocols.{protocol_of}
use Rattle.dai_trail.specs.Formula.{Formula}
use Rattle.dai_picture.specs.declared.rows.Known.{Known}
use Rattle.dai_picture.specs.Drawing.{known_of, AreDrawn, AreInOrder}
use Rattle.dai_picture.proofs.DrawnWorld.{draws, begun}
use Rattle.dai_picture.proofs.draw.draw.Goals as goal

pub rule_rows-requires-clause-begun : goal.rule_rows-requires-clause-begun
rule_rows-requires-clause-begun c =
    begun (protocol_of c.args.protocol.now) c.args.parameters.now c.args.locals.now c.args.slots.now c.args.exact c.args.circuit.now c.draw_rows.new.circuit c.in_ok-drawing.drawing
    (subst (λ (which : Known). AreDrawn (protocol_of c.args.protocol.now) c.args.parameters.now c.args.locals.now c.args.slots.now which c.args.circuit.now c.draw_rows.new.circuit c.in_ok-drawing.drawing) c.known_slots-known.ensures c.in_ok-drawing.ensures)

pub returns-clause-draws : goal.returns-clause-draws
returns-clause-draws c =
    draws (protocol_of c.args.protocol.now) c.args.parameters.now c.args.locals.now c.args.slots.now c.args.exact c.args.circuit.now c.draw_rows.new.circuit c.rule_rows.new.circuit c.in_ok-drawing.drawing c.requires.empty
    (subst (λ (which : Known). AreDrawn (protocol_of c.args.protocol.now) c.args.parameters.now c.args.locals.now c.args.slots.now which c.args.circuit.now c.draw_rows.new.circuit c.in_ok-drawing.drawing) c.known_slots-known.ensures c.in_ok-drawing.ensures)
    c.in_ok-rule_rows.ensures

pub returns-clause-in_order : goal.returns-clause-in_order
returns-clause-in_order c = λ is.
    let d = c.in_ok-drawing.drawing in
    subst (λ (f : Formula). AreInOrder f.vars d.start d.frame d.picture) c.requires.empty (c.in_ok-drawing.ensures.in_order (c.known_slots-known.ensures ∙ ap known_of is))
