use Rattle.std.proofs.Common.{true, refl, sym, subst}
use Rattle.dai_logic.specs.Protocols.{protocol_of}
use Rattle.dai_picture.specs.Drawing.{AreInOrder}
use Rattle.dai_ground.specs.Asking.{block_asked}
use Rattle.dai_ground.proofs.Posings.{front_of}
use Rattle.dai_ground.proofs.question.ground.Goals as goal

pub posed-requires-clause-drawing : goal.posed-requires-clause-drawing
posed-requires-clause-drawing c = (true, c.args.sizes.now, c.in_ok-drawing.ensures)

pub returns-clause-question : goal.returns-clause-question
returns-clause-question c = c.in_ok-grounded.ensures.question true c.args.sizes.now c.in_ok-drawing.ensures

pub returns-clause-front : goal.returns-clause-front
returns-clause-front c =
    let P = protocol_of c.args.protocol.now in
    front_of P (block_asked P c.args.block) true c.args.sizes.now c.drawn.new.circuit c.in_ok-drawing.drawing c.in_ok-grounded.grounded c.in_ok-grounded.ensures.bits c.in_ok-grounded.ensures.frame c.in_ok-grounded.ensures.picture c.in_ok-drawing.ensures

pub returns-clause-order : goal.returns-clause-order
returns-clause-order c =
    let d = c.in_ok-drawing.drawing in
    let q = c.in_ok-grounded.ensures in
    subst (λ n. AreInOrder 0 n c.in_ok-grounded.grounded.frame c.in_ok-grounded.grounded.picture) (sym q.bits)
    (subst (λ fr. AreInOrder 0 d.start fr c.in_ok-grounded.grounded.picture) (sym q.frame) (subst (AreInOrder 0 d.start d.frame) (sym q.picture) (c.in_ok-drawing.ensures.in_order refl)))
