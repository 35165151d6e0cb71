use Rattle.std.proofs.Common.{false, ap, ◌∙◌}
use Rattle.dai_trail.specs.Formula.{Formula}
use Rattle.dai_logic.specs.Protocols.{protocol_of}
use Rattle.dai_ground.specs.Asking.{block_asked}
use Rattle.dai_ground.proofs.Posings.{decided_of}
use Rattle.dai_ground.proofs.question.ground_wide.Goals as goal

pub posed-requires-clause-drawing : goal.posed-requires-clause-drawing
posed-requires-clause-drawing c = (false, c.args.sizes.now, c.in_ok-drawing.ensures)

pub returns-clause-question : goal.returns-clause-question
returns-clause-question c = c.in_ok-wide.ensures.question false c.args.sizes.now c.in_ok-drawing.ensures

pub returns-clause-decided : goal.returns-clause-decided
returns-clause-decided c =
    let P = protocol_of c.args.protocol.now in
    decided_of P (block_asked P c.args.block) false c.args.sizes.now c.drawn.new.circuit c.in_ok-drawing.drawing c.in_ok-wide.wide (c.in_ok-wide.ensures.bits ∙ (c.vars-bits.ensures ∙ ap (λ (f : Formula). f.vars) c.formula.ensures)) c.in_ok-wide.ensures.frame c.in_ok-wide.ensures.picture c.in_ok-drawing.ensures
