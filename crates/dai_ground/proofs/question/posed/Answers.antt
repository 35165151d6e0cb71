use Rattle.std.proofs.Common.{map, refl, sym, subst}
use Rattle.std.specs.Option.{option_copied}
use Rattle.dai_logic.specs.Protocols.{protocol_of}
use Rattle.dai_logic.specs.Trees.{formula_of}
use Rattle.dai_picture.specs.Pictures.{IsPicture}
use Rattle.dai_ground.specs.Asking.{block_asked, formula_asked}
use Rattle.dai_ground.proofs.Posings.{question_of}
use Rattle.dai_ground.proofs.question.posed.Goals as goal

pub pose-requires-clause-frame : goal.pose-requires-clause-frame
pose-requires-clause-frame c = c.requires.drawing.2.drawn

pub pose-requires-clause-picture : goal.pose-requires-clause-picture
pose-requires-clause-picture c =
    subst (λ ss. IsPicture (protocol_of c.args.protocol.now) ss c.args.circuit.vars c.args.drawing.picture) (sym c.requires.drawing.2.slots_are) c.requires.drawing.2.pictured

pub returns-clause-question : goal.returns-clause-question
returns-clause-question c = λ exact sizes h.
    let P = protocol_of c.args.protocol.now in
    question_of P (block_asked P c.args.block) exact sizes (map formula_of c.args.before.now) (formula_asked (option_copied c.args.broken)) c.args.circuit c.pose.new.circuit c.args.drawing _ c.into_formula.ensures.same refl refl h (c.in_ok-pose.ensures exact)
