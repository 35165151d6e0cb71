use Rattle.std.proofs.Common.{◌<◌, length, sym, subst}
use Rattle.std.specs.List.{All}
use Rattle.dai_logic.specs.Protocols.{protocol_of}
use Rattle.dai_logic.proofs.Accepted.{is_protocol}
use Rattle.dai_picture.specs.Drawing.{AreBefore}
use Rattle.dai_picture.specs.Pictures.{IsFrame}
use Rattle.dai_picture.specs.Worlds.{Draws}
use Rattle.dai_ground.specs.Asking.{block_asked, choices_asked}
use Rattle.dai_ground.proofs.Posings.{sorts_known}
use Rattle.dai_ground.proofs.question.drawn.Goals as goal

pub draw-requires-clause-parameters : goal.draw-requires-clause-parameters
draw-requires-clause-parameters c =
    subst (All (λ sort. sort < length (protocol_of c.args.protocol.now).sorts)) (sym c.parameters_of-parameters.ensures) (sorts_known (protocol_of c.args.protocol.now) c.args.block (is_protocol c.args.protocol.now)).0

pub draw-requires-clause-locals : goal.draw-requires-clause-locals
draw-requires-clause-locals c =
    subst (All (λ sort. sort < length (protocol_of c.args.protocol.now).sorts)) (sym c.choices_of-choices.ensures) (sorts_known (protocol_of c.args.protocol.now) c.args.block (is_protocol c.args.protocol.now)).1

pub returns : goal.returns
returns c =
    let P = protocol_of c.args.protocol.now in
    let cs = choices_asked (block_asked P c.args.block) in
    let exact = c.args.exact in
    let a = c.draw.new.circuit in
    let d = c.in_ok-drawing.drawing in
    let h = c.in_ok-drawing.ensures in
    record {
      slots_are = h.slots;
      drawn = subst (λ ps. IsFrame P ps cs a.vars d.frame) c.parameters_of-parameters.ensures (subst (λ ls. IsFrame P c.parameters_of-parameters.result.now ls a.vars d.frame) c.choices_of-choices.ensures h.frame);
      pictured = h.picture;
      draws = subst (λ ps. Draws P ps cs exact a d.frame d.picture) c.parameters_of-parameters.ensures (subst (λ ls. Draws P c.parameters_of-parameters.result.now ls exact a d.frame d.picture) c.choices_of-choices.ensures h.draws);
      before = subst (λ ls. AreBefore P ls d.start d.frame d.picture) c.choices_of-choices.ensures h.before;
      in_order = h.in_order;
    }
