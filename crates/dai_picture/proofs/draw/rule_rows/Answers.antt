use Rattle.std.proofs.Common.{ℕ, List, sym, ◌∙◌, subst}
use Rattle.dai_logic.specs.Protocols.{protocol_of}
use Rattle.dai_picture.specs.Pictures.{rows_of}
use Rattle.dai_picture.specs.Rules.{Constrains, MarkUsed, AreOverUsed}
use Rattle.dai_picture.proofs.Declared.{sorts_in, sorts_declared}
use Rattle.dai_picture.proofs.Ruled.{over_frame, ruled}
use Rattle.dai_picture.proofs.draw.rule_rows.Goals as goal

pub mark_each-requires : goal.mark_each-requires
mark_each-requires c =
    subst (λ (sorts : List ℕ). AreOverUsed c.order_each.new.circuit.vars (rows_of c.args.drawing.now.frame.used) sorts (rows_of c.args.drawing.now.picture.values)) (sym (c.as_slice.ensures.value ∙ c.in_ok-sorts.ensures))
    (over_frame (protocol_of c.args.protocol.now) c.args.parameters.now c.args.locals.now c.args.circuit.now.vars c.order_each.new.circuit.vars c.args.drawing.now.frame (sorts_in (protocol_of c.args.protocol.now)) (rows_of c.args.drawing.now.picture.values) c.requires.frame c.in_ok-order_each.ensures.vars (sorts_declared c.args.protocol.now) c.requires.picture.values)

pub mark_each-requires-2 : goal.mark_each-requires-2
mark_each-requires-2 c =
    over_frame (protocol_of c.args.protocol.now) c.args.parameters.now c.args.locals.now c.args.circuit.now.vars c.mark_each.new.circuit.vars c.args.drawing.now.frame c.args.locals.now (rows_of c.args.drawing.now.frame.choices) c.requires.frame (c.in_ok-mark_each.ensures.vars ∙ c.in_ok-order_each.ensures.vars) c.requires.locals c.requires.frame.chosen

pub mark_each-requires-3 : goal.mark_each-requires-3
mark_each-requires-3 c =
    over_frame (protocol_of c.args.protocol.now) c.args.parameters.now c.args.locals.now c.args.circuit.now.vars c.mark_each-2.new.circuit.vars c.args.drawing.now.frame c.args.parameters.now (rows_of c.args.drawing.now.frame.arguments) c.requires.frame (c.in_ok-mark_each-2.ensures.vars ∙ (c.in_ok-mark_each.ensures.vars ∙ c.in_ok-order_each.ensures.vars)) c.requires.parameters c.requires.frame.named

pub returns : goal.returns
returns c =
    ruled (protocol_of c.args.protocol.now) c.args.parameters.now c.args.locals.now c.args.drawing.now.frame c.args.drawing.now.picture c.args.circuit.now c.order_each.new.circuit c.mark_each.new.circuit c.mark_each-2.new.circuit c.mark_each-3.new.circuit
    c.in_ok-order_each.ensures
    (subst (λ (sorts : List ℕ). Constrains c.order_each.new.circuit c.mark_each.new.circuit (MarkUsed (rows_of c.args.drawing.now.frame.used) sorts (rows_of c.args.drawing.now.picture.values))) (c.as_slice.ensures.value ∙ c.in_ok-sorts.ensures) c.in_ok-mark_each.ensures)
    c.in_ok-mark_each-2.ensures c.in_ok-mark_each-3.ensures
