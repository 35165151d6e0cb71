use Rattle.std.proofs.Common.{◌∷◌, ◌∙◌, [], ap, sym, subst, arith}
use Rattle.std.specs.Option.{option_map}
use Rattle.std.proofs.lemmas.List.{length-map, map-append}
use Rattle.dai_model.specs.Protocol.{Action}
use Rattle.dai_logic.specs.Protocols.{protocol_of, action_of}
use Rattle.dai_table.specs.Steps.{AreSteps, flags_in, lists_in}
use Rattle.dai_table.proofs.Valued.{items}
use Rattle.dai_table.proofs.Tabling.{action_block, actions_next}
use Rattle.dai_table.proofs.table.action_steps.Goals as goal

pub steps_by-requires-clause-block : goal.steps_by-requires-clause-block
steps_by-requires-clause-block c =
    let long = length-map c.args.protocol.now.actions.items action_of in
    let end = c.len-number-end.ensures in
    let below = c.loop-number-test.true in
    action_block (protocol_of c.args.protocol.now) c.loop-number.number (omega (arith, long, end, below))

pub loop-number-preserved : goal.loop-number-preserved
loop-number-preserved c =
    let P = protocol_of c.args.protocol.now in
    let n = c.loop-number.number in
    let old = c.loop-number.actions.items in
    let steps = c.in_ok-steps.steps in
    let gained = ap lists_in c.in_ok-push.ensures.items ∙ map-append _ old (steps ∷ []) in
    actions_next P (flags_in c.args.states.now) n (lists_in old) (lists_in c.push.new.self.items) steps.items gained (λ a is. subst (λ m. AreSteps P a.block (flags_in c.args.states.now) m steps.items) (sym (length-map c.args.states.now items)) (c.in_ok-steps.ensures a.block (ap (option_map (λ (b : Action). b.block)) is))) c.loop-number.invariant
