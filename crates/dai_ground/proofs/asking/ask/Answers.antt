use Rattle.std.proofs.Common.{[], map, sym, subst, length, ◌<◌}
use Rattle.std.proofs.lemmas.List.Elements.{All-nil, All-same}
use Rattle.dai_logic.specs.Protocols.{protocol_of}
use Rattle.dai_logic.specs.Trees.{formula_of}
use Rattle.dai_ground.specs.Answers.{picked}
use Rattle.dai_ground.specs.Asking.{block_asked}
use Rattle.dai_ground.proofs.Answering.{question_goes_on}
use Rattle.dai_ground.specs.Turns.{IsTurn, IsOpenQuestion}
use Rattle.dai_ground.proofs.asking.ask.Goals as goal

pub loop-turn-init : goal.loop-turn-init
loop-turn-init c =
    let P = protocol_of c.args.protocol.now in
    let premises = map formula_of c.args.premises.now in (
      subst (λ used. IsOpenQuestion P (block_asked P c.args.block) (picked premises used) (formula_of c.args.broken.now) c.args.sizes.now c.in_ok-wide.wide) (sym c.new-used.ensures.items) c.in_ok-wide.ensures.question,
      All-same (λ k. k < length premises) c.new-used.result.items [] c.new-used.ensures.items (All-nil (λ k. k < length premises)),
    )

pub take_turn-requires-clause-question : goal.take_turn-requires-clause-question
take_turn-requires-clause-question c =
    let P = protocol_of c.args.protocol.now in
    (picked (map formula_of c.args.premises.now) c.loop-turn.used.items, formula_of c.args.broken.now, c.args.sizes.now, c.loop-turn.invariant.0)

pub loop-turn-preserved : goal.loop-turn-preserved
loop-turn-preserved c =
    let P = protocol_of c.args.protocol.now in
    let asked = block_asked P c.args.block in
    let premises = map formula_of c.args.premises.now in
    let f = formula_of c.args.broken.now in
    let used = c.loop-turn.used.items in
    let open' = c.loop-turn.invariant in
    let turn = subst (IsTurn P asked premises (picked premises used) f c.args.sizes.now) c.in-Again.is (c.in_ok-take_turn.ensures (picked premises used) f c.args.sizes.now open'.0) in
    question_goes_on P asked premises used c.push.new.self.items c.in-Again.number f c.args.sizes.now c.in-Again.next c.in_ok-push-in-Again.ensures.items open'.1 turn
