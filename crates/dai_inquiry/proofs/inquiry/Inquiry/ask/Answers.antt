use Rattle.std.proofs.Common.{◌<◌, length, map, refl, sym, subst, arith}
use Rattle.std.proofs.lemmas.List.{length-map}
use Rattle.dai_logic.specs.Protocols.{protocol_of, block_named}
use Rattle.dai_logic.specs.Trees.{formula_of}
use Rattle.dai_ground.specs.declared.found.Answer.TheVariants.{Holds, Broken}
use Rattle.dai_inquiry.specs.declared.asked.Asked.{Asked}
use Rattle.dai_inquiry.specs.declared.inquiry.Pictures.{Pictures}
use Rattle.dai_inquiry.specs.Truths.{IsPick}
use Rattle.dai_inquiry.specs.Asked.{AreAsked, IsTurn}
use Rattle.dai_inquiry.proofs.Bits.{keys_enough}
use Rattle.dai_inquiry.proofs.Cores.{asked_pushed}
use Rattle.dai_inquiry.proofs.Turning.{later_after, inquiry_later, asked_later, turn_answers}
use Rattle.dai_inquiry.proofs.inquiry.Inquiry.ask.Goals as goal

pub loop-turn-init : goal.loop-turn-init
loop-turn-init c =
    let P = protocol_of c.args.protocol.now in
    let premises = map formula_of c.args.premises.now in
    let f = formula_of c.args.broken.now in
    let old = c.args.self.now in
    let here = c.goal_bit.new.self in
    let later = c.goal_bit.ensures.later in
    let asked : Asked = record { goal = c.in_ok-goal.goal; premises = c.in_ok-known.field-0 } in
    let are : AreAsked P old.pictures premises f here.circuit asked = record {
      goal = c.in_ok-goal.ensures.truth;
      each = c.in_ok-known.ensures P old.pictures.frame old.pictures.before here.circuit premises (later.premises c.requires.inquiry.1.premises) c.requires.keys;
    } in
    record { later = later; asked = subst (λ (p : Pictures). AreAsked P p premises f here.circuit asked) (sym later.pictures) are }

pub take_turn-requires-clause-inquiry : goal.take_turn-requires-clause-inquiry
take_turn-requires-clause-inquiry c =
    (c.requires.inquiry.0, inquiry_later (protocol_of c.args.protocol.now) c.requires.inquiry.0 c.args.self.now c.loop-turn.self c.loop-turn.invariant.later c.requires.inquiry.1)

pub take_turn-requires-clause-asked : goal.take_turn-requires-clause-asked
take_turn-requires-clause-asked c = (formula_of c.args.broken.now, c.loop-turn.invariant.asked)

pub returns-in_err-numbers-clause-later : goal.returns-in_err-numbers-clause-later
returns-in_err-numbers-clause-later c =
    later_after (protocol_of c.args.protocol.now) c.args.self.now c.loop-turn.self c.take_turn.new.self c.loop-turn.invariant.later c.take_turn.ensures.later

pub returns-in-Done-clause-later : goal.returns-in-Done-clause-later
returns-in-Done-clause-later c =
    later_after (protocol_of c.args.protocol.now) c.args.self.now c.loop-turn.self c.take_turn.new.self c.loop-turn.invariant.later c.take_turn.ensures.later

pub returns-in-Done-clause-answer : goal.returns-in-Done-clause-answer
returns-in-Done-clause-answer c = λ sizes q.
    let P = protocol_of c.args.protocol.now in
    let f = formula_of c.args.broken.now in
    let premises = map formula_of c.args.premises.now in
    let now = c.loop-turn.self in
    let here = inquiry_later P sizes c.args.self.now now c.loop-turn.invariant.later q in
    let turn = subst (IsTurn P (block_named P now.block) premises f sizes) c.in-Done.is (c.in_ok-numbers.ensures.turn sizes f here c.loop-turn.invariant.asked) in
    turn_answers P sizes premises f c.args.self.now now (Holds c.in-Done.numbers) c.loop-turn.invariant.later turn

pub returns-in-Shown-clause-later : goal.returns-in-Shown-clause-later
returns-in-Shown-clause-later c =
    later_after (protocol_of c.args.protocol.now) c.args.self.now c.loop-turn.self c.take_turn.new.self c.loop-turn.invariant.later c.take_turn.ensures.later

pub returns-in-Shown-clause-answer : goal.returns-in-Shown-clause-answer
returns-in-Shown-clause-answer c = λ sizes q.
    let P = protocol_of c.args.protocol.now in
    let f = formula_of c.args.broken.now in
    let premises = map formula_of c.args.premises.now in
    let now = c.loop-turn.self in
    let here = inquiry_later P sizes c.args.self.now now c.loop-turn.invariant.later q in
    let turn = subst (IsTurn P (block_named P now.block) premises f sizes) c.in-Shown.is (c.in_ok-numbers.ensures.turn sizes f here c.loop-turn.invariant.asked) in
    turn_answers P sizes premises f c.args.self.now now (Broken c.in-Shown.found) c.loop-turn.invariant.later turn

pub ground_premise-requires-clause-inquiry : goal.ground_premise-requires-clause-inquiry
ground_premise-requires-clause-inquiry c =
    let P = protocol_of c.args.protocol.now in
    let sizes = c.requires.inquiry.0 in
    let here = inquiry_later P sizes c.args.self.now c.loop-turn.self c.loop-turn.invariant.later c.requires.inquiry.1 in
    (sizes, inquiry_later P sizes c.loop-turn.self c.take_turn.new.self c.take_turn.ensures.later here)

pub ground_premise-requires-clause-inside : goal.ground_premise-requires-clause-inside
ground_premise-requires-clause-inside c =
    let P = protocol_of c.args.protocol.now in
    let premises = map formula_of c.args.premises.now in
    let f = formula_of c.args.broken.now in
    let now = c.loop-turn.self in
    let sizes = c.requires.inquiry.0 in
    let here = inquiry_later P sizes c.args.self.now now c.loop-turn.invariant.later c.requires.inquiry.1 in
    let many = length-map c.args.premises.now formula_of in
    let turn : c.in-Again.number < length premises = subst (IsTurn P (block_named P now.block) premises f sizes) c.in-Again.is (c.in_ok-numbers.ensures.turn sizes f here c.loop-turn.invariant.asked) in
    let below : c.in-Again.number < length c.args.premises.now = omega arith in
    below

pub ground_premise-requires-clause-named : goal.ground_premise-requires-clause-named
ground_premise-requires-clause-named c =
    let P = protocol_of c.args.protocol.now in
    let premises = map formula_of c.args.premises.now in
    let f = formula_of c.args.broken.now in
    let now = c.loop-turn.self in
    let sizes = c.requires.inquiry.0 in
    let here = inquiry_later P sizes c.args.self.now now c.loop-turn.invariant.later c.requires.inquiry.1 in
    let many = length-map c.args.premises.now formula_of in
    let turn : c.in-Again.number < length premises = subst (IsTurn P (block_named P now.block) premises f sizes) c.in-Again.is (c.in_ok-numbers.ensures.turn sizes f here c.loop-turn.invariant.asked) in
    let below : c.in-Again.number < length c.args.premises.now = omega arith in
    keys_enough P c.args.premises.now c.args.keys.now c.in-Again.number c.requires.keys below

pub returns-in_err-pick-in-Again-clause-later : goal.returns-in_err-pick-in-Again-clause-later
returns-in_err-pick-in-Again-clause-later c =
    let P = protocol_of c.args.protocol.now in
    let here = later_after P c.args.self.now c.loop-turn.self c.take_turn.new.self c.loop-turn.invariant.later c.take_turn.ensures.later in
    later_after P c.args.self.now c.take_turn.new.self c.ground_premise.new.self here c.ground_premise.ensures.later

pub returns-in_err-push-in-Again-clause-later : goal.returns-in_err-push-in-Again-clause-later
returns-in_err-push-in-Again-clause-later c =
    let P = protocol_of c.args.protocol.now in
    let here = later_after P c.args.self.now c.loop-turn.self c.take_turn.new.self c.loop-turn.invariant.later c.take_turn.ensures.later in
    later_after P c.args.self.now c.take_turn.new.self c.ground_premise.new.self here c.ground_premise.ensures.later

pub loop-turn-preserved : goal.loop-turn-preserved
loop-turn-preserved c =
    let P = protocol_of c.args.protocol.now in
    let premises = map formula_of c.args.premises.now in
    let f = formula_of c.args.broken.now in
    let now = c.loop-turn.self in
    let taken = c.take_turn.new.self in
    let next = c.ground_premise.new.self in
    let pick = c.in_ok-pick-in-Again.pick in
    let there = subst (λ (p : Pictures). IsPick P p.frame p.before premises next.circuit pick) (sym c.ground_premise.ensures.later.pictures) c.in_ok-pick-in-Again.ensures.pick in
    let asked = asked_later P premises f now taken c.loop-turn.asked c.take_turn.ensures.later c.loop-turn.invariant.asked in
    let before = asked_later P premises f taken next c.loop-turn.asked c.ground_premise.ensures.later asked in
    record {
      later = later_after P c.args.self.now taken next (later_after P c.args.self.now now taken c.loop-turn.invariant.later c.take_turn.ensures.later) c.ground_premise.ensures.later;
      asked = asked_pushed P next.pictures premises f next.circuit c.loop-turn.asked _ pick refl c.in_ok-push-in-Again.ensures.items before there;
    }
