use Rattle.std.proofs.Common.{map, sym, subst}
use Rattle.std.proofs.lemmas.List.Elements.{All-set}
use Rattle.std.proofs.lemmas.Result.{IfOk-weaker}
use Rattle.dai_logic.specs.Protocols.{protocol_of, block_named}
use Rattle.dai_logic.specs.Trees.{formula_of}
use Rattle.dai_ground.specs.Answers.{IsAnswerTo}
use Rattle.dai_inquiry.specs.Inquiries.{IsInquiry}
use Rattle.dai_inquiry.proofs.Places.{place_inside, place_is}
use Rattle.dai_inquiry.proofs.Turning.{inquiry_later}
use Rattle.dai_inquiry.proofs.by_block.ByBlock.ask.Goals as goal

pub returns-clause-open : goal.returns-clause-open
returns-clause-open c =
    let P = protocol_of c.args.protocol.now in
    let sizes = c.args.sizes.now in
    let q = c.place_of.new.self in
    let old = c.index_mut-inquiry.result.now in
    let here = subst (IsInquiry P sizes) (sym c.index_mut-inquiry.ensures.value) (c.place_of.ensures.open c.in_ok-place.place old (place_inside q c.args.block c.in_ok-place.place c.in_ok-place.ensures.place)) in
    All-set (IsInquiry P sizes) q.opened.items c.in_ok-place.place c.ask.new.self (inquiry_later P sizes old c.ask.new.self c.ask.ensures.later here) c.place_of.ensures.open

pub returns-clause-answer : goal.returns-clause-answer
returns-clause-answer c =
    let P = protocol_of c.args.protocol.now in
    let sizes = c.args.sizes.now in
    let premises = map formula_of c.args.premises.now in
    let f = formula_of c.args.broken.now in
    let q = c.place_of.new.self in
    let old = c.index_mut-inquiry.result.now in
    let here = subst (IsInquiry P sizes) (sym c.index_mut-inquiry.ensures.value) (c.place_of.ensures.open c.in_ok-place.place old (place_inside q c.args.block c.in_ok-place.place c.in_ok-place.ensures.place)) in
    let of = place_is q c.args.block c.in_ok-place.place old c.in_ok-place.ensures.place c.index_mut-inquiry.ensures.value in
    IfOk-weaker c.ask.result _ (IsAnswerTo P (block_named P c.args.block) premises f sizes)
    (λ a h. subst (λ b. IsAnswerTo P (block_named P b) premises f sizes a) of (h sizes here))
    c.ask.ensures.answer
