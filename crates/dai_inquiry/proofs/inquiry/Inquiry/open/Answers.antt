use Rattle.std.proofs.Common.{◌≡◌, ◌<◌, [], false, length, sym, ap, subst}
use Rattle.std.specs.List.{All}
use Rattle.dai_logic.specs.Parts.{block_of}
use Rattle.dai_logic.specs.Protocols.{protocol_of}
use Rattle.dai_logic.specs.Trees.{statements_of}
use Rattle.dai_logic.proofs.Accepted.{is_protocol}
use Rattle.dai_picture.specs.Pictures.{IsFrame, IsPicture}
use Rattle.dai_picture.specs.Worlds.{Draws}
use Rattle.dai_inquiry.specs.declared.inquiry.Pictures.{Pictures}
use Rattle.std.proofs.lemmas.List.Elements.{All-nil, All-same}
use Rattle.dai_picture.specs.declared.picture.Picture.{Picture}
use Rattle.dai_template.specs.ClauseFormulas.{formula_of_clause}
use Rattle.dai_inquiry.specs.declared.truths.Truth.{Truth}
use Rattle.dai_inquiry.specs.declared.truths.Truths.{Truths}
use Rattle.dai_inquiry.specs.Keys.{clause_in}
use Rattle.dai_inquiry.specs.Truths.{IsTruth, AreTruths}
use Rattle.dai_inquiry.specs.Inquiries.{IsOpen}
use Rattle.dai_inquiry.proofs.Opened.{opened, named_some, sorted_named}
use Rattle.dai_inquiry.proofs.inquiry.Inquiry.open.Goals as goal

pub draw-requires-clause-parameters : goal.draw-requires-clause-parameters
draw-requires-clause-parameters c =
    let P = protocol_of c.args.protocol.now in
    let n = named_some P c.args.block c.requires.known in
    let well = sorted_named P c.args.block n.0 (block_of c.called-called.result.now) (is_protocol c.args.protocol.now) n.1 (c.called-called.ensures n.0 n.1) in
    subst (All (λ sort. sort < length P.sorts)) (sym c.deref.ensures.value) well.parameters

pub draw-requires-clause-locals : goal.draw-requires-clause-locals
draw-requires-clause-locals c =
    let P = protocol_of c.args.protocol.now in
    let n = named_some P c.args.block c.requires.known in
    let well = sorted_named P c.args.block n.0 (block_of c.called-called.result.now) (is_protocol c.args.protocol.now) n.1 (c.called-called.ensures n.0 n.1) in
    subst (All (λ sort. sort < length P.sorts)) (sym c.deref-2.ensures.value) well.choices

pub follow-requires : goal.follow-requires
follow-requires c =
    let P = protocol_of c.args.protocol.now in
    let n = named_some P c.args.block c.requires.known in
    let called = block_of c.called-called.result.now in
    let well = sorted_named P c.args.block n.0 called (is_protocol c.args.protocol.now) n.1 (c.called-called.ensures n.0 n.1) in
    let d = c.in_ok-drawing.drawing in
    let vars = c.draw.new.circuit.vars in
    let drawn = subst (λ ps. IsFrame P ps called.choices vars d.frame) c.deref.ensures.value (subst (λ cs. IsFrame P c.deref.result.now cs vars d.frame) c.deref-2.ensures.value c.in_ok-drawing.ensures.frame) in
    let pictured = subst (λ ss. IsPicture P ss vars d.picture) (sym c.in_ok-drawing.ensures.slots) c.in_ok-drawing.ensures.picture in
    (called, ap statements_of c.deref-3.ensures.value, well, drawn, pictured)

pub returns-clause-is_open : goal.returns-clause-is_open
returns-clause-is_open c =
    let P = protocol_of c.args.protocol.now in
    let n = named_some P c.args.block c.requires.known in
    let called = block_of c.called-called.result.now in
    let is = c.called-called.ensures n.0 n.1 in
    let well = sorted_named P c.args.block n.0 called (is_protocol c.args.protocol.now) n.1 is in
    let d = c.in_ok-drawing.drawing in
    let vars = c.draw.new.circuit.vars in
    let drawn = subst (λ ps. IsFrame P ps called.choices vars d.frame) c.deref.ensures.value (subst (λ cs. IsFrame P c.deref.result.now cs vars d.frame) c.deref-2.ensures.value c.in_ok-drawing.ensures.frame) in
    let pictured = subst (λ ss. IsPicture P ss vars d.picture) (sym c.in_ok-drawing.ensures.slots) c.in_ok-drawing.ensures.picture in
    let draws = subst (λ ps. Draws P ps called.choices false c.draw.new.circuit d.frame d.picture) c.deref.ensures.value (subst (λ cs. Draws P c.deref.result.now cs false c.draw.new.circuit d.frame d.picture) c.deref-2.ensures.value c.in_ok-drawing.ensures.draws) in
    let follows = c.in_ok-after.ensures called (ap statements_of c.deref-3.ensures.value) well drawn in
    let p : Pictures = record { frame = d.frame; before = d.picture; after = c.in_ok-after.after } in
    let none : (picture : Picture) (truths : Truths) → truths.kept.items ≡ [] → AreTruths P d.frame picture c.follow.new.circuit truths.kept.items =
    λ picture truths none. All-same (λ (t : Truth). IsTruth P d.frame picture (formula_of_clause P (clause_in t.key)) c.follow.new.circuit t.bit) truths.kept.items [] none (All-nil (λ (t : Truth). IsTruth P d.frame picture (formula_of_clause P (clause_in t.key)) c.follow.new.circuit t.bit)) in
    let here = opened P called c.args.sizes.now c.draw.new.circuit c.follow.new.circuit p c.in_ok-drawing.ensures.slots drawn pictured draws follows in
    record { called = n.0; named = n.1; is_open = subst (λ b. IsOpen P b c.args.sizes.now c.follow.new.circuit p) is here; premises = none d.picture c.new.result c.new.ensures; goals = none c.in_ok-after.after c.new-2.result c.new-2.ensures }
