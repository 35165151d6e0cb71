use Rattle.std.proofs.Common.{false, ◌∙◌}
use Rattle.dai_logic.specs.Protocols.{protocol_of}
use Rattle.dai_logic.specs.Trees.{formula_of}
use Rattle.dai_ground.specs.Questions.{IsRefined}
use Rattle.dai_ground.proofs.Answering.{AreDecoded, decodable_of, scene_of, truth_shown, excluded_of, refined_last}
use Rattle.dai_ground.proofs.wide.Wide.refine.Goals as goal

pub decode-requires : goal.decode-requires
decode-requires c =
    let P = protocol_of c.args.protocol.now in
    let q = c.requires.question in
    decodable_of P q.0 q.1 q.2 q.3 q.4 c.args.self.now c.args.model.now c.requires.model q.5

pub add-requires-clause-scene : goal.add-requires-clause-scene
add-requires-clause-scene c =
    let P = protocol_of c.args.protocol.now in
    let q = c.requires.question in
    scene_of P q.0 q.1 q.2 q.3 q.4 c.args.self.now q.5

pub returns-clause-excluded : goal.returns-clause-excluded
returns-clause-excluded c = λ added asked decided bits met agree.
    let P = protocol_of c.args.protocol.now in
    let g = formula_of c.args.premise.now in
    let old = c.args.self.now in
    let model = c.args.model.now in
    let q = c.requires.question in
    let shown = q.5.asks.shows model c.requires.model.meets in
    let are : AreDecoded P old.frame old.picture model c.in_ok-decoded.decoded = record { structure = c.in_ok-decoded.ensures.structure; arguments = c.in_ok-decoded.ensures.arguments; choices = c.in_ok-decoded.ensures.choices } in
    let is = truth_shown P old.frame old.picture model c.in_ok-decoded.decoded g false shown.0 are (c.in_ok-is_true.ensures ∙ c.if-branch.false) shown.2 in
    let r = c.in_ok-add.ensures in
    let refined : IsRefined P g old c.add.new.self = record { bits = r.bits; frame = r.frame; picture = r.picture; restricts = r.restricts } in
    excluded_of P asked g old c.add.new.self model bits shown.0 decided refined shown.2 is met agree

pub returns-clause-question : goal.returns-clause-question
returns-clause-question c = λ added asked exact sizes before broken h.
    let P = protocol_of c.args.protocol.now in
    let g = formula_of c.args.premise.now in
    let r = c.in_ok-add.ensures in
    let refined : IsRefined P g c.args.self.now c.add.new.self = record { bits = r.bits; frame = r.frame; picture = r.picture; restricts = r.restricts } in
    refined_last P asked exact sizes before broken g c.args.self.now c.add.new.self refined h
