use Rattle.std.proofs.Common.{map}
use Rattle.std.specs.List.{All}
use Rattle.std.specs.Option.{option_copied}
use Rattle.std.proofs.lemmas.Result.{on_ok_weaker}
use Rattle.dai_model.specs.Value.{Satisfies, SatisfiesAxioms}
use Rattle.dai_logic.specs.Protocols.{protocol_of}
use Rattle.dai_logic.specs.Trees.{formula_of}
use Rattle.dai_ground.specs.Asking.{RestrictsTo, IsScene, block_asked, parameters_asked, choices_asked, formula_asked}
use Rattle.dai_ground.proofs.Restrictions.{restricts_both}
use Rattle.dai_ground.proofs.Posings.{MeetsAll, posed_of_none, posed_of_some}
use Rattle.dai_ground.proofs.question.pose.Goals as goal

pub returns-in-None : goal.returns-in-None
returns-in-None c =
    let P = protocol_of c.args.scene.now.protocol.now in
    let frame = c.args.scene.now.frame.now in
    let picture = c.args.scene.now.picture.now in
    let asked = block_asked P c.args.block in
    let fs = map formula_of c.args.before.now in
    let a = c.args.circuit.now in
    let scene : IsScene P frame picture a.vars = record { parameters = parameters_asked asked; choices = choices_asked asked; drawn = c.requires.frame; pictured = c.requires.picture } in
    let meets : RestrictsTo P frame picture (MeetsAll P fs) a c.restrict_each.new.circuit = restricts_both P frame picture (SatisfiesAxioms P) (λ s. All (Satisfies s) fs) a c.restrict_to_axioms.new.circuit c.restrict_each.new.circuit scene c.in_ok-restrict_to_axioms.ensures c.in_ok-restrict_each.ensures in
    on_ok_weaker c.deny.result
    (λ r exact. posed_of_none P exact fs (formula_asked (option_copied c.args.broken)) frame picture c.args.block a c.restrict_each.new.circuit c.deny.new.circuit c.in-None.is c.requires.frame c.requires.picture meets r)
    c.deny.ensures

pub returns-in-Some : goal.returns-in-Some
returns-in-Some c =
    let P = protocol_of c.args.scene.now.protocol.now in
    let frame = c.args.scene.now.frame.now in
    let picture = c.args.scene.now.picture.now in
    let asked = block_asked P c.args.block in
    let fs = map formula_of c.args.before.now in
    let a = c.args.circuit.now in
    let scene : IsScene P frame picture a.vars = record { parameters = parameters_asked asked; choices = choices_asked asked; drawn = c.requires.frame; pictured = c.requires.picture } in
    let meets : RestrictsTo P frame picture (MeetsAll P fs) a c.restrict_each.new.circuit = restricts_both P frame picture (SatisfiesAxioms P) (λ s. All (Satisfies s) fs) a c.restrict_to_axioms.new.circuit c.restrict_each.new.circuit scene c.in_ok-restrict_to_axioms.ensures c.in_ok-restrict_each.ensures in
    on_ok_weaker c.lead.result
    (λ r exact. posed_of_some P exact fs (formula_asked (option_copied c.args.broken)) frame picture c.args.block c.in-Some.called a c.restrict_each.new.circuit c.lead.new.circuit c.in-Some.is c.requires.known c.requires.frame c.requires.picture meets r)
    c.lead.ensures
