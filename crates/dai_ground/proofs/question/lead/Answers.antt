use Rattle.std.proofs.Common.{◌≡◌, true, sym, ◌∙◌, subst}
use Rattle.std.proofs.lemmas.Option.{same_Some}
use Rattle.std.proofs.lemmas.Result.{on_ok_weaker}
use Rattle.dai_model.specs.Protocol.{Block}
use Rattle.dai_circuit.specs.declared.bit.Bit.TheVariants.{Known}
use Rattle.dai_logic.specs.Protocols.{protocol_of}
use Rattle.dai_logic.specs.Trees.{statements_of}
use Rattle.dai_logic.proofs.Accepted.{is_protocol}
use Rattle.dai_logic.proofs.Calls.{well_sorted_block}
use Rattle.dai_picture.specs.Pictures.{IsFrame}
use Rattle.std.specs.Option.{option_copied}
use Rattle.dai_ground.specs.Asking.{formula_asked}
use Rattle.dai_ground.specs.Leaving.{LeavesCode}
use Rattle.dai_ground.proofs.Leadings.{copied_picture, shows_copied, block_code, leads_by}
use Rattle.dai_ground.proofs.question.lead.Goals as goal

pub run-requires-clause-code : goal.run-requires-clause-code
run-requires-clause-code c =
    let called = c.requires.frame.0 in
    let named = c.requires.frame.1 in
    block_code (protocol_of c.args.scene.now.protocol.now) called c.args.scene.now.frame.now c.in_ok-after.after c.args.circuit.now.vars (statements_of c.code_of-code.result.now) (c.code_of-code.ensures called named) (well_sorted_block (protocol_of c.args.scene.now.protocol.now) c.args.block called (is_protocol c.args.scene.now.protocol.now) named) c.requires.frame.2
    (copied_picture (protocol_of c.args.scene.now.protocol.now) c.args.scene.now.frame.now.slots.items c.args.circuit.now.vars c.args.scene.now.picture.now c.in_ok-after.after c.in_ok-after.ensures c.requires.picture)

pub returns : goal.returns
returns c =
    on_ok_weaker c.deny.result
    (λ r called exact named.
    let own = c.requires.frame.0 in
    let same : own ≡ called = same_Some own called (sym c.requires.frame.1 ∙ named) in
    let drawn = subst (λ (b : Block). IsFrame (protocol_of c.args.scene.now.protocol.now) b.parameters b.choices c.args.circuit.now.vars c.args.scene.now.frame.now) same c.requires.frame.2 in
    let left = subst (λ cs. LeavesCode (protocol_of c.args.scene.now.protocol.now) c.args.scene.now.frame.now cs c.in_ok-after.after (Known true) c.run.new.circuit c.run.new.picture c.in_ok-ok.ok) (c.code_of-code.ensures called named) c.in_ok-ok.ensures.leaves in
    leads_by (protocol_of c.args.scene.now.protocol.now) called exact (formula_asked (option_copied c.args.broken)) c.args.scene.now.frame.now c.args.scene.now.picture.now c.in_ok-after.after c.run.new.picture c.in_ok-ok.ok c.args.circuit.now c.run.new.circuit c.require.new.self c.deny.new.circuit drawn c.requires.picture
    (λ bits s shows. shows_copied (protocol_of c.args.scene.now.protocol.now) c.args.scene.now.frame.now c.args.scene.now.picture.now c.in_ok-after.after c.in_ok-after.ensures bits s shows)
    (well_sorted_block (protocol_of c.args.scene.now.protocol.now) c.args.block called (is_protocol c.args.scene.now.protocol.now) named).code c.run.ensures.extends left c.in_ok-require.ensures.ok r)
    c.deny.ensures
