use Rattle.std.proofs.Common.{true, subst}
use Rattle.dai_circuit.specs.declared.bit.Bit.TheVariants.{Known}
use Rattle.dai_logic.specs.Protocols.{protocol_of}
use Rattle.dai_logic.specs.Trees.{statements_of}
use Rattle.dai_ground.specs.Leaving.{LeavesCode}
use Rattle.dai_ground.proofs.Leadings.{copied_picture, block_code}
use Rattle.dai_ground.proofs.Posings.{frame_kept, picture_kept}
use Rattle.dai_inquiry.proofs.Opened.{followed}
use Rattle.dai_inquiry.proofs.opening.follow.Goals as goal

pub restrict_to_axioms-requires : goal.restrict_to_axioms-requires
restrict_to_axioms-requires c = record { parameters = c.requires.0.parameters; choices = c.requires.0.choices; drawn = c.requires.3; pictured = c.requires.4 }

pub run-requires-clause-code : goal.run-requires-clause-code
run-requires-clause-code c =
    let P = protocol_of c.args.scene.now.protocol.now in
    let frame = c.args.scene.now.frame.now in
    let called = c.requires.0 in
    let old = c.args.circuit.now in
    let met = c.restrict_to_axioms.new.circuit in
    let grows = c.in_ok-restrict_to_axioms.ensures.grows in
    block_code P called frame c.in_ok-after.after met.vars (statements_of c.args.code.now) c.requires.1 c.requires.2 (frame_kept P called.parameters called.choices old.vars met.vars frame grows c.requires.3)
    (copied_picture P frame.slots.items met.vars c.args.scene.now.picture.now c.in_ok-after.after c.in_ok-after.ensures (picture_kept P frame.slots.items old.vars met.vars c.args.scene.now.picture.now grows c.requires.4))

pub returns : goal.returns
returns c = λ called code sorted drawn.
    let P = protocol_of c.args.scene.now.protocol.now in
    let frame = c.args.scene.now.frame.now in
    let left = subst (λ cs. LeavesCode P frame cs c.in_ok-after.after (Known true) c.run.new.circuit c.run.new.picture c.in_ok-ok.ok) code c.in_ok-ok.ensures.leaves in
    followed P called frame c.args.scene.now.picture.now c.in_ok-after.after c.run.new.picture c.in_ok-ok.ok c.args.circuit.now c.restrict_to_axioms.new.circuit c.run.new.circuit c.require.new.self sorted drawn c.requires.4 c.in_ok-restrict_to_axioms.ensures c.in_ok-after.ensures c.run.ensures.extends left c.in_ok-require.ensures.ok
