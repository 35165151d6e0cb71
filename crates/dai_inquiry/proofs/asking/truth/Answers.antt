use Rattle.std.proofs.lemmas.Result.{IfOk-weaker}
use Rattle.dai_logic.specs.Protocols.{protocol_of}
use Rattle.dai_logic.specs.Trees.{formula_of}
use Rattle.dai_ground.proofs.Restrictions.{closed_in}
use Rattle.dai_inquiry.specs.Truths.{IsTruth}
use Rattle.dai_inquiry.proofs.Bits.{truth_of}
use Rattle.dai_inquiry.proofs.asking.truth.Goals as goal

pub ground_alone-requires : goal.ground_alone-requires
ground_alone-requires c = closed_in (protocol_of c.args.scene.now.protocol.now) c.args.scene.now.frame.now c.args.scene.now.picture.now c.args.circuit.now.vars (formula_of c.args.formula.now) c.requires.scene c.requires.closed

pub returns-clause-truth : goal.returns-clause-truth
returns-clause-truth c =
    let P = protocol_of c.args.scene.now.protocol.now in
    let f = formula_of c.args.formula.now in
    IfOk-weaker c.ground_alone.result _ (IsTruth P c.args.scene.now.frame.now c.args.scene.now.picture.now f c.ground_alone.new.circuit)
    (λ bit h. truth_of P c.args.scene.now.frame.now c.args.scene.now.picture.now f c.ground_alone.new.circuit bit c.requires.closed h)
    c.ground_alone.ensures.answer
