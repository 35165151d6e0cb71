use Rattle.std.proofs.lemmas.Result.{IfOk-weaker}
use Rattle.dai_logic.specs.Protocols.{protocol_of}
use Rattle.dai_logic.specs.Trees.{formula_of}
use Rattle.dai_model.specs.Formula.{requirement}
use Rattle.dai_ground.specs.Leaving.{LeavesStatement}
use Rattle.dai_ground.proofs.Leavings.{requirement_leaves}
use Rattle.dai_ground.proofs.requirements.require.Goals as goal

pub returns-clause-leaves : goal.returns-clause-leaves
returns-clause-leaves c =
    let P = protocol_of c.args.scene.now.protocol.now in
    let f = formula_of c.args.formula.now in
    IfOk-weaker c.all.result _ (λ answer. LeavesStatement P c.args.scene.now.frame.now (requirement f) c.args.scene.now.picture.now c.args.ok c.all.new.self c.args.scene.now.picture.now answer)
    (λ answer d. requirement_leaves P c.args.scene.now.frame.now c.args.scene.now.picture.now f c.args.circuit.now c.ground_alone.new.circuit c.all.new.self c.args.ok c.in_ok-value.value answer c.requires.statement c.ground_alone.ensures.extends c.in_ok-value.ensures.answer c.all.ensures.extends d)
    c.all.ensures.answer
