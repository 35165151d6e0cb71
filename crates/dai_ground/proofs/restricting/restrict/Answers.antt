use Rattle.std.proofs.Common.{subst}
use Rattle.std.proofs.lemmas.Result.{on_ok_weaker}
use Rattle.dai_logic.specs.Protocols.{protocol_of}
use Rattle.dai_logic.specs.Trees.{formula_of}
use Rattle.dai_ground.specs.Grounding.{IsValue}
use Rattle.dai_ground.specs.Findings.{HasValue}
use Rattle.dai_ground.proofs.Restrictions.{restricts_value}
use Rattle.dai_ground.proofs.restricting.restrict.Goals as goal

pub returns : goal.returns
returns c =
    let f = formula_of c.args.formula.now in
    let mid = c.ground.new.circuit in
    let new = c.require.new.self in
    let bit = subst (λ b. HasValue (IsValue (protocol_of c.args.scene.now.protocol.now) c.args.scene.now.frame.now c.args.scene.now.picture.now b f) mid c.in_ok-bit.bit) c.new-binding.ensures c.in_ok-bit.ensures.grounds.answer in
    on_ok_weaker c.require.result
    (λ r. restricts_value (protocol_of c.args.scene.now.protocol.now) c.args.scene.now.frame.now c.args.scene.now.picture.now f c.args.value c.args.circuit.now mid new c.in_ok-bit.bit c.signed.result c.requires.scene c.requires.closed c.signed.ensures c.ground.ensures.grounds.extends bit r)
    c.require.ensures.ok
