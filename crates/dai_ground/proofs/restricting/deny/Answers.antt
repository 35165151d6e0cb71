use Rattle.std.proofs.Common.{ap}
use Rattle.std.specs.Option.{option_copied}
use Rattle.std.proofs.lemmas.Result.{on_ok_weaker}
use Rattle.dai_logic.specs.Protocols.{protocol_of}
use Rattle.dai_logic.specs.Trees.{formula_of}
use Rattle.dai_ground.specs.Asking.{formula_asked}
use Rattle.dai_ground.proofs.Restrictions.{denied_none, denied_some, closed_some}
use Rattle.dai_ground.proofs.restricting.deny.Goals as goal

pub returns-in-None : goal.returns-in-None
returns-in-None c =
    denied_none (protocol_of c.args.scene.now.protocol.now) c.args.scene.now.frame.now c.args.scene.now.picture.now (formula_asked (option_copied c.args.broken)) c.args.circuit.now (ap (λ o. formula_asked (option_copied o)) c.in-None.is)

pub restrict-requires-clause-closed : goal.restrict-requires-clause-closed
restrict-requires-clause-closed c =
    closed_some (protocol_of c.args.scene.now.protocol.now) (formula_asked (option_copied c.args.broken)) (formula_of c.in-Some.formula.now) (ap (λ o. formula_asked (option_copied o)) c.in-Some.is) c.requires.closed

pub returns-in-Some : goal.returns-in-Some
returns-in-Some c =
    on_ok_weaker c.restrict.result
    (λ r. denied_some (protocol_of c.args.scene.now.protocol.now) c.args.scene.now.frame.now c.args.scene.now.picture.now (formula_asked (option_copied c.args.broken)) (formula_of c.in-Some.formula.now) c.args.circuit.now c.restrict.new.circuit (ap (λ o. formula_asked (option_copied o)) c.in-Some.is) r)
    c.restrict.ensures
