use Rattle.std.proofs.Common.{map, take}
use Rattle.std.specs.List.{All}
use Rattle.dai_model.specs.Value.{Satisfies}
use Rattle.dai_logic.specs.Protocols.{protocol_of}
use Rattle.dai_logic.specs.Trees.{formula_of}
use Rattle.dai_ground.specs.Asking.{RestrictsTo}
use Rattle.dai_ground.proofs.restricting.restrict_each.Given as goal

abbrev pub invariant-loop-number : goal.invariant-loop-number
invariant-loop-number l = RestrictsTo (protocol_of l.scene.protocol.now) l.scene.frame.now l.scene.picture.now (λ s. All (Satisfies s) (take l.number (map formula_of l.formulas))) l.initial.circuit l.circuit
