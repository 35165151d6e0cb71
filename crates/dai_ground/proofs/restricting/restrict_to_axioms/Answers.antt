use Rattle.std.proofs.Common.{map, sym, subst}
use Rattle.std.specs.List.{All}
use Rattle.std.proofs.lemmas.Result.{on_ok_weaker}
use Rattle.dai_model.specs.Value.{Satisfies}
use Rattle.dai_model.specs.WellSorted.{IsWellSorted, closed_scope}
use Rattle.dai_logic.specs.Protocols.{protocol_of}
use Rattle.dai_logic.specs.Trees.{formula_of}
use Rattle.dai_logic.proofs.Accepted.{is_protocol}
use Rattle.dai_ground.specs.Asking.{RestrictsTo}
use Rattle.dai_ground.proofs.restricting.restrict_to_axioms.Goals as goal

pub restrict_each-requires-clause-closed : goal.restrict_each-requires-clause-closed
restrict_each-requires-clause-closed c =
    subst (λ fs. All (IsWellSorted (protocol_of c.args.scene.now.protocol.now) closed_scope) (map formula_of fs)) (sym c.as_slice.ensures.value) (is_protocol c.args.scene.now.protocol.now).axioms

pub returns : goal.returns
returns c =
    on_ok_weaker c.restrict_each.result
    (λ r. subst (λ fs. RestrictsTo (protocol_of c.args.scene.now.protocol.now) c.args.scene.now.frame.now c.args.scene.now.picture.now (λ s. All (Satisfies s) (map formula_of fs)) c.args.circuit.now c.restrict_each.new.circuit) c.as_slice.ensures.value r)
    c.restrict_each.ensures
