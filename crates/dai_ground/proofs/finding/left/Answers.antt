use Rattle.std.proofs.Common.{◌≡◌, None, ap, sym, ◌∙◌, subst}
use Rattle.std.specs.Option.{option_map}
use Rattle.dai_logic.specs.Protocols.{protocol_of}
use Rattle.dai_logic.specs.Tables.{structure_of}
use Rattle.dai_logic.specs.Execution.{IsCall, IsLeft}
use Rattle.dai_ground.proofs.Answering.{call_of, left_of, none_some}
use Rattle.dai_ground.proofs.finding.left.Goals as goal

pub exec-requires-clause-call : goal.exec-requires-clause-call
exec-requires-clause-call c =
    let P = protocol_of c.args.protocol.now in
    let d = c.args.decoded.now in
    subst (λ xs. IsCall P c.in-Some.called d.structure xs c.as_slice-2.result.now) (sym c.as_slice.ensures.value)
    (subst (λ ys. IsCall P c.in-Some.called d.structure d.args.items ys) (sym c.as_slice-2.ensures.value) (call_of P c.args.block c.in-Some.called d c.in-Some.is c.requires.known c.requires.caller))

pub unreachable-requires : goal.unreachable-requires
unreachable-requires c =
    let P = protocol_of c.args.protocol.now in
    let d = c.args.decoded.now in
    let left = subst (λ xs. IsLeft P c.in-Some.called d.structure xs c.as_slice-2.result.now c.in_ok-after.after) c.as_slice.ensures.value c.in_ok-after.ensures in
    let left' = subst (λ ys. IsLeft P c.in-Some.called d.structure d.args.items ys c.in_ok-after.after) c.as_slice-2.ensures.value left in
    let is = left_of P c.args.block c.in-Some.called d c.in_ok-after.after c.in-Some.is c.requires.known left' in
    let none : option_map (structure_of P) c.in_ok-after.after ≡ None = ap (option_map (structure_of P)) c.in-None.is in
    none_some (sym none ∙ (is ∙ c.requires.caller.leaves))

pub returns-clause-left : goal.returns-clause-left
returns-clause-left c =
    let P = protocol_of c.args.protocol.now in
    let d = c.args.decoded.now in
    let left = subst (λ xs. IsLeft P c.in-Some.called d.structure xs c.as_slice-2.result.now c.in_ok-after.after) c.as_slice.ensures.value c.in_ok-after.ensures in
    let left' = subst (λ ys. IsLeft P c.in-Some.called d.structure d.args.items ys c.in_ok-after.after) c.as_slice-2.ensures.value left in
    sym (left_of P c.args.block c.in-Some.called d c.in_ok-after.after c.in-Some.is c.requires.known left') ∙ ap (option_map (structure_of P)) c.in-Some-after.is
